-- What judging more of a text promises: the progress by the definitions, and the arrays then show the history after it.
-- Assumes nothing.
use Rattle.std.specs.Prelude.{ℕ, List}
use Rattle.rules.specs.Calls.{History}
use Rattle.state.specs.State.{Shows}
use Rattle.judgetext.specs.declared.Progress.{Progress}
use Rattle.judgetext.specs.Texts.{Takes, ReadsByte, TextFollows}

pub record NumberRight (h : History) (at : Progress) (n : ℕ) (after : Progress) (m l : List ℕ) : Type 0 where
  pub next : History
  pub takes : Takes h at n after next
  pub shows : Shows m l next

pub record ByteRight (h : History) (at : Progress) (b : ℕ) (after : Progress) (m l : List ℕ) : Type 0 where
  pub next : History
  pub reads : ReadsByte h at b after next
  pub shows : Shows m l next

pub record TextRight (h : History) (at : Progress) (text : List ℕ) (after : Progress) (m l : List ℕ) : Type 0 where
  pub next : History
  pub follows : TextFollows h at text after next
  pub shows : Shows m l next
