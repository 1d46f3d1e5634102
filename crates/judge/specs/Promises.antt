-- What judging a part of a log promises: the judgement by the definitions, and the arrays then show the history after it.
-- Assumes nothing.
use Rattle.std.specs.Prelude.{ℕ, List}
use Rattle.rules.specs.Calls.{History}
use Rattle.records.specs.declared.Record.{Record}
use Rattle.state.specs.State.{Shows}
use Rattle.judge.specs.Kinds.{Finding, Judgement}
use Rattle.judge.specs.Judging.{RecordReplayed, Judges}

-- of one record after the history h
pub record ReplayRight (h : History) (said : Record) (finding : Finding) (m l : List ℕ) : Type 0 where
  pub next : History
  pub replayed : RecordReplayed h said finding next
  pub shows : Shows m l next

-- of the records of a part of a log after the history h, numbered from 0 within it
pub record PartRight (h : History) (log : List ℕ) (verdict : Judgement) (m l : List ℕ) : Type 0 where
  pub next : History
  pub judges : Judges h 0 log verdict next
  pub shows : Shows m l next
