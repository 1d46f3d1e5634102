-- A number and a byte more: what the steps make of the promises.
-- Assumes nothing.
use Rattle.std.proofs.Common.{◌≡◌, ℕ, false, List, [], ◌∷◌, sym, refl, ap, ◌∙◌, subst, inl, inr, arith}
use types.Run.{OneOf}
use denote.Enum.Declared.{tag_of}
use Rattle.rules.specs.Calls.{History}
use Rattle.rules.proofs.Tests.{never}
use Rattle.state.specs.State.{Shows}
use Rattle.std.specs.Prelude.{Ok, Err}
use Rattle.judge.specs.Kinds.{Finding, accepted}
use Rattle.judge.specs.Judging.{holds}
use Rattle.judge.specs.declared.Rejection.TheVariants.{Malformed}
use Rattle.logtext.specs.Scans.{Seen, seen_at}
use Rattle.judgetext.specs.declared.Held.{Held}
use Rattle.judgetext.specs.declared.Held.TheVariants.{Nothing, Kind, Stamp, Class}
use Rattle.judgetext.specs.declared.Standing.{Standing}
use Rattle.judgetext.specs.declared.Standing.TheVariants.{Right, Wrong, NotANumber}
use Rattle.judgetext.specs.contracts.Held as held-type
use Rattle.judgetext.specs.contracts.Standing as standing-type
use Rattle.judgetext.specs.declared.Progress.{Progress}
use Rattle.judgetext.specs.Texts.{completed, wrong_at, TakesTo, ReadsSeen, whole_or, standing_as}
use Rattle.judgetext.specs.Promises.{NumberRight, ByteRight}

module _ {h next : History} {at after : Progress} {m l : List ℕ} (shows : Shows m l next) where
  -- a number more, by the numbers that are held
  pub number_right : {n : ℕ} {held : Held} → at.held ≡ held → TakesTo h held at n after next → NumberRight h at n after m l
  number_right {n = n} e takes = record { next = next; takes = subst (λ (x : Held). TakesTo h x at n after next) (sym e) takes; shows = shows }

  -- a byte more, by what it shows
  pub byte_right : {b : ℕ} {seen : Seen} → seen ≡ seen_at at.scan b → ReadsSeen h seen at b after next → ByteRight h at b after m l
  byte_right {b = b} e reads = record { next = next; reads = subst (λ (x : Seen). ReadsSeen h x at b after next) e reads; shows = shows }

-- a record that is not right
pub completed_wrong : (at : Progress) (f : Finding) → holds f ≡ false → wrong_at at f ≡ completed at f
completed_wrong at (Ok _) e = never refl e
completed_wrong at (Err flaw) e = refl

-- a text that is not wrong, by the numbers that are held
module _ (standing : Standing) (kept : OneOf (0 ∷ 2 ∷ []) (tag_of standing-type.the_type standing)) where
  unwrong : (held : Held) (k : ℕ) → standing_as standing held k ≡ whole_or held k
  unwrong = by standing kept
    where
      by : (s : Standing) → OneOf (0 ∷ 2 ∷ []) (tag_of standing-type.the_type s) → (held : Held) (k : ℕ) → standing_as s held k ≡ whole_or held k
      by Right kept held k = refl
      by (Wrong f) (inl e) held k = absurd (omega arith)
      by (Wrong f) (inr e) held k = absurd (omega arith)
      by (NotANumber line) kept held k = refl

  pub judged_short : (held : Held) (k : ℕ) → OneOf (1 ∷ 2 ∷ 3 ∷ []) (tag_of held-type.the_type held) → Err (Malformed k) ≡ standing_as standing held k
  judged_short held k some = sym (unwrong held k ∙ by held some)
    where
      by : (x : Held) → OneOf (1 ∷ 2 ∷ 3 ∷ []) (tag_of held-type.the_type x) → whole_or x k ≡ Err (Malformed k)
      by Nothing (inl e) = absurd (omega arith)
      by Nothing (inr (inl e)) = absurd (omega arith)
      by Nothing (inr (inr e)) = absurd (omega arith)
      by (Kind kind) e = refl
      by (Stamp kind stamp) e = refl
      by (Class kind stamp class) e = refl

  pub judged_whole : (held : Held) (k : ℕ) → held ≡ Nothing → accepted ≡ standing_as standing held k
  judged_whole held k e = sym (unwrong held k ∙ ap (λ (x : Held). whole_or x k) e)
