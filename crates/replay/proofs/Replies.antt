-- What a line that makes no call leaves, what is told of each sort of reply, and the end of a last line.
-- Assumes nothing.
use Rattle.std.proofs.Common.{◌≡◌, ℕ, zero, suc, ◌+◌, ◌<◌, true, false, List, length, set, refl, subst, arith, length-set}
use Rattle.wording.specs.Letters.{line_feed}
use Rattle.records.specs.Records.{Entry}
use Rattle.print.specs.declared.Answer.{Answer}
use Rattle.print.specs.declared.Answer.TheVariants.{Faulty}
use Rattle.print.specs.declared.Wrong.{Wrong}
use Rattle.print.specs.Promises.{PrintsLine}
use Rattle.print.proofs.Stores.{ends_within}
use Rattle.replay.specs.declared.lines.Progress.{Progress}
use Rattle.replay.specs.Replies.{Reply, silent, says, stops, NoCall, next_line, CallPrinted, Told}
use Rattle.replay.specs.Text.{Finished}

-- a known reply, and both arrays as they were
pub unmoved : {m l : List ℕ} {reply known : Reply} → reply ≡ known → NoCall known m l reply m l
unmoved p = record { says = p; words = refl; lengths = refl }

-- how far the replay has come, with each sort of reply printed
module _ (run : Progress) (old : List ℕ) where
  pub told_silent : {n : ℕ} → n ≡ next_line run
      → Told silent run old old (record { lines = n; printed = 0; is_started = run.is_started; is_going = run.is_going; form = run.form })
  told_silent p = record { prints = (refl, refl); goes = rw p refl }

  module _ (new : List ℕ) {n k : ℕ} where
    pub told_says : {answer : Answer} {entry : Entry} → n ≡ next_line run → CallPrinted run.form answer entry old new k
        → Told (says answer entry) run old new (record { lines = n; printed = k; is_started = true; is_going = run.is_going; form = run.form })
    told_says p q = record { prints = q; goes = rw p refl }

    pub told_stops : {why : Wrong} → n ≡ next_line run → PrintsLine (Faulty n why) old new k
        → Told (stops why) run old new (record { lines = n; printed = k; is_started = run.is_started; is_going = false; form = run.form })
    told_stops {why} p q = record { prints = subst (λ (i : ℕ). PrintsLine (Faulty i why) old new k) p q; goes = rw p refl }

-- a last line without its end, and none
pub finished_none : (old : List ℕ) (kept : ℕ) → kept ≡ 0 → Finished old kept old 0
finished_none old kept e = rw e (refl, refl)

pub finished_one : (old : List ℕ) (kept : ℕ) → (kept ≡ 0 → ⊥) → kept < length old → Finished old kept (set old kept line_feed) (kept + 1)
finished_one old zero some fits = absurd (some refl)
finished_one old (suc kept) some fits = record { holds = refl; ends = refl; within = ends_within (suc kept + 1) (set old (suc kept) line_feed) (simp length-set (omega arith)) }
