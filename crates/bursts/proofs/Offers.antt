-- What an offer promises, from what its steps do: after the end was told, and before it.
-- Assumes nothing.
use Prim.Native.Nat.{ℕ, ◌+◌}
use mathlib.Core.Path.{◌≡◌, refl, ◌∙◌, sym}
use mathlib.Core.Bool.{true, false}
use mathlib.Core.List.{List}
use lib.ListN.{length}
use Rattle.std.specs.Prelude.{None}
use Rattle.file.specs.Fronts.{most_file_bytes, stopped}
use Rattle.bursts.specs.declared.Seen.{Seen}
use Rattle.bursts.specs.declared.Taken.{Taken}
use Rattle.bursts.specs.Bursts.{kept_with, Offered, ended, Ended}
use Rattle.bursts.proofs.Held.{holds_next}

-- the end, told where it was told already, is noted already
pub ended_same : (seen : Seen) → seen.ended ≡ true → ended seen ≡ seen
ended_same seen e = λ i. record { count = seen.count; ended = sym e i }

module _ (kept : List ℕ) (seen : Seen) (burst : List ℕ) (told : Taken) where
  pub offered_late : seen.ended ≡ true → Ended kept seen told → Offered kept seen burst told kept
  offered_late e late =
      let noted : told.seen ≡ seen = late.notes ∙ ended_same seen e in
      record {
        keeps = rw e refl;
        notes = rw e late.notes;
        holds = λ file h. rw (e, noted) h;
        answers = λ file h. rw e (late.answers file h);
      }

  pub offered_early : (new : List ℕ) → length kept ≡ most_file_bytes → seen.ended ≡ false → new ≡ kept_with kept seen.count burst
      → told.seen ≡ record { count = stopped (seen.count + length burst); ended = false } → told.answer ≡ None
      → Offered kept seen burst told new
  offered_early new room e keeps notes answer = record {
    keeps = rw e keeps;
    notes = rw e notes;
    holds = λ file h. rw (e, keeps, notes) (holds_next kept seen.count file room h burst);
    answers = λ file h. rw e (record { told = answer });
  }
