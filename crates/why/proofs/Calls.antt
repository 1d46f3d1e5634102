-- The call: its checks against those of the definition, and the sheet that it leaves.
-- Assumes nothing.
use Rattle.state.specs.Kinds.{NextClock}
use Prim.Native.Nat.{ℕ, ◌*◌, ◌≤◌, ◌<◌}
use Rattle.std.specs.Prelude.{Ok, Err}
use mathlib.Core.Path.{◌≡◌, refl, sym, ◌∙◌, subst}
use mathlib.Core.List.{List, [], ◌∷◌, ◌++◌}
use native.Mathlib.Omega.{arith}
use lib.ListN.{length}
use lib.Dec.{ltb}
use borrow.Author.Tests.{lt-ltb, le-ltb}
use Rattle.tree.specs.declared.Refusal.{Refusal}
use Rattle.tree.specs.declared.Refusal.TheVariants.{SmallBuffer}
use Rattle.tree.specs.Trees.{is_leaf}
use Rattle.rules.specs.Calls.{History}
use Rattle.rules.specs.Lawful.{Lawful}
use Rattle.rules.specs.Answers.{Check, passed, outcome, ticks, departure_checks}
use Rattle.rules.proofs.Trees.{leaf_class}
use Rattle.state.specs.Table.{header_at, CLASSES}
use Rattle.state.specs.Columns.{CLOCK, STAMP}
use Rattle.state.specs.State.{Shows}
use Rattle.state.specs.Steps.{tick_of}
use Rattle.state.proofs.Resting.{count_within}
use Rattle.state.proofs.Choosing.{count_most}
use Rattle.state.proofs.Shown.{tick_refused, tick_kept, checks_after, tick_shown, tick_timely, shown_told}
use Rattle.reason.specs.Reasons.{numbers}
use Rattle.why.specs.Promises.{line_number, line_count, LineFor, sheet_checks, WhyRight}
use Rattle.why.specs.Steps.{Fillable, Filled}

-- the check that comes after a departure's
abbrev room_check : History → ℕ → List Check
room_check h room = record { number = 17; fails = ltb room (numbers * line_count h.tree) } ∷ []

-- no more lines than classes
pub count_narrow : {h : History} → Lawful h → line_count h.tree ≤ CLASSES
count_narrow {h} law = omega (arith, count_within h.tree.count (is_leaf h.tree), count_most h.tree law.grown)

module _ {m l : List ℕ} (h : History) (law : Lawful h) (shows : Shows m l h) (stamp : ℕ) {r : NextClock}
    (ticked : r ≡ tick_of (header_at m CLOCK) (header_at m STAMP) stamp) (s : List ℕ) where
  pub clock_refuses : (why : Refusal) → r ≡ Err why → WhyRight h stamp (Err why) s s
  clock_refuses why e = record { checked = tick_refused h stamp why _ (sym e ∙ ticked ∙ tick_shown law shows stamp); found = refl }

  module _ (now : ℕ) (e : r ≡ Ok now) where
    -- 14 and 15 are passed, so that 17 decides
    only_room : (rest : List Check) → outcome (departure_checks h.calls (ticks h stamp) ++ rest) ≡ outcome rest
    only_room rest =
        let (isNow, (near, late)) = tick_kept h stamp now (sym e ∙ ticked ∙ tick_shown law shows stamp) in
        checks_after h stamp rest near late

    pub too_short : length s < numbers * line_count h.tree → WhyRight h stamp (Err SmallBuffer) s s
    unfolding outcome
    too_short short = record { checked = only_room (room_check h (length s)) ∙ rw (lt-ltb (length s) (numbers * line_count h.tree) short) refl; found = refl }

    module _ (room : numbers * line_count h.tree ≤ length s) where
      pub fillable : Fillable m h.tree h.calls now s
      fillable = record { told = shown_told law shows; in_time = (tick_timely h law shows stamp ticked now e).in_time; room = room }

      passes : outcome (sheet_checks h.tree h.calls (ticks h stamp) (length s)) ≡ passed
      unfolding outcome
      passes = only_room (room_check h (length s)) ∙ rw (le-ltb (length s) (numbers * line_count h.tree) room) refl

      pub sheet_right : (lines : ℕ) (t : List ℕ) → lines ≡ line_count h.tree → Filled h.tree h.calls now h.tree.count s t → WhyRight h stamp (Ok lines) s t
      sheet_right lines t count f =
          let isNow = (tick_kept h stamp now (sym e ∙ ticked ∙ tick_shown law shows stamp)).0 in
          record {
            checked = passes;
            count = count;
            size = f.size;
            filled = λ i leaf. subst (λ (k : ℕ). LineFor h.tree h.calls k i t (numbers * line_number h.tree i)) isNow (f.filled i (leaf_class h.tree i leaf) leaf);
            rest = f.rest;
          }
