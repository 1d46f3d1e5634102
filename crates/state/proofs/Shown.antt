-- What the state's arrays tell of a history that they show: the clock and the checks 14 and 15 by it, its leaves, and the table as the choice reads it.
-- Assumes nothing.
use Rattle.std.specs.Prelude.{Ok, Err}
use Rattle.state.specs.Kinds.{NextClock}
use Prim.Native.Nat.{ℕ, ◌+◌, ◌≤◌, ◌<◌, ◌^◌}
use native.Mathlib.Omega.{arith}
use mathlib.Core.Path.{◌≡◌, refl, sym, ◌∙◌, ap}
use mathlib.Core.Bool.{Bool, true, false, cond}
use mathlib.Core.List.{List, [], ◌++◌}
use lib.ListN.{length}
use lib.Dec.{leb, ltb}
use borrow.Author.Tests.{leb-false, ltb-false}
use Rattle.tree.specs.declared.Refusal.{Refusal}
use Rattle.tree.specs.declared.Refusal.TheVariants.{StampTooFar, ClockFull}
use Rattle.tree.specs.Numbers.{number_of}
use Rattle.tree.specs.Trees.{is_leaf}
use Rattle.rules.specs.Limits.{last_tick, too_far}
use Rattle.rules.specs.Calls.{History}
use Rattle.rules.specs.Clock.{clock, last_stamp}
use Rattle.rules.specs.Queues.{queue}
use Rattle.rules.specs.Lawful.{Lawful}
use Rattle.rules.specs.Answers.{Check, Outcome, passed, refused, outcome, ticks, next_clock, departure_checks}
use Rattle.rules.proofs.Allowed.{Timely}
use Rattle.rules.proofs.Tests.{is_false}
use Rattle.rules.proofs.Trees.{leaf_class}
use Rattle.rules.proofs.Active.{numbers}
use Rattle.rules.proofs.Sent.{clock_most}
use Rattle.state.specs.Table.{at, header_at, CLASSES}
use Rattle.state.specs.Columns.{CLOCK, STAMP, COUNT, NEXT_NUMBER, HEAD_NUMBER}
use Rattle.state.specs.State.{Shows}
use Rattle.state.specs.Steps.{pick_clock, tick_of}
use Rattle.state.specs.StepsChoosing.{Told}
use Rattle.state.proofs.Choosing.{count_most}

-- 14 and 15

module _ (why : Refusal) (now : ℕ) (rest : Outcome) where
  refused_first : (a b : Bool) → Err why ≡ pick_clock a (Err StampTooFar) (pick_clock b (Err ClockFull) (Ok now))
      → cond a (refused 14) (cond b (refused 15) rest) ≡ refused (number_of why)
  refused_first true b e = let w : StampTooFar ≡ why = cc in ap (λ (x : Refusal). refused (number_of x)) w
  refused_first false true e = let w : ClockFull ≡ why = cc in ap (λ (x : Refusal). refused (number_of x)) w
  refused_first false false e = let z : ◌≡◌ {A = ℕ} 0 1 = cc in absurd (omega arith)

at_last : (a b : Bool) (t now : ℕ) → Ok t ≡ pick_clock a (Err StampTooFar) (pick_clock b (Err ClockFull) (Ok now))
    → (t ≡ now) × ((a ≡ false) × (b ≡ false))
at_last true b t now e = let z : ◌≡◌ {A = ℕ} 0 1 = cc in absurd (omega arith)
at_last false true t now e = let z : ◌≡◌ {A = ℕ} 0 1 = cc in absurd (omega arith)
at_last false false t now e = (cc, (refl, refl))

module _ (h : History) (stamp : ℕ) where
  abbrev ticked : NextClock
  ticked = tick_of (clock h.calls) (last_stamp h.first h.calls) stamp

  -- a call that the clock refuses, with whatever checks come after
  pub tick_refused : (why : Refusal) (rest : List Check) → Err why ≡ ticked
      → outcome (departure_checks h.calls (ticks h stamp) ++ rest) ≡ refused (number_of why)
  unfolding tick_of outcome
  tick_refused why rest e = refused_first why (next_clock h stamp) (outcome rest) (leb too_far (ticks h stamp)) (ltb last_tick (next_clock h stamp)) e

  -- a call that it does not refuse
  pub tick_kept : (t : ℕ) → Ok t ≡ ticked → (t ≡ next_clock h stamp) × ((leb too_far (ticks h stamp) ≡ false) × (ltb last_tick (next_clock h stamp) ≡ false))
  unfolding tick_of
  tick_kept t e = at_last (leb too_far (ticks h stamp)) (ltb last_tick (next_clock h stamp)) t (next_clock h stamp) e

  -- then the checks after 14 and 15 decide
  pub checks_after : (rest : List Check) → leb too_far (ticks h stamp) ≡ false → ltb last_tick (next_clock h stamp) ≡ false
      → outcome (departure_checks h.calls (ticks h stamp) ++ rest) ≡ outcome rest
  unfolding outcome
  checks_after rest near last = rw (near, last) refl

-- What the arrays tell of their history.

module _ {m l : List ℕ} {h : History} (law : Lawful h) (s : Shows m l h) where
  pub clock_shown : header_at m CLOCK ≤ last_tick
  clock_shown = omega (arith, s.header.clock, clock_most h.tree h.calls law.lawful)

  pub stamp_shown : header_at m STAMP < 2 ^ 32
  stamp_shown = unfold last_stamp in (omega (arith, s.header.stamp))

  pub tick_shown : (stamp : ℕ) → tick_of (header_at m CLOCK) (header_at m STAMP) stamp ≡ tick_of (clock h.calls) (last_stamp h.first h.calls) stamp
  tick_shown stamp = λ i. tick_of (s.header.clock i) (s.header.stamp i) stamp

  pub class_narrow : (j : ℕ) → j < h.tree.count → j < CLASSES
  class_narrow j b = omega (arith, count_most h.tree law.grown)

  pub absent_shown : (j : ℕ) → header_at m COUNT ≤ j → is_leaf h.tree j ≡ false
  absent_shown j c = is_false (is_leaf h.tree j) (λ leaf. omega (arith, s.header.count, leaf_class h.tree j leaf))

  pub waiting_shown : (j : ℕ) → j < h.tree.count → at m j HEAD_NUMBER + length (queue h.calls j) ≡ at m j NEXT_NUMBER
  waiting_shown j b = omega (arith, (s.leaves j b).next_number, (s.leaves j b).head_number, numbers h.tree law.grown h.calls law.lawful j)

  -- the table, as the choice reads it
  pub shown_told : Told m h.tree h.calls
  shown_told =
      record {
        size = s.size;
        grown = law.grown;
        lawful = law.lawful;
        count = s.header.count;
        trees = s.trees;
        leaves = s.leaves;
        fairs = s.fairs;
        blank = s.blank;
      }

-- What a tick tells of every history that the arrays show.

module _ {m l : List ℕ} (h : History) (law : Lawful h) (shows : Shows m l h) (stamp : ℕ) {r : NextClock}
    (ticked : r ≡ tick_of (header_at m CLOCK) (header_at m STAMP) stamp) where
  pub tick_passes : (now : ℕ) → r ≡ Ok now → (outcome (departure_checks h.calls (ticks h stamp)) ≡ passed) × (now ≡ next_clock h stamp)
  unfolding outcome
  tick_passes now e =
      let (isNow, (near, late)) = tick_kept h stamp now (sym e ∙ ticked ∙ tick_shown law shows stamp) in
      (checks_after h stamp [] near late, isNow)

  pub tick_timely : (now : ℕ) → r ≡ Ok now → Timely h.calls now
  tick_timely now e =
      let (isNow, (near, late)) = tick_kept h stamp now (sym e ∙ ticked ∙ tick_shown law shows stamp) in
      record {
        forward = omega arith;
        near = omega (arith, leb-false too_far (ticks h stamp) near);
        in_time = omega (arith, ltb-false last_tick (next_clock h stamp) late);
      }
