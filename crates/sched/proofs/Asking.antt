-- What a state shows to one who asks: the clock, how many packets wait in a class, its virtual time, and the times of its head; and that each
-- question has one answer.
-- Assumes nothing.
use Rattle.std.specs.Prelude.{Some, None, Option}
use Prim.Native.Nat.{ℕ, ◌+◌, ◌-◌, ◌≤◌, ◌<◌}
use native.Mathlib.Omega.{arith}
use mathlib.Core.Path.{◌≡◌, refl, sym, ◌∙◌, ap, ap₂}
use mathlib.Core.Bool.{false, not}
use mathlib.Core.List.{List, [], ◌∷◌}
use lib.ListN.{length}
use lib.Dec.{eqb}
use Rattle.curve.specs.declared.Piece.{Piece}
use Rattle.curve.proofs.Laws.Answers.{least_one}
use Rattle.tree.specs.declared.Tree.{Tree}
use Rattle.tree.specs.Trees.{share_of}
use Rattle.rules.specs.declared.Times.{Times}
use Rattle.rules.specs.Calls.{Call, came, left, idle, History}
use Rattle.rules.specs.Clock.{clock}
use Rattle.rules.specs.Queues.{queue, is_nonempty, waits}
use Rattle.rules.specs.Classes.{is_within, sent, turns_active}
use Rattle.rules.specs.Fair.{fair_pieces, virtual_time, virtual_time_of}
use Rattle.rules.proofs.Allowed.{allowed_admitted}
use Rattle.rules.specs.Lawful.{Grown, right, none, Lawful, LawfulCalls}
use Rattle.rules.proofs.Tests.{never, is_true, is_false, and_left, and_right, cond_no}
use Rattle.rules.proofs.Trees.{none_count, leaf_class, within_le}
use Rattle.rules.proofs.Queues.{waits_leaf}
use Rattle.rules.proofs.Active.{numbers}
use Rattle.rules.proofs.Leaves.{eligible_before_deadline, deadline_below}
use Rattle.state.specs.Heads.{EveryHistory}
use Rattle.state.specs.Table.{at, header_at, CLASSES}
use Rattle.state.specs.Columns.{COUNT, NEXT_NUMBER, HEAD_NUMBER, ELIGIBLE, DEADLINE, VIRTUAL, NEVER}
use Rattle.state.specs.State.{Shows, Reached, has_times}
use Rattle.sched.specs.Asked.{HeadTimed, HeadTimes}

-- a class that is not there

empty_queue : (ns : List ℕ) → is_nonempty ns ≡ false → 0 ≡ length ns
empty_queue [] e = refl
empty_queue (n ∷ ns) e = never refl e

module _ (tree : Tree) (grown : Grown tree) where
  pub absent_quiet : (cs : List Call) → LawfulCalls tree cs → (i : ℕ) → tree.count ≤ i → waits cs i ≡ false
  absent_quiet cs law i out = is_false (waits cs i) (λ w. omega (arith, leaf_class tree i (waits_leaf tree cs law i w)))

  pub absent_pieces : (cs : List Call) → LawfulCalls tree cs → (i : ℕ) → tree.count ≤ i → fair_pieces tree cs i ≡ []
  unfolding LawfulCalls fair_pieces
  absent_pieces [] law i out = refl
  absent_pieces (came t j n ∷ cs) law i out =
      let below = leaf_class tree j (allowed_admitted law.0).leaf in
      cond_no _ _
      (is_false (turns_active tree cs j i)
      (λ e. let w = and_left (is_within tree i j) _ (and_right (not (eqb i 0)) _ e) in omega (arith, within_le tree grown i j below w)))
      ∙ absent_pieces cs law.1 i out
  absent_pieces (left t j r ∷ cs) law i out = absent_pieces cs law.1 i out
  absent_pieces (idle t ∷ cs) law i out = absent_pieces cs law.1 i out

  -- its virtual time is 0
  pub absent_virtual : (cs : List Call) → LawfulCalls tree cs → (i : ℕ) → tree.count ≤ i → virtual_time_of tree cs i ≡ 0
  unfolding virtual_time
  absent_virtual cs law i out = ap (λ (ps : List Piece). virtual_time (share_of tree i) ps (sent tree cs i)) (absent_pieces cs law i out)

grown_narrow : (tree : Tree) → Grown tree → tree.count ≤ CLASSES
grown_narrow tree (right r) = r.shape.count.below
grown_narrow tree (none e) = omega (arith, none_count e)

module _ {m l : List ℕ} {h : History} (lawful : Lawful h) (shows : Shows m l h) where
  -- of class i, where the header's count is n
  module _ {n : ℕ} (counted : n ≡ header_at m COUNT) (i : ℕ) where
    module _ (out : n ≤ i) where
      beyond : h.tree.count ≤ i
      beyond = omega (arith, shows.header.count, counted, out)

      quiet : waits h.calls i ≡ false
      quiet = absent_quiet h.tree lawful.grown h.calls lawful.lawful i beyond

      pub none_waits_there : 0 ≡ length (queue h.calls i)
      none_waits_there = empty_queue (queue h.calls i) quiet

      pub no_virtual_there : 0 ≡ virtual_time_of h.tree h.calls i
      no_virtual_there = sym (absent_virtual h.tree lawful.grown h.calls lawful.lawful i beyond)

      pub no_times_there : has_times h.tree h.calls i ≡ false
      no_times_there = is_false (has_times h.tree h.calls i) (λ e. never (and_left (waits h.calls i) _ e) quiet)

    module _ (there : i < n) where
      class : i < h.tree.count
      class = omega (arith, shows.header.count, counted, there)

      pub asked_narrow : i < CLASSES
      asked_narrow = omega (arith, class, grown_narrow h.tree lawful.grown)

      pub virtual_shown : at m i VIRTUAL ≡ virtual_time_of h.tree h.calls i
      virtual_shown = (shows.fairs i class).virtual

      -- what came less what left
      module _ {came left : ℕ} (isCame : came ≡ at m i NEXT_NUMBER) (isLeft : left ≡ at m i HEAD_NUMBER) where
        told : left + length (queue h.calls i) ≡ came
        told =
            omega (
              arith,
              isCame,
              isLeft,
              (shows.leaves i class).next_number,
              (shows.leaves i class).head_number,
              numbers h.tree lawful.grown h.calls lawful.lawful i,
            )

        pub left_below : left ≤ came
        left_below = omega (arith, told)

        pub waiting_shown : came - left ≡ length (queue h.calls i)
        waiting_shown = omega (arith, told)

      -- an eligible time is earlier than never
      module _ {eligible : ℕ} (isCell : eligible ≡ at m i ELIGIBLE) where
        pub untimed_shown : eligible ≡ NEVER → has_times h.tree h.calls i ≡ false
        untimed_shown e =
            is_false (has_times h.tree h.calls i)
            (λ has.
            let first = (shows.leaves i class).eligible has in
            let second = (shows.leaves i class).deadline has in
            omega (
              arith,
              e,
              isCell,
              eligible_before_deadline h.tree h.calls i (at m i ELIGIBLE) (at m i DEADLINE) first second,
              deadline_below h.tree lawful.grown h.calls lawful.lawful i (at m i DEADLINE) (and_left (waits h.calls i) _ has)
                  (and_right (waits h.calls i) _ has) second,
            ))

        pub timed_shown : {deadline : ℕ} → deadline ≡ at m i DEADLINE → (eligible ≡ NEVER → ⊥) → HeadTimed h.tree h.calls i eligible deadline
        timed_shown is_deadline other =
            let has = is_true (has_times h.tree h.calls i) (λ untimed. other (isCell ∙ (shows.leaves i class).never untimed)) in
            rw (isCell, is_deadline)
            (record {
              timed = has;
              is_eligible = (shows.leaves i class).eligible has;
              is_deadline = (shows.leaves i class).deadline has;
            })

-- one answer

-- a number that is the same of every history that the state shows
pub shown_one : (f : History → ℕ) {m l : List ℕ} → Reached m l → (a b : ℕ) → EveryHistory m l (λ h. a ≡ f h)
    → EveryHistory m l (λ h. b ≡ f h) → a ≡ b
shown_one f reached a b first second =
    first reached.history reached.lawful reached.shows ∙ sym (second reached.history reached.lawful reached.shows)

head_one : (tree : Tree) (cs : List Call) (j : ℕ) (a b : Option Times) → HeadTimes tree cs j a → HeadTimes tree cs j b → a ≡ b
head_one tree cs j None None p q = refl
head_one tree cs j None (Some t) p q = never q.timed p
head_one tree cs j (Some s) None p q = never p.timed q
head_one tree cs j (Some s) (Some t) p q =
    ap₂ (λ e d. Some (record { eligible = e; deadline = d })) (least_one p.is_eligible q.is_eligible) (least_one p.is_deadline q.is_deadline)

pub head_times_one : {m l : List ℕ} → Reached m l → (class : ℕ) (a b : Option Times)
    → EveryHistory m l (λ h. HeadTimes h.tree h.calls class a)
    → EveryHistory m l (λ h. HeadTimes h.tree h.calls class b) → a ≡ b
head_times_one reached class a b first second =
    head_one reached.history.tree reached.history.calls class a b (first reached.history reached.lawful reached.shows)
    (second reached.history reached.lawful reached.shows)

pub clock_one : {m l : List ℕ} → Reached m l → (a b : ℕ) → EveryHistory m l (λ h. a ≡ clock h.calls)
    → EveryHistory m l (λ h. b ≡ clock h.calls) → a ≡ b
clock_one = shown_one (λ h. clock h.calls)

pub waiting_one : {m l : List ℕ} → Reached m l → (class : ℕ) (a b : ℕ) → ((h : History) → Lawful h → Shows m l h → a ≡ length (queue h.calls class))
    → ((h : History) → Lawful h → Shows m l h → b ≡ length (queue h.calls class)) → a ≡ b
waiting_one reached class = shown_one (λ h. length (queue h.calls class)) reached

pub virtual_time_one : {m l : List ℕ} → Reached m l → (class : ℕ) (a b : ℕ)
    → EveryHistory m l (λ h. a ≡ virtual_time_of h.tree h.calls class)
    → EveryHistory m l (λ h. b ≡ virtual_time_of h.tree h.calls class) → a ≡ b
virtual_time_one reached class = shown_one (λ h. virtual_time_of h.tree h.calls class) reached
