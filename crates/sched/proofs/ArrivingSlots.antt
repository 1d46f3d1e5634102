-- The slots of waiting packets after an arrival: the new packet's slot is free, and no other is stored to.
-- Assumes nothing.
use Prim.Native.Nat.{ℕ, ◌+◌, ◌≤◌, ◌<◌}
use native.Mathlib.Omega.{arith}
use mathlib.Core.Path.{◌≡◌, refl, sym, ◌∙◌, ap, subst}
use mathlib.Core.Logic.{⊎_elim}
use mathlib.Core.List.{List, [], ◌∷◌, ◌++◌}
use lib.ListN.{length, get_or, set, length-append, get_or-append}
use lib.Seq.{get_or-set_same, get_or-set_other, get_or-append_seam}
use Rattle.curve.proofs.Laws.Order.{le_or_lt}
use Rattle.rules.specs.Calls.{Call, came}
use Rattle.rules.specs.Queues.{queue, head_number, next_number}
use Rattle.rules.proofs.Tests.{equal_or_not}
use Rattle.rules.proofs.Queues.{queue_came, queue_came_other}
use Rattle.state.specs.Table.{CLASSES, SLOTS, PLACES, slot_of}
use Rattle.state.specs.State.{ShowsSlots}

module _ (l : List ℕ) (cs : List Call) (t j n : ℕ) (room : length l ≡ PLACES) (class : j < CLASSES) (space : length (queue cs j) < SLOTS)
    (numbered : head_number cs j + length (queue cs j) ≡ next_number cs j) (slots : (i : ℕ) → i < CLASSES → ShowsSlots l cs i) where
  abbrev slot : ℕ
  slot = slot_of j (next_number cs j)

  -- another slot
  away : (at : ℕ) → (at ≡ slot → ⊥) → get_or (set l slot n) at 0 ≡ get_or l at 0
  away at other = get_or-set_other l slot at n 0 other

  slots_other : (i : ℕ) → i < CLASSES → (j ≡ i → ⊥) → ShowsSlots (set l slot n) (came t j n ∷ cs) i
  unfolding head_number
  slots_other i b other =
      let same = queue_came_other t j n cs i other in
      let old = slots i b in
      record {
        waiting = λ k h.
            away (slot_of i (head_number cs i + k)) (λ e. other (omega arith))
            ∙ old.waiting k (subst (λ (q : List ℕ). k < length q) same h)
            ∙ ap (λ (q : List ℕ). get_or q k 0) (sym same);
        free = λ k h h'.
            away (slot_of i (head_number cs i + k)) (λ e. other (omega arith)) ∙ old.free k (subst (λ (q : List ℕ). length q ≤ k) same h) h';
      }

  longer : length (queue (came t j n ∷ cs) j) ≡ length (queue cs j) + 1
  longer = ap length (queue_came t j n cs) ∙ length-append (queue cs j) (n ∷ []) ∙ refl

  slots_own : ShowsSlots (set l slot n) (came t j n ∷ cs) j
  unfolding head_number
  slots_own =
      let old = slots j class in
      record {
        waiting = λ k h.
            ⊎_elim
            (λ (last : length (queue cs j) ≤ k).
            let k-last : k ≡ length (queue cs j) = omega (arith, longer) in
            let here : slot_of j (head_number cs j + k) ≡ slot = omega (arith, numbered) in
            ap (λ (at : ℕ). get_or (set l slot n) at 0) here ∙ get_or-set_same l slot n 0 (omega arith)
            ∙ sym (ap (λ (x : ℕ). get_or (queue cs j ++ n ∷ []) x 0) k-last ∙ get_or-append_seam (queue cs j) n [] 0)
            ∙ ap (λ (q : List ℕ). get_or q k 0) (sym (queue_came t j n cs)))
            (λ (before : k < length (queue cs j)).
            away (slot_of j (head_number cs j + k)) (λ e. omega (arith, numbered)) ∙ old.waiting k before
            ∙ sym (get_or-append (queue cs j) (n ∷ []) 0 k before)
            ∙ ap (λ (q : List ℕ). get_or q k 0) (sym (queue_came t j n cs)))
            (le_or_lt (length (queue cs j)) k);
        free = λ k h h'. away (slot_of j (head_number cs j + k)) (λ e. omega (arith, numbered, longer)) ∙ old.free k (omega (arith, longer)) h';
      }

  pub slots_came : (i : ℕ) → i < CLASSES → ShowsSlots (set l slot n) (came t j n ∷ cs) i
  slots_came i b =
      ⊎_elim (λ (e : j ≡ i). subst (ShowsSlots (set l slot n) (came t j n ∷ cs)) e slots_own) (λ (e : j ≡ i → ⊥). slots_other i b e) (equal_or_not j i)
