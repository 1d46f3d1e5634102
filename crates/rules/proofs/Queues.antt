-- Queues, call by call; and when a class is active, in document 01's words.
-- Assumes nothing.
use Rattle.std.proofs.Common.{◌≡◌, ℕ, ◌≤◌, true, List, [], ◌∷◌, ◌++◌, length, sym, refl, ap, ◌∙◌, subst, ⊎_elim, arith, length-append, eq-eqb, ne_eqb}
use Rattle.tree.specs.declared.Tree.{Tree}
use Rattle.tree.specs.Trees.{is_leaf}
use Rattle.rules.specs.declared.Rule.{Rule}
use Rattle.rules.specs.Limits.{longest, room}
use Rattle.rules.specs.Calls.{Call, came, left, idle}
use Rattle.rules.specs.Queues.{queue, head_of, tail_of, is_nonempty, waits}
use Rattle.rules.specs.Lawful.{LawfulCalls}
use Rattle.rules.specs.Sentences.{QueueRoom, HeadLength}
use Rattle.rules.proofs.Tests.{never, cond_yes, cond_no, equal_or_not}
use Rattle.rules.proofs.Allowed.{allowed_admitted}

-- a queue after each call

pub queue_came : (at j n : ℕ) (cs : List Call) → queue (came at j n ∷ cs) j ≡ queue cs j ++ n ∷ []
unfolding queue
queue_came at j n cs = cond_yes _ _ (eq-eqb j j refl)

pub queue_came_other : (at k n : ℕ) (cs : List Call) (j : ℕ) → (k ≡ j → ⊥) → queue (came at k n ∷ cs) j ≡ queue cs j
unfolding queue
queue_came_other at k n cs j h = cond_no _ _ (ne_eqb k j h)

pub queue_left : (at j : ℕ) (r : Rule) (cs : List Call) → queue (left at j r ∷ cs) j ≡ tail_of (queue cs j)
unfolding queue
queue_left at j r cs = cond_yes _ _ (eq-eqb j j refl)

pub queue_left_other : (at k : ℕ) (r : Rule) (cs : List Call) (j : ℕ) → (k ≡ j → ⊥) → queue (left at k r ∷ cs) j ≡ queue cs j
unfolding queue
queue_left_other at k r cs j h = cond_no _ _ (ne_eqb k j h)

pub queue_idle : (at : ℕ) (cs : List Call) (j : ℕ) → queue (idle at ∷ cs) j ≡ queue cs j
unfolding queue
queue_idle at cs j = refl

pub queue_none : (j : ℕ) → queue [] j ≡ []
unfolding queue
queue_none j = refl

nonempty_last : (ns : List ℕ) (n : ℕ) → is_nonempty (ns ++ n ∷ []) ≡ true
nonempty_last [] n = refl
nonempty_last (m ∷ ns) n = refl

tail_nonempty : (ns : List ℕ) → is_nonempty (tail_of ns) ≡ true → is_nonempty ns ≡ true
tail_nonempty [] e = e
tail_nonempty (n ∷ ns) e = refl

pub waits_came : (at j n : ℕ) (cs : List Call) → waits (came at j n ∷ cs) j ≡ true
waits_came at j n cs = ap is_nonempty (queue_came at j n cs) ∙ nonempty_last (queue cs j) n

pub waits_came_on : (at k n : ℕ) (cs : List Call) (j : ℕ) → waits cs j ≡ true → waits (came at k n ∷ cs) j ≡ true
waits_came_on at k n cs j e =
    ⊎_elim (λ (q : k ≡ j). subst (λ (x : ℕ). waits (came at x n ∷ cs) j ≡ true) (sym q) (waits_came at j n cs))
    (λ (q : k ≡ j → ⊥). ap is_nonempty (queue_came_other at k n cs j q) ∙ e) (equal_or_not k j)

-- a departure leaves nothing waiting where nothing waited before
pub waits_left_before : (at k : ℕ) (r : Rule) (cs : List Call) (j : ℕ) → waits (left at k r ∷ cs) j ≡ true → waits cs j ≡ true
waits_left_before at k r cs j e =
    ⊎_elim
    (λ (q : k ≡ j).
    tail_nonempty (queue cs j)
    (sym (ap is_nonempty (subst (λ (x : ℕ). queue (left at x r ∷ cs) j ≡ tail_of (queue cs j)) (sym q) (queue_left at j r cs))) ∙ e))
    (λ (q : k ≡ j → ⊥). sym (ap is_nonempty (queue_left_other at k r cs j q)) ∙ e) (equal_or_not k j)

-- a packet waits only in a leaf
pub waits_leaf : (tree : Tree) (cs : List Call) → LawfulCalls tree cs → (j : ℕ) → waits cs j ≡ true → is_leaf tree j ≡ true
unfolding LawfulCalls queue
waits_leaf tree [] law j e = never e refl
waits_leaf tree (came at k n ∷ cs) law j e =
    ⊎_elim (λ (q : k ≡ j). subst (λ (x : ℕ). is_leaf tree x ≡ true) q (allowed_admitted law.0).leaf)
    (λ (q : k ≡ j → ⊥). waits_leaf tree cs law.1 j (sym (ap is_nonempty (queue_came_other at k n cs j q)) ∙ e)) (equal_or_not k j)
waits_leaf tree (left at k r ∷ cs) law j e = waits_leaf tree cs law.1 j (waits_left_before at k r cs j e)
waits_leaf tree (idle at ∷ cs) law j e = waits_leaf tree cs law.1 j e

-- "packets waiting in a leaf: at most 64"

tail_shorter : (ns : List ℕ) → length (tail_of ns) ≤ length ns
tail_shorter [] = omega arith
tail_shorter (n ∷ ns) = omega arith

pub queue_room : QueueRoom
unfolding LawfulCalls
queue_room tree [] law j = rw queue_none (omega arith)
queue_room tree (came at k n ∷ cs) law j =
    ⊎_elim
    (λ (q : k ≡ j).
    subst (λ (x : ℕ). length (queue (came at k n ∷ cs) x) ≤ room) q
    (rw (queue_came at k n cs, length-append) (omega (arith, (allowed_admitted law.0).space))))
    (λ (q : k ≡ j → ⊥). rw (queue_came_other at k n cs j q) (queue_room tree cs law.1 j)) (equal_or_not k j)
queue_room tree (left at k r ∷ cs) law j =
    ⊎_elim
    (λ (q : k ≡ j).
    subst (λ (x : ℕ). length (queue (left at k r ∷ cs) x) ≤ room) q
    (rw (queue_left at k r cs) (omega (arith, tail_shorter (queue cs k), queue_room tree cs law.1 k))))
    (λ (q : k ≡ j → ⊥). rw (queue_left_other at k r cs j q) (queue_room tree cs law.1 j)) (equal_or_not k j)
queue_room tree (idle at ∷ cs) law j = rw queue_idle (queue_room tree cs law.1 j)

-- every packet that waits has a length from 1 to 9,000

abbrev Lengths : List ℕ → Type 0
Lengths [] = Unit {0}
Lengths (n ∷ ns) = ((1 ≤ n) × (n ≤ longest)) × Lengths ns

lengths_last : (ns : List ℕ) (n : ℕ) → Lengths ns → (1 ≤ n) × (n ≤ longest) → Lengths (ns ++ n ∷ [])
lengths_last [] n h k = (k, tt)
lengths_last (m ∷ ns) n h k = (h.0, lengths_last ns n h.1 k)

lengths_tail : (ns : List ℕ) → Lengths ns → Lengths (tail_of ns)
lengths_tail [] h = tt
lengths_tail (n ∷ ns) h = h.1

queue_lengths : (tree : Tree) (cs : List Call) → LawfulCalls tree cs → (j : ℕ) → Lengths (queue cs j)
unfolding LawfulCalls
queue_lengths tree [] law j = rw queue_none tt
queue_lengths tree (came at k n ∷ cs) law j =
    ⊎_elim
    (λ (q : k ≡ j).
    subst (λ (x : ℕ). Lengths (queue (came at k n ∷ cs) x)) q
    (rw (queue_came at k n cs) (lengths_last (queue cs k) n (queue_lengths tree cs law.1 k) ((allowed_admitted law.0).some, (allowed_admitted law.0).short))))
    (λ (q : k ≡ j → ⊥). rw (queue_came_other at k n cs j q) (queue_lengths tree cs law.1 j)) (equal_or_not k j)
queue_lengths tree (left at k r ∷ cs) law j =
    ⊎_elim
    (λ (q : k ≡ j).
    subst (λ (x : ℕ). Lengths (queue (left at k r ∷ cs) x)) q
    (rw (queue_left at k r cs) (lengths_tail (queue cs k) (queue_lengths tree cs law.1 k))))
    (λ (q : k ≡ j → ⊥). rw (queue_left_other at k r cs j q) (queue_lengths tree cs law.1 j)) (equal_or_not k j)
queue_lengths tree (idle at ∷ cs) law j = rw queue_idle (queue_lengths tree cs law.1 j)

lengths_head : (ns : List ℕ) → Lengths ns → is_nonempty ns ≡ true → (1 ≤ head_of ns) × (head_of ns ≤ longest)
lengths_head [] h e = never e refl
lengths_head (n ∷ ns) h e = h.0

pub head_length_lem : HeadLength
head_length_lem tree cs law j e = lengths_head (queue cs j) (queue_lengths tree cs law j) e
