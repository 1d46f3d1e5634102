-- A departure and who is active: activity is 0 exactly where a class is passive, a parent's falls by one exactly where a child turns passive, and
-- stays the same everywhere else.
-- Assumes nothing.
use Prim.Native.Nat.{ℕ, zero, suc, ◌+◌, ◌≤◌, ◌<◌}
use native.Mathlib.Omega.{arith}
use mathlib.Core.Path.{◌≡◌, refl, sym, ◌∙◌, ap, subst}
use mathlib.Core.Logic.{⊎_elim}
use mathlib.Core.Bool.{Bool, true, false, cond, ◌&&◌}
use mathlib.Core.List.{List, ◌∷◌}
use Rattle.tree.specs.declared.Tree.{Tree}
use Rattle.tree.specs.Trees.{parent_of, is_child, is_leaf}
use Rattle.rules.specs.declared.Rule.{Rule}
use Rattle.rules.specs.Calls.{Call, left}
use Rattle.rules.specs.Queues.{is_nonempty, waits}
use Rattle.rules.specs.Classes.{is_within, active}
use Rattle.rules.specs.Lawful.{Grown, LawfulCalls}
use Rattle.rules.proofs.Tests.{never, decided, is_false, and_left, and_right, and_both, by_cond, cond_yes, cond_no}
use Rattle.rules.proofs.Over.{last_or_below}
use Rattle.rules.proofs.Trees.{leaf_class, child_class, leaf_childless, upward, within_up, within_cases, within_at_root, within_self, within_parent, within_split, within_leaf, within_one}
use Rattle.rules.proofs.Queues.{queue_left_other, waits_left_before, waits_leaf}
use Rattle.rules.proofs.Active.{active_of, active_which, leaf_active, child_active, active_left, active_left_other}
use Rattle.state.specs.State.{count_of, activity}

-- counts

pub count_same : (n : ℕ) (p q : ℕ → Bool) → ((k : ℕ) → k < n → p k ≡ q k) → count_of n p ≡ count_of n q
unfolding count_of
count_same zero p q h = refl
count_same (suc n) p q h = rw (h n (omega arith), count_same n p q (λ k l. h k (omega arith)))

-- one that is meant by p and not by q
pub count_one : (n : ℕ) (p q : ℕ → Bool) (i : ℕ) → i < n → p i ≡ true → q i ≡ false → ((k : ℕ) → k < n → (k ≡ i → ⊥) → p k ≡ q k)
    → count_of n p ≡ count_of n q + 1
unfolding count_of
count_one zero p q i l meant unmeant h = absurd (omega arith)
count_one (suc n) p q i l meant unmeant h =
    ⊎_elim
    (λ (e : i ≡ n).
    rw (subst (λ (x : ℕ). p x ≡ true) e meant, subst (λ (x : ℕ). q x ≡ false) e unmeant, count_same n p q (λ k b. h k (omega arith) (λ e'. omega arith))) refl)
    (λ (b : i < n).
    let rest = count_one n p q i b meant unmeant (λ k b' ne. h k (omega arith) ne) in
    rw (h n (omega arith) (λ e. omega arith))
    (by_cond (λ (x : ℕ). x ≡ cond (q n) (count_of n q + 1) (count_of n q) + 1) (q n)
    (λ e. rw e (omega (arith, rest))) (λ e. rw e rest)))
    (last_or_below n i l)

pub count_none : (n : ℕ) (p : ℕ → Bool) → count_of n p ≡ 0 → (k : ℕ) → k < n → p k ≡ false
unfolding count_of
count_none zero p e k l = absurd (omega arith)
count_none (suc n) p e k l =
    ⊎_elim
    (λ (meant : p n ≡ true). absurd (omega (arith, sym (cond_yes (count_of n p + 1) (count_of n p) meant) ∙ e)))
    (λ (unmeant : p n ≡ false).
    ⊎_elim (λ (q : k ≡ n). ap p q ∙ unmeant) (λ (q : k < n). count_none n p (sym (cond_no (count_of n p + 1) (count_of n p) unmeant) ∙ e) k q) (last_or_below n k l))
    (decided (p n))

pub none_counted : (n : ℕ) (p : ℕ → Bool) → ((k : ℕ) → k < n → p k ≡ false) → count_of n p ≡ 0
unfolding count_of
none_counted zero p h = refl
none_counted (suc n) p h = rw (h n (omega arith)) (none_counted n p (λ k l. h k (omega arith)))

-- no more are meant than there are
pub count_within : (n : ℕ) (p : ℕ → Bool) → count_of n p ≤ n
unfolding count_of
count_within zero p = omega arith
count_within (suc n) p = by_cond (λ (x : ℕ). x ≤ suc n) (p n) (λ e. omega (arith, count_within n p)) (λ e. omega (arith, count_within n p))

-- the two forms of activity

pub activity_leaf : (tree : Tree) (cs : List Call) (i : ℕ) → is_leaf tree i ≡ true → activity tree cs i ≡ cond (waits cs i) 1 0
unfolding activity
activity_leaf tree cs i leaf = cond_yes _ _ leaf

pub activity_interior : (tree : Tree) (cs : List Call) (i : ℕ) → is_leaf tree i ≡ false
    → activity tree cs i ≡ count_of tree.count (λ k. is_child tree i k && active tree cs k)
unfolding activity
activity_interior tree cs i inner = cond_no _ _ inner

-- a class with a child is no leaf
pub parent_interior : (tree : Tree) (p i : ℕ) → is_child tree p i ≡ true → is_leaf tree p ≡ false
parent_interior tree p i child = is_false (is_leaf tree p) (λ leaf. never child (leaf_childless tree p i leaf))

-- children that are as active are counted as before
and_same : (a b c : Bool) → (a ≡ true → b ≡ c) → (a && b) ≡ (a && c)
and_same true b c h = h refl
and_same false b c h = refl

module _ (tree : Tree) (grown : Grown tree) where
  -- what lies in a class lies in those above it
  pub within_trans : (k i j : ℕ) → is_within tree k i ≡ true → j < tree.count → is_within tree i j ≡ true → is_within tree k j ≡ true
  within_trans k i j e =
      upward tree grown (λ (j : ℕ). is_within tree i j ≡ true → is_within tree k j ≡ true)
      (λ q. subst (λ (x : ℕ). is_within tree k x ≡ true) (within_at_root tree grown i q) e)
      (λ j some below up q.
      ⊎_elim (λ (h : j ≡ i). subst (λ (x : ℕ). is_within tree k x ≡ true) (sym h) e)
      (λ (h : is_within tree i (parent_of tree j) ≡ true). within_up tree grown k j some below (up h))
      (within_cases tree grown i j some below q))
      j

  pub active_above : (cs : List Call) (k i : ℕ) → is_within tree k i ≡ true → active tree cs i ≡ true → active tree cs k ≡ true
  active_above cs k i e a =
      let r = active_which tree cs i a in
      active_of tree cs k r.0 r.1 (within_trans k i r.0 e r.1 r.2) r.3

  -- activity is 0 exactly where the class is passive
  module _ (cs : List Call) (leaves : (k : ℕ) → waits cs k ≡ true → is_leaf tree k ≡ true) where
    quiet_passive : (i : ℕ) → is_leaf tree i ≡ false → ((k : ℕ) → is_child tree i k ≡ true → active tree cs k ≡ false) → active tree cs i ≡ false
    quiet_passive i inner quiet =
        is_false (active tree cs i)
        (λ a.
        let r = active_which tree cs i a in
        ⊎_elim (λ (q : i ≡ r.0). never (leaves r.0 r.3) (ap (is_leaf tree) (sym q) ∙ inner))
        (λ (s : (k : ℕ) × (is_child tree i k ≡ true) × (is_within tree k r.0 ≡ true)).
        never (active_of tree cs s.0 r.0 r.1 s.2 r.3) (quiet s.0 s.1))
        (within_split tree grown i r.0 r.1 r.2))

    pub zero_passive : (i : ℕ) → activity tree cs i ≡ 0 → active tree cs i ≡ false
    zero_passive i e =
        ⊎_elim
        (λ (leaf : is_leaf tree i ≡ true).
        leaf_active tree grown cs i leaf
        ∙ is_false (waits cs i)
        (λ w. let z = sym (activity_leaf tree cs i leaf ∙ cond_yes 1 0 w) ∙ e in omega (arith, z)))
        (λ (inner : is_leaf tree i ≡ false).
        quiet_passive i inner
        (λ k child.
        is_false (active tree cs k)
        (λ a.
        never (and_both (is_child tree i k) (active tree cs k) child a)
        (count_none tree.count (λ k. is_child tree i k && active tree cs k) (sym (activity_interior tree cs i inner) ∙ e) k (child_class tree i k child)))))
        (decided (is_leaf tree i))

  pub passive_zero : (cs : List Call) (i : ℕ) → active tree cs i ≡ false → activity tree cs i ≡ 0
  passive_zero cs i passive =
      ⊎_elim
      (λ (leaf : is_leaf tree i ≡ true). activity_leaf tree cs i leaf ∙ cond_no 1 0 (sym (leaf_active tree grown cs i leaf) ∙ passive))
      (λ (inner : is_leaf tree i ≡ false).
      activity_interior tree cs i inner
      ∙ none_counted tree.count (λ k. is_child tree i k && active tree cs k)
      (λ k l.
      is_false (is_child tree i k && active tree cs k)
      (λ e.
      never
      (child_active tree grown cs i k (and_left (is_child tree i k) (active tree cs k) e) (and_right (is_child tree i k) (active tree cs k) e))
      passive)))
      (decided (is_leaf tree i))

  -- the head of leaf j leaves
  module _ (cs : List Call) (law : LawfulCalls tree cs) (j : ℕ) (waiting : waits cs j ≡ true) (t : ℕ) (r : Rule) where
    abbrev after : List Call
    after = left t j r ∷ cs

    leaf : is_leaf tree j ≡ true
    leaf = waits_leaf tree cs law j waiting

    below : j < tree.count
    below = leaf_class tree j leaf

    after_leaves : (k : ℕ) → waits after k ≡ true → is_leaf tree k ≡ true
    after_leaves k w = waits_leaf tree cs law k (waits_left_before t j r cs k w)

    pub passive_after : (i : ℕ) → activity tree after i ≡ 0 → active tree after i ≡ false
    passive_after = zero_passive after after_leaves

    -- the classes in which j does not lie
    pub activity_off : (k : ℕ) → is_within tree k j ≡ false → activity tree after k ≡ activity tree cs k
    activity_off k off =
        ⊎_elim
        (λ (leaf : is_leaf tree k ≡ true).
        activity_leaf tree after k leaf
        ∙ ap (λ (ns : List ℕ). cond (is_nonempty ns) 1 0)
        (queue_left_other t j r cs k (λ (e : j ≡ k). never (subst (λ (x : ℕ). is_within tree k x ≡ true) (sym e) (within_self tree grown k)) off))
        ∙ sym (activity_leaf tree cs k leaf))
        (λ (inner : is_leaf tree k ≡ false).
        activity_interior tree after k inner
        ∙ count_same tree.count (λ c. is_child tree k c && active tree after c) (λ c. is_child tree k c && active tree cs c)
        (λ c l.
        and_same (is_child tree k c) (active tree after c) (active tree cs c)
        (λ child. active_left_other tree grown cs t j r c (is_false (is_within tree c j) (λ e. never (within_parent tree grown k c j child below e) off))))
        ∙ sym (activity_interior tree cs k inner))
        (decided (is_leaf tree k))

    -- a class whose child above j stays active
    pub activity_on : (k : ℕ) → is_leaf tree k ≡ false → ((c : ℕ) → is_child tree k c ≡ true → is_within tree c j ≡ true → active tree after c ≡ true)
        → activity tree after k ≡ activity tree cs k
    activity_on k inner stays =
        activity_interior tree after k inner
        ∙ count_same tree.count (λ c. is_child tree k c && active tree after c) (λ c. is_child tree k c && active tree cs c)
        (λ c l.
        and_same (is_child tree k c) (active tree after c) (active tree cs c)
        (λ child.
        ⊎_elim
        (λ (e : is_within tree c j ≡ true). stays c child e ∙ sym (active_left tree grown cs t j r c (stays c child e)))
        (λ (e : is_within tree c j ≡ false). active_left_other tree grown cs t j r c e) (decided (is_within tree c j))))
        ∙ sym (activity_interior tree cs k inner)

    -- the parent of a class that turns passive
    pub activity_falls : (p i : ℕ) → is_child tree p i ≡ true → is_within tree i j ≡ true → active tree after i ≡ false
        → activity tree cs p ≡ activity tree after p + 1
    activity_falls p i child line passive =
        let inner = parent_interior tree p i child in
        activity_interior tree cs p inner
        ∙ count_one tree.count (λ c. is_child tree p c && active tree cs c) (λ c. is_child tree p c && active tree after c) i (child_class tree p i child)
        (and_both (is_child tree p i) (active tree cs i) child (active_of tree cs i j below line waiting))
        (is_false (is_child tree p i && active tree after i) (λ e. never (and_right (is_child tree p i) (active tree after i) e) passive))
        (λ c l other.
        and_same (is_child tree p c) (active tree cs c) (active tree after c)
        (λ sibling.
        sym
        (active_left_other tree grown cs t j r c
        (is_false (is_within tree c j) (λ e. other (within_one tree grown p c i j sibling child below e line))))))
        ∙ ap (λ (x : ℕ). x + 1) (sym (activity_interior tree after p inner))

    -- all classes, where the leaf still holds a packet
    pub still_active : waits after j ≡ true → (k : ℕ) → activity tree after k ≡ activity tree cs k
    still_active still k =
        ⊎_elim
        (λ (e : is_leaf tree k ≡ true).
        ⊎_elim
        (λ (q : is_within tree k j ≡ true).
        let same = within_leaf tree grown k j e below q in
        activity_leaf tree after k e
        ∙ cond_yes 1 0 (subst (λ (x : ℕ). waits after x ≡ true) (sym same) still)
        ∙ sym (activity_leaf tree cs k e ∙ cond_yes 1 0 (subst (λ (x : ℕ). waits cs x ≡ true) (sym same) waiting)))
        (λ (q : is_within tree k j ≡ false). activity_off k q) (decided (is_within tree k j)))
        (λ (e : is_leaf tree k ≡ false). activity_on k e (λ c child line. active_of tree after c j below line still))
        (decided (is_leaf tree k))

    -- those above a class that stays active
    pub activity_above : (p k : ℕ) → is_within tree p j ≡ true → active tree after p ≡ true → is_within tree k p ≡ true → (k ≡ p → ⊥) → p < tree.count
        → activity tree after k ≡ activity tree cs k
    activity_above p k line stays above other class =
        ⊎_elim (λ (e : k ≡ p). absurd (other e))
        (λ (s : (c : ℕ) × (is_child tree k c ≡ true) × (is_within tree c p ≡ true)).
        activity_on k (parent_interior tree k s.0 s.1)
        (λ c child within.
        subst (λ (x : ℕ). active tree after x ≡ true)
        (within_one tree grown k s.0 c j s.1 child below (within_trans s.0 p j s.2 below line) within)
        (active_above after s.0 p s.2 stays)))
        (within_split tree grown k p class above)
