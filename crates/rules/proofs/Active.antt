-- When a class is active, in document 01's words and call by call; and that the leaf which a rule chooses has a packet waiting.
-- Assumes nothing.
use Rattle.std.proofs.Common.{◌≡◌, ℕ, ◌+◌, ◌<◌, true, false, ◌&&◌, ◌||◌, eqb, List, [], ◌∷◌, length, sym, refl, ap, ◌∙◌, subst, ⊎_elim, arith, length-append, eqb-true}
use Rattle.tree.specs.declared.Tree.{Tree}
use Rattle.tree.specs.Trees.{is_child, is_leaf}
use Rattle.rules.specs.declared.Rule.{Rule}
use Rattle.rules.specs.declared.Rule.TheVariants.{RealTime, Fair}
use Rattle.rules.specs.Calls.{Call, came, left, idle}
use Rattle.rules.specs.Queues.{queue, tail_of, is_nonempty, waits, head_number, next_number}
use Rattle.rules.specs.Over.{any_of}
use Rattle.rules.specs.Classes.{is_within, active}
use Rattle.rules.specs.Choice.{Choice, GoesDown, reached, down}
use Rattle.rules.specs.Lawful.{Grown, LawfulCalls}
use Rattle.rules.specs.Sentences.{Numbers, LeafActive, InteriorActive}
use Rattle.rules.proofs.Tests.{never, decided, and_left, and_right, and_both, or_either, or_left, or_right, same_test, equal_or_not}
use Rattle.rules.proofs.Over.{any_of_lem, any_which}
use Rattle.rules.proofs.Trees.{leaf_class, child_class, within_self, within_leaf, within_split, within_parent, root_interior}
use Rattle.rules.proofs.Queues.{queue_came_other, queue_left_other, waits_came, waits_came_on, waits_left_before, waits_leaf}

-- a class is active exactly if a packet waits in it or below it
pub active_of : (tree : Tree) (cs : List Call) (i j : ℕ) → j < tree.count → is_within tree i j ≡ true → waits cs j ≡ true → active tree cs i ≡ true
unfolding active
active_of tree cs i j below w e = any_of_lem tree.count (λ j. is_within tree i j && waits cs j) j below (and_both (is_within tree i j) _ w e)

pub active_which : (tree : Tree) (cs : List Call) (i : ℕ) → active tree cs i ≡ true
    → (j : ℕ) × (j < tree.count) × (is_within tree i j ≡ true) × (waits cs j ≡ true)
unfolding active
active_which tree cs i e =
    let r = any_which tree.count (λ j. is_within tree i j && waits cs j) e in
    (r.0, r.1, and_left (is_within tree i r.0) _ r.2, and_right (is_within tree i r.0) _ r.2)

-- "A leaf is active while a packet waits in it"
pub leaf_active : LeafActive
leaf_active tree grown cs i leaf =
    same_test (active tree cs i) (waits cs i)
    (λ e.
    let r = active_which tree cs i e in
    subst (λ (x : ℕ). waits cs x ≡ true) (sym (within_leaf tree grown i r.0 leaf r.1 r.2)) r.3)
    (λ e. active_of tree cs i i (leaf_class tree i leaf) (within_self tree grown i) e)

pub child_active : (tree : Tree) → Grown tree → (cs : List Call) (p i : ℕ) → is_child tree p i ≡ true → active tree cs i ≡ true → active tree cs p ≡ true
child_active tree grown cs p i child e =
    let r = active_which tree cs i e in
    active_of tree cs p r.0 r.1 (within_parent tree grown p i r.0 child r.1 r.2) r.3

-- "an interior class while a child is active"
pub interior_active : InteriorActive
interior_active tree grown cs law i inner =
    same_test (active tree cs i) (any_of tree.count (λ k. is_child tree i k && active tree cs k))
    (λ e.
    let r = active_which tree cs i e in
    ⊎_elim (λ (q : i ≡ r.0). never (waits_leaf tree cs law r.0 r.3) (ap (is_leaf tree) (sym q) ∙ inner))
    (λ (s : (k : ℕ) × (is_child tree i k ≡ true) × (is_within tree k r.0 ≡ true)).
    any_of_lem tree.count (λ k. is_child tree i k && active tree cs k) s.0 (child_class tree i s.0 s.1)
    (and_both (is_child tree i s.0) _ s.1 (active_of tree cs s.0 r.0 r.1 s.2 r.3)))
    (within_split tree grown i r.0 r.1 r.2))
    (λ e.
    let r = any_which tree.count (λ k. is_child tree i k && active tree cs k) e in
    child_active tree grown cs i r.0 (and_left (is_child tree i r.0) _ r.2) (and_right (is_child tree i r.0) _ r.2))

module _ (tree : Tree) (grown : Grown tree) (cs : List Call) where
  -- the leaf that a rule chooses has a packet waiting

  goes_waits : (j i : ℕ) → GoesDown tree cs j i → active tree cs i ≡ true → waits cs j ≡ true
  goes_waits j i (reached leaf) e = sym (leaf_active tree grown cs j leaf) ∙ e
  goes_waits j i (down {k = k} first rest) e = goes_waits j k rest first.meant.is_active

  fair_waits : (j i : ℕ) → i ≡ 0 → GoesDown tree cs j i → waits cs j ≡ true
  fair_waits j i e (reached leaf) = never leaf (ap (is_leaf tree) e ∙ root_interior tree grown)
  fair_waits j i e (down {k = k} first rest) = goes_waits j k rest first.meant.is_active

  pub choice_waits : (now j : ℕ) (r : Rule) → Choice tree cs now j r → waits cs j ≡ true
  choice_waits now j RealTime c = c.first.meant.waiting
  choice_waits now j Fair c = fair_waits j 0 refl c.goes_down

  goes_leaf : (j i : ℕ) → GoesDown tree cs j i → is_leaf tree j ≡ true
  goes_leaf j i (reached leaf) = leaf
  goes_leaf j i (down {k = k} first rest) = goes_leaf j k rest

  pub choice_leaf : (now j : ℕ) (r : Rule) → Choice tree cs now j r → is_leaf tree j ≡ true
  choice_leaf now j RealTime c = c.first.meant.leaf
  choice_leaf now j Fair c = goes_leaf j 0 c.goes_down

  -- after an arrival into j a class is active if it was or if j lies in it
  pub active_came : (at j n i : ℕ) → j < tree.count → active tree (came at j n ∷ cs) i ≡ (is_within tree i j || active tree cs i)
  active_came at j n i below =
      same_test (active tree (came at j n ∷ cs) i) (is_within tree i j || active tree cs i)
      (λ e.
      let r = active_which tree (came at j n ∷ cs) i e in
      ⊎_elim (λ (q : j ≡ r.0). or_left (is_within tree i j) _ (subst (λ (x : ℕ). is_within tree i x ≡ true) (sym q) r.2))
      (λ (q : j ≡ r.0 → ⊥).
      or_right (is_within tree i j) _
      (active_of tree cs i r.0 r.1 r.2 (sym (ap is_nonempty (queue_came_other at j n cs r.0 q)) ∙ r.3)))
      (equal_or_not j r.0))
      (λ e.
      ⊎_elim (λ (q : is_within tree i j ≡ true). active_of tree (came at j n ∷ cs) i j below q (waits_came at j n cs))
      (λ (q : active tree cs i ≡ true).
      let r = active_which tree cs i q in
      active_of tree (came at j n ∷ cs) i r.0 r.1 r.2 (waits_came_on at j n cs r.0 r.3))
      (or_either (is_within tree i j) _ e))

  -- after a departure no class is active that was not, and outside the leaf's own line nothing changes
  pub active_left : (at j : ℕ) (r : Rule) (i : ℕ) → active tree (left at j r ∷ cs) i ≡ true → active tree cs i ≡ true
  active_left at j r i e =
      let s = active_which tree (left at j r ∷ cs) i e in
      active_of tree cs i s.0 s.1 s.2 (waits_left_before at j r cs s.0 s.3)

  pub active_left_other : (at j : ℕ) (r : Rule) (i : ℕ) → is_within tree i j ≡ false → active tree (left at j r ∷ cs) i ≡ active tree cs i
  active_left_other at j r i out =
      same_test (active tree (left at j r ∷ cs) i) (active tree cs i) (active_left at j r i)
      (λ e.
      let s = active_which tree cs i e in
      active_of tree (left at j r ∷ cs) i s.0 s.1 s.2
      (ap is_nonempty
      (queue_left_other at j r cs s.0 (λ (q : j ≡ s.0). never (subst (λ (x : ℕ). is_within tree i x ≡ true) (sym q) s.2) out))
      ∙ s.3))

-- the packets that wait in a leaf are numbered from its head's number on, and the next one accepted follows them

tail_length : (ns : List ℕ) → is_nonempty ns ≡ true → length ns ≡ length (tail_of ns) + 1
tail_length [] e = never e refl
tail_length (n ∷ ns) e = omega arith

pub numbers : Numbers
unfolding LawfulCalls head_number next_number queue
numbers tree grown [] law j = refl
numbers tree grown (came at k n ∷ cs) law j =
    ⊎_elim
    (λ (q : eqb k j ≡ true). rw (q, length-append) (omega (arith, numbers tree grown cs law.1 j)))
    (λ (q : eqb k j ≡ false). rw q (numbers tree grown cs law.1 j)) (decided (eqb k j))
numbers tree grown (left at k r ∷ cs) law j =
    ⊎_elim
    (λ (q : eqb k j ≡ true).
    let w = subst (λ (x : ℕ). waits cs x ≡ true) (eqb-true k j q) (choice_waits tree grown cs at k r law.0.finds) in
    rw q (omega (arith, tail_length (queue cs j) w, numbers tree grown cs law.1 j)))
    (λ (q : eqb k j ≡ false). rw q (numbers tree grown cs law.1 j)) (decided (eqb k j))
numbers tree grown (idle at ∷ cs) law j = numbers tree grown cs law.1 j

pub active_idle : (tree : Tree) (cs : List Call) (at i : ℕ) → active tree (idle at ∷ cs) i ≡ active tree cs i
unfolding active queue
active_idle tree cs at i = refl
