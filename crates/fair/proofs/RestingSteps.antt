-- The steps by which classes turn passive after a departure: from a class to its parent, and where they stop.
-- Assumes nothing.
use Prim.Native.Nat.{ℕ, zero, suc, ◌+◌, ◌-◌, ◌≤◌, ◌<◌}
use native.Mathlib.Omega.{arith}
use mathlib.Core.Path.{◌≡◌, refl, sym, ◌∙◌, ap, subst}
use mathlib.Core.Logic.{◌⊎◌, inl, inr, ⊎_elim}
use mathlib.Core.Bool.{true, false}
use mathlib.Core.List.{List, [], ◌∷◌}
use lib.ListN.{length}
use lib.Dec.{ltb}
use borrow.Author.Tests.{lt-ltb, ltb-true}
use Rattle.tree.specs.declared.Tree.{Tree}
use Rattle.tree.specs.Trees.{parent_of, is_child, is_leaf}
use Rattle.rules.specs.declared.Rule.{Rule}
use Rattle.rules.specs.Calls.{Call, left}
use Rattle.rules.specs.Queues.{queue, tail_of, is_nonempty, waits}
use Rattle.rules.specs.Classes.{is_within, active}
use Rattle.rules.specs.Lawful.{Grown, right}
use Rattle.rules.proofs.Tests.{never, decided, is_true, is_false, and_left, and_right, and_both, cond_no, equal_or_not}
use Rattle.rules.proofs.Trees.{leaf_class, a_child, parent_lower, within_up, within_cases, within_at_root, within_self, within_le, within_parent}
use Rattle.rules.proofs.Queues.{queue_left, waits_leaf}
use Rattle.rules.proofs.Active.{leaf_active}
use Rattle.state.specs.Table.{at, with, CLASSES, CELLS}
use Rattle.state.specs.Columns.{ACTIVE, PARENT, fair_from}
use Rattle.state.specs.State.{activity}
use Rattle.state.specs.Steps.{Planted}
use Rattle.fair.specs.Steps.{BeforeRest, AfterRest}
use Rattle.fair.specs.StepsResting.{is_above, BeforePassing, AfterPassing}
use Rattle.state.proofs.Cells.{length_with, at_with_same, at_with_class, at_with_column}
use Rattle.state.proofs.LeafCells.{tree_cells}
use Rattle.state.proofs.Resting.{passive_zero, passive_after, activity_off, activity_falls, activity_above, activity_leaf}

-- the tree's columns are still there where the columns before `fair_from` are as they were
pub planted_still : {m m' : List ℕ} {tree : Tree} {cs : List Call} → length m' ≡ CELLS
    → ((k f : ℕ) → k < CLASSES → f < fair_from → at m' k f ≡ at m k f) → Planted m tree cs → Planted m' tree cs
planted_still {m} {m'} {tree} size same p =
    record {
      size = size;
      right = p.right;
      lawful = p.lawful;
      trees = λ k l.
          tree_cells (λ f some early. same k f (omega (arith, p.right.shape.count.below)) (omega arith)) (p.trees k l);
    }

-- a store to a column from `fair_from` on
pub planted_with : {m : List ℕ} {tree : Tree} {cs : List Call} (i f v : ℕ) → i < CLASSES → fair_from ≤ f → Planted m tree cs → Planted (with m i f v) tree cs
planted_with {m} i f v l late p =
    planted_still (length_with m i f v ∙ p.size) (λ k g b h. at_with_column m i f v k g l b (λ e. omega arith)) p

pub some_of : {n : ℕ} → (n ≡ 0 → ⊥) → 0 < n
some_of h = omega arith

-- the classes above a class

module _ (tree : Tree) (grown : Grown tree) where
  pub above_lower : (k i : ℕ) → i < tree.count → is_above tree k i ≡ true → k < i
  above_lower k i below e =
      let some = ltb-true 0 i (and_left (ltb 0 i) _ e) in
      let lower = parent_lower tree grown i some below in
      omega (arith, within_le tree grown k (parent_of tree i) (omega arith) (and_right (ltb 0 i) _ e))

  pub above_within : (k i : ℕ) → i < tree.count → is_above tree k i ≡ true → is_within tree k i ≡ true
  above_within k i below e = within_up tree grown k i (ltb-true 0 i (and_left (ltb 0 i) _ e)) below (and_right (ltb 0 i) _ e)

  pub within_above : (k i : ℕ) → i < tree.count → is_within tree k i ≡ true → (k ≡ i → ⊥) → is_above tree k i ≡ true
  within_above k zero below e other = absurd (other (within_at_root tree grown k e))
  within_above k (suc i) below e other =
      ⊎_elim (λ (q : suc i ≡ k). absurd (other (sym q)))
      (λ (q : is_within tree k (parent_of tree (suc i)) ≡ true). and_both (ltb 0 (suc i)) _ (lt-ltb 0 (suc i) (omega arith)) q)
      (within_cases tree grown k (suc i) (omega arith) below e)

  pub not_above_self : (i : ℕ) → i < tree.count → is_above tree i i ≡ false
  not_above_self i below = is_false (is_above tree i i) (λ e. omega (arith, above_lower i i below e))

  module _ (i : ℕ) (some : 0 < i) (below : i < tree.count) where
    pub parent_above : is_above tree (parent_of tree i) i ≡ true
    parent_above = and_both (ltb 0 i) _ (lt-ltb 0 i some) (within_self tree grown (parent_of tree i))

    pub above_cases : (k : ℕ) → is_above tree k i ≡ true → (k ≡ parent_of tree i) ⊎ (is_above tree k (parent_of tree i) ≡ true)
    above_cases k e =
        let lower = parent_lower tree grown i some below in
        ⊎_elim (λ (q : k ≡ parent_of tree i). inl q)
        (λ (q : k ≡ parent_of tree i → ⊥). inr (within_above k (parent_of tree i) (omega arith) (and_right (ltb 0 i) _ e) q))
        (equal_or_not k (parent_of tree i))

    pub above_more : (k : ℕ) → is_above tree k (parent_of tree i) ≡ true → is_above tree k i ≡ true
    above_more k e =
        let lower = parent_lower tree grown i some below in
        and_both (ltb 0 i) _ (lt-ltb 0 i some) (above_within k (parent_of tree i) (omega arith) e)

-- what is known of a class that has turned passive, and of its parent
module _ {m : List ℕ} {tree : Tree} {cs : List Call} {j i : ℕ} (b : BeforePassing m tree cs j i) where
  grown : Grown tree
  grown = right b.planted.right

  leaf_below : j < tree.count
  leaf_below = leaf_class tree j (waits_leaf tree cs b.planted.lawful j b.waiting)

  pub passing_class : i < tree.count
  passing_class = omega (arith, within_le tree grown i j leaf_below b.line, leaf_below)

  pub passing_narrow : i < CLASSES
  passing_narrow = omega (arith, passing_class, b.planted.right.shape.count.below)

  pub passing_parent : at m i PARENT ≡ parent_of tree i
  passing_parent = (b.planted.trees i passing_class).parent

  module _ (p : ℕ) (isParent : p ≡ at m i PARENT) (some : 0 < i) where
    parent_is : p ≡ parent_of tree i
    parent_is = isParent ∙ passing_parent

    pub passing_falls : p < i
    passing_falls = omega (arith, parent_is, parent_lower tree grown i some passing_class)

    p_class : p < tree.count
    p_class = omega (arith, passing_falls, passing_class)

    p_narrow : p < CLASSES
    p_narrow = omega (arith, passing_falls, passing_narrow)

    child : is_child tree p i ≡ true
    child = subst (λ (x : ℕ). is_child tree x i ≡ true) (sym parent_is) (a_child tree i some passing_class)

    p_line : is_within tree p j ≡ true
    p_line = within_parent tree grown p i j child leaf_below b.line

    p_above : is_above tree p i ≡ true
    p_above = subst (λ (x : ℕ). is_above tree x i ≡ true) (sym parent_is) (parent_above tree grown i some passing_class)

    p_cases : (k : ℕ) → is_above tree k i ≡ true → (k ≡ p) ⊎ (is_above tree k p ≡ true)
    p_cases k e =
        subst (λ (x : ℕ). (k ≡ x) ⊎ (is_above tree k x ≡ true)) (sym parent_is) (above_cases tree grown i some passing_class k e)

    p_more : (k : ℕ) → is_above tree k p ≡ true → is_above tree k i ≡ true
    p_more k e = above_more tree grown i some passing_class k (subst (λ (x : ℕ). is_above tree k x ≡ true) parent_is e)

    -- the parent has one active child less
    pub one_less : (t : ℕ) (r : Rule) → at m p ACTIVE ≡ activity tree (left t j r ∷ cs) p + 1
    one_less t r = b.actives p p_above ∙ activity_falls tree grown cs b.planted.lawful j b.waiting t r p i child b.line (b.passive t r)

    module _ (busy : ℕ) (isBusy : busy ≡ at m p ACTIVE - 1) where
      abbrev m₁ : List ℕ
      m₁ = with m p ACTIVE busy

      busy_after : (t : ℕ) (r : Rule) → busy ≡ activity tree (left t j r ∷ cs) p
      busy_after t r = omega (arith, isBusy, one_less t r)

      m₁_size : length m₁ ≡ CELLS
      m₁_size = length_with m p ACTIVE busy ∙ b.planted.size

      -- with none left the parent turns passive in its turn
      pub passing_on : busy ≡ 0 → BeforePassing (with m p ACTIVE busy) tree cs j p
      passing_on none =
          record {
            planted = planted_with p ACTIVE busy p_narrow (omega arith) b.planted;
            waiting = b.waiting;
            line = p_line;
            passive = λ t r.
                passive_after tree grown cs b.planted.lawful j b.waiting t r p (sym (busy_after t r) ∙ none);
            actives = λ k e.
                let lower = above_lower tree grown k p p_class e in
                at_with_class m p ACTIVE busy k ACTIVE p_narrow (omega (arith, lower, p_narrow)) (λ q. omega (arith, lower))
                ∙ b.actives k (p_more k e);
          }

      pub passed_on : {m' : List ℕ} → AfterPassing (with m p ACTIVE busy) m' tree cs j p → AfterPassing m m' tree cs j i
      passed_on {m'} a =
          record {
            size = a.size;
            actives = λ t r k e.
                ⊎_elim
                (λ (q : k ≡ p).
                subst (λ (x : ℕ). at m' x ACTIVE ≡ activity tree (left t j r ∷ cs) x) (sym q)
                (a.elsewhere p ACTIVE p_narrow (not_above_self tree grown p p_class)
                ∙ at_with_same m p ACTIVE busy b.planted.size p_narrow (omega arith)
                ∙ busy_after t r))
                (λ (q : is_above tree k p ≡ true). a.actives t r k q) (p_cases k e);
            elsewhere = λ k f l e.
                a.elsewhere k f l (is_false (is_above tree k p) (λ q. never (p_more k q) e))
                ∙ at_with_class m p ACTIVE busy k f p_narrow l
                (λ (q : k ≡ p). never (subst (λ (x : ℕ). is_above tree x i ≡ true) (sym q) p_above) e);
            others = λ k f l other. a.others k f l other ∙ at_with_column m p ACTIVE busy k f p_narrow l other;
          }

      -- with some left the classes above stay as they are
      pub passed_stop : (busy ≡ 0 → ⊥) → AfterPassing m (with m p ACTIVE busy) tree cs j i
      passed_stop some_left =
          passed_on
          (record {
            size = m₁_size;
            actives = λ t r k e.
                let lower = above_lower tree grown k p p_class e in
                at_with_class m p ACTIVE busy k ACTIVE p_narrow (omega (arith, lower, p_narrow)) (λ q. omega (arith, lower))
                ∙ b.actives k (p_more k e)
                ∙ sym
                (activity_above tree grown cs b.planted.lawful j b.waiting t r p k p_line
                (is_true (active tree (left t j r ∷ cs) p)
                (λ q. some_left (busy_after t r ∙ passive_zero tree grown (left t j r ∷ cs) p q)))
                (above_within tree grown k p p_class e) (λ q. omega (arith, lower)) p_class);
            elsewhere = λ k f l e. refl;
            others = λ k f l other. refl;
          })

      -- the same of a table that is known to be the one with the store
      pub passing_step : {m₂ : List ℕ} → m₂ ≡ with m p ACTIVE busy → busy ≡ 0 → BeforePassing m₂ tree cs j p
      passing_step e none = rw e (passing_on none)

      pub passed_step : {m₂ m' : List ℕ} → m₂ ≡ with m p ACTIVE busy → busy ≡ 0 → (BeforePassing m₂ tree cs j p → AfterPassing m₂ m' tree cs j p)
          → AfterPassing m m' tree cs j i
      passed_step {m₂} {m'} e none go = passed_on (subst (λ (x : List ℕ). AfterPassing x m' tree cs j p) e (go (passing_step e none)))

      pub passed_halt : {m₂ : List ℕ} → m₂ ≡ with m p ACTIVE busy → (busy ≡ 0 → ⊥) → AfterPassing m m₂ tree cs j i
      passed_halt e some_left = rw e (passed_stop some_left)

-- the root has nothing above it
pub passed_root : {m : List ℕ} {tree : Tree} {cs : List Call} {j i : ℕ} → i ≡ 0 → BeforePassing m tree cs j i → AfterPassing m m tree cs j i
passed_root {m} {tree} {cs} {j} {i} isRoot b =
    record {
      size = b.planted.size;
      actives = λ t r k e. never e (ap (is_above tree k) isRoot);
      elsewhere = λ k f l e. refl;
      others = λ k f l other. refl;
    }

-- the leaf itself

tail_empty : (ns : List ℕ) → length ns ≡ 1 → is_nonempty (tail_of ns) ≡ false
tail_empty [] e = absurd (omega (arith, e))
tail_empty (n ∷ []) e = refl
tail_empty (n ∷ n' ∷ ns) e = absurd (omega (arith, e))

module _ {m : List ℕ} {tree : Tree} {cs : List Call} {j : ℕ} (b : BeforeRest m tree cs j) where
  top : Grown tree
  top = right b.planted.right

  at_leaf : is_leaf tree j ≡ true
  at_leaf = waits_leaf tree cs b.planted.lawful j b.waiting

  pub resting_class : j < tree.count
  resting_class = leaf_class tree j at_leaf

  pub resting_narrow : j < CLASSES
  resting_narrow = omega (arith, resting_class, b.planted.right.shape.count.below)

  emptied : (t : ℕ) (r : Rule) → waits (left t j r ∷ cs) j ≡ false
  emptied t r = ap is_nonempty (queue_left t j r cs) ∙ tail_empty (queue cs j) b.last

  pub rest_passing : BeforePassing (with m j ACTIVE 0) tree cs j j
  rest_passing =
      record {
        planted = planted_with j ACTIVE 0 resting_narrow (omega arith) b.planted;
        waiting = b.waiting;
        line = within_self tree top j;
        passive = λ t r. leaf_active tree top (left t j r ∷ cs) j at_leaf ∙ emptied t r;
        actives = λ k e.
            let lower = above_lower tree top k j resting_class e in
            at_with_class m j ACTIVE 0 k ACTIVE resting_narrow (omega (arith, lower, resting_narrow)) (λ q. omega (arith, lower))
            ∙ b.actives k (omega (arith, lower, resting_class));
      }

  -- the same of a table that is known to be the one with the store
  pub rest_begun : {m₁ : List ℕ} → m₁ ≡ with m j ACTIVE 0 → BeforePassing m₁ tree cs j j
  rest_begun e = rw e rest_passing

  rested : {m' : List ℕ} → AfterPassing (with m j ACTIVE 0) m' tree cs j j → AfterRest m m' tree cs j
  rested {m'} a =
      record {
        alone = record {
          size = a.size;
          columns = λ k f l h. column k f l (λ e. omega (arith, e));
          rows = λ k f out l h.
              row k f l (λ q. omega (arith, q, resting_class)) (is_false (is_above tree k j) (λ e. omega (arith, above_lower tree top k j resting_class e, resting_class)));
        };
        actives = λ t r k l.
            let narrow : k < CLASSES = omega (arith, l, b.planted.right.shape.count.below) in
            ⊎_elim (λ (e : is_above tree k j ≡ true). a.actives t r k e)
            (λ (e : is_above tree k j ≡ false).
            ⊎_elim
            (λ (q : k ≡ j).
            subst (λ (x : ℕ). at m' x ACTIVE ≡ activity tree (left t j r ∷ cs) x) (sym q)
            (a.elsewhere j ACTIVE resting_narrow (not_above_self tree top j resting_class)
            ∙ at_with_same m j ACTIVE 0 b.planted.size resting_narrow (omega arith)
            ∙ sym (activity_leaf tree (left t j r ∷ cs) j at_leaf ∙ cond_no 1 0 (emptied t r))))
            (λ (q : k ≡ j → ⊥).
            row k ACTIVE narrow q e
            ∙ b.actives k l
            ∙ sym
            (activity_off tree top cs b.planted.lawful j b.waiting t r k
            (is_false (is_within tree k j) (λ w. never (within_above tree top k j resting_class w q) e))))
            (equal_or_not k j))
            (decided (is_above tree k j));
        others = λ k f l h other. column k f l other;
      }
    where
      column : (k f : ℕ) → k < CLASSES → (f ≡ ACTIVE → ⊥) → at m' k f ≡ at m k f
      column k f l other = a.others k f l other ∙ at_with_column m j ACTIVE 0 k f resting_narrow l other

      row : (k f : ℕ) → k < CLASSES → (k ≡ j → ⊥) → is_above tree k j ≡ false → at m' k f ≡ at m k f
      row k f l other e = a.elsewhere k f l e ∙ at_with_class m j ACTIVE 0 k f resting_narrow l other

  pub rest_done : {m₁ m' : List ℕ} → m₁ ≡ with m j ACTIVE 0 → (BeforePassing m₁ tree cs j j → AfterPassing m₁ m' tree cs j j) → AfterRest m m' tree cs j
  rest_done {m₁} {m'} e go = rested (subst (λ (x : List ℕ). AfterPassing x m' tree cs j j) e (go (rest_begun e)))
