-- A grown tree: parents have lower numbers, and the classes at or above a class are met on the way upward.
-- Assumes nothing.
use Rattle.std.proofs.Common.{◌≡◌, ℕ, zero, suc, ◌<◌, ◌≤◌, Bool, true, false, ◌||◌, eqb, ◌⊎◌, sym, refl, ap, ◌∙◌, subst, inl, inr, ⊎_elim, arith, eq-eqb, eqb-true}
use mathlib.Core.Bool.{or_self}
use Rattle.curve.specs.Curves.{Rising}
use Rattle.curve.specs.declared.Curve.{Curve}
use Rattle.curve.specs.declared.Curve.TheVariants.{None}
use Rattle.tree.specs.declared.Tree.{Tree}
use Rattle.tree.specs.Trees.{empty_tree, parent_of, share_of, curve_of, is_child, is_leaf}
use Rattle.tree.specs.Rules.{RightShape, RightTree}
use Rattle.tree.proofs.Children.{child_of, is_child_lem, no_child, has_child_lem, leaf_no_child}
use Rattle.tree.proofs.Right
use Rattle.rules.specs.Classes.{is_met, is_within}
use Rattle.rules.specs.Choice.{has_curve}
use Rattle.rules.specs.Lawful.{Grown, right, none}
use Rattle.rules.proofs.Tests.{never, is_false, or_either, or_left, or_right}
pub use Rattle.tree.proofs.Children.{leaf_class}

-- children, from the tree layer's laws

pub child_class : (tree : Tree) (p k : ℕ) → is_child tree p k ≡ true → k < tree.count
child_class tree p k e = (child_of tree p k e).class

pub child_some : (tree : Tree) (p k : ℕ) → is_child tree p k ≡ true → 0 < k
child_some tree p k e = (child_of tree p k e).above

pub child_parent : (tree : Tree) (p k : ℕ) → is_child tree p k ≡ true → parent_of tree k ≡ p
child_parent tree p k e = (child_of tree p k e).parent

pub a_child : (tree : Tree) (k : ℕ) → 0 < k → k < tree.count → is_child tree (parent_of tree k) k ≡ true
a_child tree k some below = is_child_lem tree (parent_of tree k) k (record { above = some; class = below; parent = refl })

pub leaf_childless : (tree : Tree) (p k : ℕ) → is_leaf tree p ≡ true → is_child tree p k ≡ false
leaf_childless tree p k leaf = no_child tree p k (leaf_no_child tree p leaf k)

-- a curve that is there
pub has_curve_lem : (S : Curve) → has_curve S ≡ true → S ≡ None → ⊥
has_curve_lem S e q = never e (ap has_curve q)

-- what the rules of a tree say of a class, where there is one

-- the tree that "a refused start gives" has no classes
pub none_count : {tree : Tree} → tree ≡ empty_tree → tree.count ≡ 0
unfolding empty_tree
none_count e = ap (λ (t : Tree). t.count) e

module _ (tree : Tree) (grown : Grown tree) where
  pub right_tree : (j : ℕ) → j < tree.count → RightTree tree
  right_tree j below = elim grown [ right r ↦ r | none e ↦ absurd (omega (arith, none_count e)) ]

  right_shape : (j : ℕ) → j < tree.count → RightShape tree
  right_shape j below = (right_tree j below).shape

  pub parent_lower : (j : ℕ) → 0 < j → j < tree.count → parent_of tree j < j
  parent_lower j some below = Right.parent_lower tree (right_shape j below) j some below

  pub root_parent : 0 < tree.count → parent_of tree 0 ≡ 0
  root_parent below = (Right.root tree (right_shape 0 below)).parent

  pub share_some : (j : ℕ) → j < tree.count → 1 ≤ share_of tree j
  share_some j below = (Right.share_within tree (right_shape j below) j below).above

  pub curve_rising : (j : ℕ) → j < tree.count → has_curve (curve_of tree j) ≡ true → Rising (curve_of tree j)
  curve_rising j below e = Right.curve_rising tree (right_shape j below) j below (has_curve_lem (curve_of tree j) e)

  pub root_interior : is_leaf tree 0 ≡ false
  root_interior =
      is_false (is_leaf tree 0)
      (λ leaf.
      let (k, child) = has_child_lem tree 0 (Right.root_has_child tree (right_shape 0 (leaf_class tree 0 leaf))) in
      leaf_no_child tree 0 leaf k child)

  -- the way upward

  met_root : (i n : ℕ) → 0 < tree.count → is_met tree n i 0 ≡ eqb 0 i
  unfolding is_met
  met_root i zero some = refl
  met_root i (suc n) some = ap (λ (j : ℕ). eqb 0 i || is_met tree n i j) (root_parent some) ∙ ap (λ (b : Bool). eqb 0 i || b) (met_root i n some) ∙ or_self (eqb 0 i)

  met_enough : (i n m j : ℕ) → j ≤ n → j ≤ m → j < tree.count → is_met tree n i j ≡ is_met tree m i j
  unfolding is_met
  met_enough i zero m zero l r below = met_root i zero below ∙ sym (met_root i m below)
  met_enough i zero m (suc j) l r below = absurd (omega arith)
  met_enough i (suc n) m zero l r below = met_root i (suc n) below ∙ sym (met_root i m below)
  met_enough i (suc n) zero (suc j) l r below = absurd (omega arith)
  met_enough i (suc n) (suc m) (suc j) l r below =
      let h = parent_lower (suc j) (omega arith) below in
      ap (λ (b : Bool). eqb (suc j) i || b) (met_enough i n m (parent_of tree (suc j)) (omega arith) (omega arith) (omega arith))

  pub within_step : (i j : ℕ) → 0 < j → j < tree.count → is_within tree i j ≡ (eqb j i || is_within tree i (parent_of tree j))
  unfolding is_met
  within_step i zero some below = absurd (omega arith)
  within_step i (suc j) some below =
      let h = parent_lower (suc j) (omega arith) below in
      ap (λ (b : Bool). eqb (suc j) i || b) (met_enough i j (parent_of tree (suc j)) (parent_of tree (suc j)) (omega arith) (omega arith) (omega arith))

  -- a way of arguing about the classes at or above a class: j itself, and then those at or above its parent
  pub upward : (P : ℕ → Type 0) → P 0 → ((j : ℕ) → 0 < j → j < tree.count → P (parent_of tree j) → P j) → (j : ℕ) → j < tree.count → P j
  upward P root step j below = go j j (omega arith) below
    where
      go : (n j : ℕ) → j ≤ n → j < tree.count → P j
      go zero zero l below = root
      go zero (suc j) l below = absurd (omega arith)
      go (suc n) zero l below = root
      go (suc n) (suc j) l below =
          let h = parent_lower (suc j) (omega arith) below in
          step (suc j) (omega arith) below (go n (parent_of tree (suc j)) (omega arith) (omega arith))

  pub within_up : (i j : ℕ) → 0 < j → j < tree.count → is_within tree i (parent_of tree j) ≡ true → is_within tree i j ≡ true
  within_up i j some below e = within_step i j some below ∙ or_right (eqb j i) _ e

  pub within_cases : (i j : ℕ) → 0 < j → j < tree.count → is_within tree i j ≡ true → (j ≡ i) ⊎ (is_within tree i (parent_of tree j) ≡ true)
  within_cases i j some below e =
      ⊎_elim (λ (q : eqb j i ≡ true). inl (eqb-true j i q)) (λ (q : is_within tree i (parent_of tree j) ≡ true). inr q)
      (or_either (eqb j i) _ (sym (within_step i j some below) ∙ e))

  pub within_at_root : (i : ℕ) → is_within tree i 0 ≡ true → i ≡ 0
  unfolding is_met
  within_at_root i e = sym (eqb-true 0 i e)

  pub within_self : (i : ℕ) → is_within tree i i ≡ true
  unfolding is_met
  within_self zero = refl
  within_self (suc i) = or_left (eqb (suc i) (suc i)) _ (eq-eqb (suc i) (suc i) refl)

  pub within_top : (j : ℕ) → j < tree.count → is_within tree 0 j ≡ true
  within_top = upward (λ (j : ℕ). is_within tree 0 j ≡ true) (within_self 0) (λ j some below e. within_up 0 j some below e)

  pub within_le : (i j : ℕ) → j < tree.count → is_within tree i j ≡ true → i ≤ j
  within_le i =
      upward (λ (j : ℕ). is_within tree i j ≡ true → i ≤ j) (λ e. omega (arith, within_at_root i e))
      (λ j some below up e.
      ⊎_elim (λ (q : j ≡ i). omega arith) (λ (q : is_within tree i (parent_of tree j) ≡ true). omega (arith, up q, parent_lower j some below))
      (within_cases i j some below e))

  -- what lies in a child lies in its parent
  pub within_parent : (p i j : ℕ) → is_child tree p i ≡ true → j < tree.count → is_within tree i j ≡ true → is_within tree p j ≡ true
  within_parent p i j child =
      upward (λ (j : ℕ). is_within tree i j ≡ true → is_within tree p j ≡ true)
      (λ e. absurd (omega (arith, within_at_root i e, child_some tree p i child)))
      (λ j some below up e.
      within_up p j some below
      (⊎_elim
      (λ (q : j ≡ i).
      subst (λ (x : ℕ). is_within tree p x ≡ true) (sym (ap (parent_of tree) q ∙ child_parent tree p i child)) (within_self p))
      (λ (q : is_within tree i (parent_of tree j) ≡ true). up q) (within_cases i j some below e)))
      j

  -- what lies in a class is the class itself or lies in one of its children
  pub within_split : (i j : ℕ) → j < tree.count → is_within tree i j ≡ true → (i ≡ j) ⊎ ((k : ℕ) × (is_child tree i k ≡ true) × (is_within tree k j ≡ true))
  within_split i =
      upward
      (λ (j : ℕ). is_within tree i j ≡ true → (i ≡ j) ⊎ ((k : ℕ) × (is_child tree i k ≡ true) × (is_within tree k j ≡ true)))
      (λ e. inl (within_at_root i e))
      (λ j some below up e.
      ⊎_elim (λ (q : j ≡ i). inl (sym q))
      (λ (q : is_within tree i (parent_of tree j) ≡ true).
      inr
      (⊎_elim
      (λ (r : i ≡ parent_of tree j).
      (j, subst (λ (x : ℕ). is_child tree x j ≡ true) (sym r) (a_child tree j some below), within_self j))
      (λ (r : (k : ℕ) × (is_child tree i k ≡ true) × (is_within tree k (parent_of tree j) ≡ true)).
      (r.0, r.1, within_up r.0 j some below r.2))
      (up q)))
      (within_cases i j some below e))

  pub within_leaf : (i j : ℕ) → is_leaf tree i ≡ true → j < tree.count → is_within tree i j ≡ true → i ≡ j
  within_leaf i j leaf below e =
      ⊎_elim (λ (q : i ≡ j). q)
      (λ (r : (k : ℕ) × (is_child tree i k ≡ true) × (is_within tree k j ≡ true)). never r.1 (leaf_childless tree i r.0 leaf))
      (within_split i j below e)

  -- two children of one class hold nothing in common
  pub within_one : (p k l j : ℕ) → is_child tree p k ≡ true → is_child tree p l ≡ true → j < tree.count
      → is_within tree k j ≡ true → is_within tree l j ≡ true → k ≡ l
  within_one p k l j ck cl =
      upward (λ (j : ℕ). is_within tree k j ≡ true → is_within tree l j ≡ true → k ≡ l)
      (λ e f. within_at_root k e ∙ sym (within_at_root l f))
      (λ j some below up e f.
      let lower = parent_lower j some below in
      ⊎_elim
      (λ (q : j ≡ k).
      ⊎_elim (λ (r : j ≡ l). sym q ∙ r)
      (λ (r : is_within tree l (parent_of tree j) ≡ true).
      absurd
      (omega (arith, within_le l (parent_of tree j) (omega arith) r, ap (parent_of tree) q, child_parent tree p k ck, child_parent tree p l cl, parent_lower l (child_some tree p l cl) (child_class tree p l cl))))
      (within_cases l j some below f))
      (λ (q : is_within tree k (parent_of tree j) ≡ true).
      ⊎_elim
      (λ (r : j ≡ l).
      absurd
      (omega (arith, within_le k (parent_of tree j) (omega arith) q, ap (parent_of tree) r, child_parent tree p l cl, child_parent tree p k ck, parent_lower k (child_some tree p k ck) (child_class tree p k ck))))
      (λ (r : is_within tree l (parent_of tree j) ≡ true). up q r) (within_cases l j some below f))
      (within_cases k j some below e))
      j
