-- A tree of right shape, for the layers above: what each of its classes is like, whatever its curves add up to.
-- Assumes nothing.
use Prim.Native.Nat.{ℕ, zero, suc, ◌<◌}
use mathlib.Core.Bool.{true, false}
use mathlib.Core.Path.{◌≡◌, refl, ap, ◌∙◌}
use native.Mathlib.Omega.{arith}
use Rattle.curve.specs.Curves.{RightRate, RightCurve, Rising}
use Rattle.curve.specs.declared.Curve.TheVariants.{None}
use Rattle.curve.proofs.Laws.Limits.{none_right, right_rising}
use Rattle.tree.specs.Rules.{RightRoot, RightOther, RightShape}
use Rattle.tree.specs.Trees.{deepest, class_at, parent_of, share_of, curve_of, has_child, is_leaf, depth}
use Rattle.tree.specs.declared.Tree.{Tree}
use Rattle.tree.proofs.Children.{ChildOf, child_has, childless_leaf, is_false}
use Rattle.tree.proofs.Classes.{right_root, right_other}
use Rattle.tree.proofs.Depths.{depth_up}

module _ (t : Tree) (right : RightShape t) where
  pub root : RightRoot (class_at t 0)
  root = right_root (class_at t 0) 0 refl (right.bodies 0 (omega arith))

  pub other : (i : ℕ) → 0 < i → i < t.count → RightOther (class_at t i) i
  other i above class = right_other (class_at t i) i above (right.bodies i class)

  pub parent_lower : (i : ℕ) → 0 < i → i < t.count → parent_of t i < i
  parent_lower i above class = (other i above class).parent

  -- the root is its own parent, so every class has a class for its parent
  pub parent_class : (i : ℕ) → i < t.count → parent_of t i < t.count
  parent_class zero class = rw root.parent class
  parent_class (suc i) class = let lower = parent_lower (suc i) (omega arith) class in omega arith

  pub share_within : (i : ℕ) → i < t.count → RightRate (share_of t i)
  share_within zero class = record { above = rw root.share (omega arith); below = rw root.share (omega arith) }
  share_within (suc i) class = (other (suc i) (omega arith) class).share

  pub curve_right : (i : ℕ) → i < t.count → RightCurve (curve_of t i)
  curve_right zero class = rw root.curve none_right
  curve_right (suc i) class = (other (suc i) (omega arith) class).curve

  pub curve_rising : (i : ℕ) → i < t.count → (curve_of t i ≡ None → ⊥) → Rising (curve_of t i)
  curve_rising i class some = right_rising (curve_of t i) (curve_right i class) some

  -- "A leaf may also have a real-time curve; an interior class may not."
  pub curve_childless : (i : ℕ) → i < t.count → (curve_of t i ≡ None → ⊥) → has_child t i ≡ false
  curve_childless i class some = is_false (has_child t i) (λ has. some (right.places i class has))

  pub curve_leaf : (i : ℕ) → i < t.count → (curve_of t i ≡ None → ⊥) → is_leaf t i ≡ true
  curve_leaf i class some = childless_leaf t i class (curve_childless i class some)

  -- a child lies one deeper than its parent, and at most as deep as a class may lie
  pub deeper : (i : ℕ) → 0 < i → i < t.count → depth t i ≡ suc (depth t (parent_of t i))
  deeper i above class = depth_up t t.count parent_lower i above class

  pub child_deeper : (p i : ℕ) → ChildOf t p i → depth t i ≡ suc (depth t p)
  child_deeper p i child = deeper i child.above child.class ∙ ap (λ (k : ℕ). suc (depth t k)) child.parent

  pub parent_shallow : (p i : ℕ) → ChildOf t p i → depth t p < deepest
  parent_shallow p i child = let at = child_deeper p i child in let most = right.depths i child.class in omega arith

  -- the root has a child: it is no leaf
  pub root_has_child : has_child t 0 ≡ true
  root_has_child =
      let lower = parent_lower 1 (omega arith) (omega arith) in
      child_has t 0 1 (record { above = omega arith; class = omega arith; parent = omega arith })
