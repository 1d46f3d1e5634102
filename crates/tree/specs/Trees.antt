-- Document 01, "Units and limits" and "The class-tree file": a tree's classes, who is whose parent, and how deep a class lies.
-- "A tree is its count and the classes numbered below it; nothing else held with it counts."
-- Assumes nothing.
use Rattle.std.specs.Prelude.{ℕ, zero, suc, ◌<◌, ◌≡◌, Bool, false, not, ◌&&◌, ◌||◌, cond, List, [], ◌∷◌, get_or, replicate, ltb, eqb}
use Rattle.curve.specs.declared.Curve.{Curve}
use Rattle.curve.specs.declared.Curve.TheVariants.{None}
use Rattle.tree.specs.declared.Class.{Class}
use Rattle.tree.specs.declared.Tree.{Tree}

-- "classes, root included: 2 to 64"
abbrev pub most_classes : ℕ
most_classes = 64

-- "depth of a class (root is 0): at most 8"
abbrev pub deepest : ℕ
deepest = 8

-- what stands where no class is
abbrev pub no_class : Class
no_class = record { parent = 0; share = 0; curve = None }

unfoldable pub class_at : Tree → ℕ → Class
class_at t i = get_or t.classes i no_class

abbrev pub parent_of : Tree → ℕ → ℕ
parent_of t i = (class_at t i).parent

abbrev pub share_of : Tree → ℕ → ℕ
share_of t i = (class_at t i).share

abbrev pub curve_of : Tree → ℕ → Curve
curve_of t i = (class_at t i).curve

-- class i is a child of class p: it is a class, it names p as its parent, and it is not the root, which is nobody's child
unfoldable pub is_child : Tree → ℕ → ℕ → Bool
is_child t p i = ltb 0 i && (ltb i t.count && eqb (parent_of t i) p)

-- a class numbered below n is a child of p
unfoldable pub child_below : Tree → ℕ → ℕ → Bool
child_below t p zero = false
child_below t p (suc n) = is_child t p n || child_below t p n

-- "a class with children"
unfoldable pub has_child : Tree → ℕ → Bool
has_child t p = child_below t p t.count

-- a leaf is a class with no child
unfoldable pub is_leaf : Tree → ℕ → Bool
is_leaf t i = ltb i t.count && not (has_child t i)

-- the steps upward from class i to the root, of at most n steps
unfoldable pub steps_up : Tree → ℕ → ℕ → ℕ
steps_up t zero i = 0
steps_up t (suc n) zero = 0
steps_up t (suc n) (suc i) = suc (steps_up t n (parent_of t (suc i)))

-- "depth of a class (root is 0)". "Any other class has a parent of lower number", so that as many steps as its own number are enough.
unfoldable pub depth : Tree → ℕ → ℕ
depth t i = steps_up t i i

-- the curve of class i, where there is such a class
unfoldable pub curve_below : Tree → ℕ → Curve
curve_below t i = cond (ltb i t.count) (curve_of t i) None

-- the curves of n classes, from class i on
unfoldable pub curves_from : Tree → ℕ → ℕ → List Curve
curves_from t i zero = []
curves_from t i (suc n) = curve_below t i ∷ curves_from t (suc i) n

-- "the real-time curves": as many as the most classes, in their order, and none where no class is
unfoldable pub curves_of : Tree → List Curve
curves_of t = curves_from t 0 most_classes

-- two trees are the same: equal counts, and equal classes below the count
pub record SameTree (t u : Tree) : Type 0 where
  pub counts : t.count ≡ u.count
  pub classes : (i : ℕ) → i < t.count → class_at t i ≡ class_at u i

-- "a tree of no classes": what every refusal yields
unfoldable pub empty_tree : Tree
empty_tree = record { count = 0; classes = replicate most_classes no_class }
