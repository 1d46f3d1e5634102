-- A star is a tree of a root and equal leaves below it: it keeps the rules where its leaf is right and the slopes of its curves fit the link.
-- Assumes nothing.
use Prim.Native.Nat.{ℕ, zero, suc, ◌*◌, ◌≤◌, ◌<◌, max}
use mathlib.Core.Path.{◌≡◌, refl, sym, ap, ap₂, subst, ◌∙◌}
use mathlib.Core.Bool.{Bool, true, false, ◌&&◌, ◌||◌}
use mathlib.Core.List.{List, ◌∷◌}
use native.Mathlib.Nat.{le_of_suc-le-suc, le_trans, le_of_eq, mul-le-mul_right}
use native.Mathlib.Omega.{arith}
use lib.Dec.{ltb, eqb, eqb-zero-suc}
use lib.ListN.{get_or, replicate, get_or-replicate}
use Rattle.curve.specs.Curves.{RightCurve, amount, first_slope, last_slope}
use Rattle.curve.specs.Fit.{CurvesFit, sum_of}
use Rattle.curve.specs.declared.Curve.{Curve}
use Rattle.curve.specs.declared.Curve.TheVariants.{None}
use Rattle.curve.proofs.Laws.Amount.{amount_most}
use Rattle.curve.proofs.Laws.Sum.{sum_le, sum_scaled}
use Rattle.curve.proofs.Laws.Fit.{fit_each}
use Rattle.tree.specs.declared.Class.{Class}
use Rattle.tree.specs.declared.Tree.{Tree}
use Rattle.tree.specs.Trees.{no_class, class_at, parent_of, is_child, child_below, has_child, steps_up, depth, curves_of}
use Rattle.tree.specs.Rules.{RightClass, RightOther, RightTree}

-- "Class 0 is the root: parent 0, share 65,536, kind 0."
abbrev pub root : Class
root = record { parent = 0; share = 65536; curve = None }

abbrev pub leaf : Curve → Class
leaf S = record { parent = 0; share = 65536; curve = S }

abbrev pub star : ℕ → Curve → Tree
star n S = record { count = suc n; classes = root ∷ replicate n (leaf S) }

abbrev steepest : Curve → ℕ
steepest S = max (first_slope S) (last_slope S)

-- curves fit whose steepest slopes fit together
slopes_fit : (Ss : List Curve) → sum_of steepest Ss ≤ 65536 → CurvesFit Ss
slopes_fit Ss h =
    fit_each Ss
    (λ t.
    le_trans (sum_le (λ S. amount S t) (λ S. steepest S * t) (λ S. amount_most (steepest S) S (omega arith) (omega arith) t) Ss)
    (le_trans (le_of_eq (sum_scaled steepest t Ss)) (mul-le-mul_right t h)))

and_false : (a b : Bool) → a && (b && false) ≡ false
and_false true true = refl
and_false true false = refl
and_false false true = refl
and_false false false = refl

module _ (n : ℕ) (S : Curve) where
  leaf_parent : (m k : ℕ) → (get_or (replicate m (leaf S)) k no_class).parent ≡ 0
  leaf_parent zero k = refl
  leaf_parent (suc m) zero = refl
  leaf_parent (suc m) (suc k) = leaf_parent m k

  star_parent : (k : ℕ) → parent_of (star n S) k ≡ 0
  unfolding class_at
  star_parent zero = refl
  star_parent (suc k) = leaf_parent n k

  star_leaf : (k : ℕ) → k < n → class_at (star n S) (suc k) ≡ leaf S
  unfolding class_at
  star_leaf k h = get_or-replicate n k (leaf S) no_class h

  no_child : (p m : ℕ) → child_below (star n S) (suc p) m ≡ false
  unfolding child_below is_child
  no_child p zero = refl
  no_child p (suc m) =
      ap₂ ◌||◌
      (ap (λ (b : Bool). ltb 0 m && (ltb m (suc n) && b)) (ap (λ (k : ℕ). eqb k (suc p)) (star_parent m) ∙ eqb-zero-suc p)
      ∙ and_false (ltb 0 m) (ltb m (suc n)))
      (no_child p m)

  childless : (p : ℕ) → has_child (star n S) (suc p) ≡ false
  unfolding has_child
  childless p = no_child p (suc n)

  from_root : (k : ℕ) → steps_up (star n S) k 0 ≡ 0
  unfolding steps_up
  from_root zero = refl
  from_root (suc k) = refl

  star_depth : (i : ℕ) → depth (star n S) i ≤ 8
  unfolding depth steps_up
  star_depth zero = omega arith
  star_depth (suc i) =
      let up : steps_up (star n S) i (parent_of (star n S) (suc i)) ≡ 0 = ap (steps_up (star n S) i) (star_parent (suc i)) ∙ from_root i in
      omega arith

  star_body : RightCurve S → (i : ℕ) → i < suc n → RightClass (class_at (star n S) i) i
  unfolding RightClass class_at
  star_body r zero h = record { parent = refl; share = refl; curve = refl }
  star_body r (suc i) h =
      subst (λ (k : Class). RightOther k (suc i)) (sym (star_leaf i (le_of_suc-le-suc h)))
      (record { parent = omega arith; share = record { above = omega arith; below = omega arith }; curve = r })

  star_place : (i : ℕ) → has_child (star n S) i ≡ true → (class_at (star n S) i).curve ≡ None
  unfolding class_at
  star_place zero has = refl
  star_place (suc i) has = absurd (let z : ◌≡◌ {A = ℕ} 0 1 = cc (childless i) in omega arith)

  pub star_right : 0 < n → n < 64 → RightCurve S → sum_of steepest (curves_of (star n S)) ≤ 65536 → RightTree (star n S)
  star_right some few r slopes = record {
    shape =
        record {
          count = record { above = omega arith; below = omega arith };
          bodies = star_body r;
          depths = λ i h. star_depth i;
          places = λ i h. star_place i;
        };
    fit = slopes_fit (curves_of (star n S)) slopes;
  }
