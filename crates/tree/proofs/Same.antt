-- "A tree is its count and the classes numbered below it; nothing else held with it counts": trees that are the same have the same children, depths,
-- curves and verdict.
-- Assumes nothing.
use Prim.Native.Nat.{ℕ, zero, suc, ◌<◌}
use mathlib.Core.Bool.{Bool, true, false, ◌&&◌, ◌||◌, not}
use mathlib.Core.List.{◌∷◌}
use mathlib.Core.Logic.{⊎_elim}
use mathlib.Core.Path.{◌≡◌, refl, sym, ap, ap₂, ◌∙◌, subst}
use native.Mathlib.Omega.{arith}
use lib.Dec.{ltb}
use Rattle.curve.specs.Fit.{CurvesFit}
use Rattle.curve.proofs.Laws.Order.{le_or_lt}
use Rattle.tree.specs.Rules.{RightClass, RightBody, RightDepth, RightPlace, RightShape, RightTree, EveryClass, ShapeChecked, FitChecked, Checked, ShapeJudged, Judged}
use Rattle.tree.specs.Trees.{most_classes, parent_of, share_of, curve_of, is_child, child_below, has_child, is_leaf, steps_up, depth, curve_below, curves_from, curves_of, SameTree}
use Rattle.tree.specs.declared.Class.{Class}
use Rattle.tree.specs.declared.Tree.{Tree}
use Rattle.tree.specs.Verdicts.{Verdict, all_right}
use Rattle.tree.proofs.Children.{ChildOf, child_of, is_child_lem}
use Rattle.tree.proofs.Curves.{curve_below_lem, curve_above}
use Rattle.tree.proofs.Depths.{lower_parent}
use Rattle.tree.proofs.Rule.{rule_map, SameBelow, every_map, lowest_map, whole_map}

pub same_self : (t : Tree) → SameTree t t
same_self t = record { counts = refl; classes = λ i l. refl }

pub same_back : {t u : Tree} → SameTree t u → SameTree u t
same_back same = record { counts = sym same.counts; classes = λ i l. sym (same.classes i (rw same.counts l)) }

pub same_on : {t u w : Tree} → SameTree t u → SameTree u w → SameTree t w
same_on one two = record { counts = one.counts ∙ two.counts; classes = λ i l. one.classes i l ∙ two.classes i (rw (← one.counts) l) }

child_on : {t u : Tree} → SameTree t u → (p i : ℕ) → ChildOf t p i → ChildOf u p i
child_on same p i child =
    record {
      above = child.above;
      class = rw (← same.counts) child.class;
      parent = ap (λ (c : Class). c.parent) (sym (same.classes i child.class)) ∙ child.parent;
    }

-- two tests that pass together are equal
tests_equal : (a b : Bool) → (a ≡ true → b ≡ true) → (b ≡ true → a ≡ true) → a ≡ b
tests_equal true b f g = sym (f refl)
tests_equal false true f g = g refl
tests_equal false false f g = refl

module _ (t u : Tree) (same : SameTree t u) where
  pub same_parent : (i : ℕ) → i < t.count → parent_of t i ≡ parent_of u i
  same_parent i l = ap (λ (c : Class). c.parent) (same.classes i l)

  pub same_share : (i : ℕ) → i < t.count → share_of t i ≡ share_of u i
  same_share i l = ap (λ (c : Class). c.share) (same.classes i l)

  pub same_curve : (i : ℕ) → i < t.count → curve_of t i ≡ curve_of u i
  same_curve i l = ap (λ (c : Class). c.curve) (same.classes i l)

  pub same_child : (p i : ℕ) → is_child t p i ≡ is_child u p i
  same_child p i =
      tests_equal (is_child t p i) (is_child u p i)
      (λ e. is_child_lem u p i (child_on same p i (child_of t p i e)))
      (λ e. is_child_lem t p i (child_on (same_back same) p i (child_of u p i e)))

  below_same : (p n : ℕ) → child_below t p n ≡ child_below u p n
  unfolding child_below
  below_same p zero = refl
  below_same p (suc n) = ap₂ ◌||◌ (same_child p n) (below_same p n)

  pub same_has_child : (p : ℕ) → has_child t p ≡ has_child u p
  unfolding has_child
  same_has_child p = below_same p t.count ∙ ap (child_below u p) same.counts

  pub same_leaf : (i : ℕ) → is_leaf t i ≡ is_leaf u i
  unfolding is_leaf
  same_leaf i = ap₂ ◌&&◌ (ap (ltb i) same.counts) (ap not (same_has_child i))

  same_curve_below : (i : ℕ) → curve_below t i ≡ curve_below u i
  same_curve_below i =
      ⊎_elim
      (λ l. curve_above t i l ∙ sym (curve_above u i (rw (← same.counts) l)))
      (λ l. curve_below_lem t i l ∙ same_curve i l ∙ sym (curve_below_lem u i (rw (← same.counts) l)))
      (le_or_lt t.count i)

  from_same : (i n : ℕ) → curves_from t i n ≡ curves_from u i n
  unfolding curves_from
  from_same i zero = refl
  from_same i (suc n) = ap₂ ◌∷◌ (same_curve_below i) (from_same (suc i) n)

  pub same_curves : curves_of t ≡ curves_of u
  unfolding curves_of
  same_curves = from_same 0 most_classes

  steps_same : EveryClass (RightBody t) t.count → (n i : ℕ) → i < t.count → steps_up t n i ≡ steps_up u n i
  unfolding steps_up
  steps_same right zero i l = refl
  steps_same right (suc n) zero l = refl
  steps_same right (suc n) (suc i) l =
      let lower = lower_parent t t.count right (suc i) (omega arith) l in
      ap suc
      (steps_same right n (parent_of t (suc i)) (omega arith) ∙ ap (steps_up u n) (same_parent (suc i) l))

  -- where every parent has a lower number
  pub same_depth : EveryClass (RightBody t) t.count → (i : ℕ) → i < t.count → depth t i ≡ depth u i
  unfolding depth
  same_depth right i l = steps_same right i i l

  bodies_same : SameBelow (RightBody t) (RightBody u) t.count
  bodies_same =
      record {
        to = λ i l good. subst (λ (c : Class). RightClass c i) (same.classes i l) good;
        from = λ i l good. subst (λ (c : Class). RightClass c i) (sym (same.classes i l)) good;
      }

  depths_same : EveryClass (RightBody t) t.count → SameBelow (RightDepth t) (RightDepth u) t.count
  depths_same right =
      record {
        to = λ i l good. rw (← same_depth right i l) good;
        from = λ i l good. rw (same_depth right i l) good;
      }

  places_same : SameBelow (RightPlace t) (RightPlace u) t.count
  places_same =
      record {
        to = λ i l good has. sym (same_curve i l) ∙ good (same_has_child i ∙ has);
        from = λ i l good has. same_curve i l ∙ good (sym (same_has_child i) ∙ has);
      }

  pub same_shape : RightShape t → RightShape u
  same_shape right =
      record {
        count = rw (← same.counts) right.count;
        bodies = every_map same.counts bodies_same right.bodies;
        depths = every_map same.counts (depths_same right.bodies) right.depths;
        places = every_map same.counts places_same right.places;
      }

  pub same_right : RightTree t → RightTree u
  same_right right = record { shape = same_shape right.shape; fit = subst CurvesFit same_curves right.fit }

  -- the verdict by shape, where what comes after gives the same; the verdict of check 10; and that of both
  pub same_shape_checked : (Next Next' : Verdict → Type 0) (v : Verdict) → (Next v → Next' v) → ShapeChecked t Next v → ShapeChecked u Next' v
  unfolding ShapeChecked
  same_shape_checked Next Next' v after =
      rule_map (λ count. rw (← same.counts) count) (whole_map (λ count. rw same.counts count))
      (λ count.
      rule_map (every_map same.counts bodies_same) (lowest_map same.counts bodies_same)
      (λ bodies.
      rule_map (every_map same.counts (depths_same bodies)) (lowest_map same.counts (depths_same bodies))
      (λ depths.
      rule_map (every_map same.counts places_same) (lowest_map same.counts places_same)
      (λ places. after))))

  same_fit_checked : (Next : Verdict → Type 0) (v : Verdict) → FitChecked t Next v → FitChecked u Next v
  same_fit_checked Next v = rule_map (subst CurvesFit same_curves) (whole_map (subst CurvesFit (sym same_curves))) (λ fit next. next)

  pub same_checked : (Next : Verdict → Type 0) (v : Verdict) → Checked t Next v → Checked u Next v
  same_checked Next v = same_shape_checked (FitChecked t Next) (FitChecked u Next) v (same_fit_checked Next v)

  pub same_shape_judged : (v : Verdict) → ShapeJudged t v → ShapeJudged u v
  same_shape_judged v = same_shape_checked (λ w. w ≡ all_right) (λ w. w ≡ all_right) v (λ right. right)

  pub same_judged : (v : Verdict) → Judged t v → Judged u v
  same_judged v judged = same_checked (λ w. w ≡ all_right) v judged
