-- The verdict of a tree, by its shape and in whole: which facts give which, and which tree is right.
-- Assumes nothing.
use Prim.Native.Nat.{ℕ}
use mathlib.Core.Path.{◌≡◌, refl}
use native.Mathlib.Omega.{arith}
use Rattle.curve.specs.Fit.{CurvesFit}
use Rattle.tree.specs.Rules.{RightCount, RightBody, RightDepth, RightPlace, RightShape, RightTree, EveryClass, LowestFault, broken, kept, ShapeChecked, FitChecked, Checked, ShapeJudged, Judged}
use Rattle.tree.specs.Trees.{curves_of}
use Rattle.tree.specs.declared.Refusal.{Refusal}
use Rattle.tree.specs.declared.Refusal.TheVariants.{WrongCount, WrongBody, TooDeep, CurveAboveChildren, CurvesDontFit}
use Rattle.tree.specs.declared.Tree.{Tree}
use Rattle.tree.specs.Verdicts.{Verdict, all_right, refused}
use Rattle.tree.proofs.Rule.{AtMostOne, rule_one, lowest_one, lowest_none, whole_one, whole_none}
use Rattle.tree.proofs.Same.{same_self, same_shape_checked}

-- ---- the shape
module _ (t : Tree) (Next : Verdict → Type 0) where
  pub refused-4 : (RightCount t → ⊥) → ShapeChecked t Next (refused WrongCount 0)
  unfolding ShapeChecked
  refused-4 wrong = broken refl (record { zero = refl; fault = wrong })

  pub refused-7 : {i : ℕ} → RightCount t → LowestFault (RightBody t) t.count i → ShapeChecked t Next (refused WrongBody i)
  unfolding ShapeChecked
  refused-7 count low = kept count (broken refl low)

  pub refused-8 : {i : ℕ} → RightCount t → EveryClass (RightBody t) t.count → LowestFault (RightDepth t) t.count i →
      ShapeChecked t Next (refused TooDeep i)
  unfolding ShapeChecked
  refused-8 count bodies low = kept count (kept bodies (broken refl low))

  pub refused-9 : {i : ℕ} → RightCount t → EveryClass (RightBody t) t.count → EveryClass (RightDepth t) t.count →
      LowestFault (RightPlace t) t.count i → ShapeChecked t Next (refused CurveAboveChildren i)
  unfolding ShapeChecked
  refused-9 count bodies depths low = kept count (kept bodies (kept depths (broken refl low)))

  -- a tree of right shape passes the checks, and what comes after them decides
  pub shape_passes : (v : Verdict) → RightShape t → Next v → ShapeChecked t Next v
  unfolding ShapeChecked
  shape_passes v right next = kept right.count (kept right.bodies (kept right.depths (kept right.places next)))

  -- a verdict that no refusal gives is that of what comes after the checks, and the tree has a right shape
  pub shape_passed : ShapeChecked t Next all_right → RightShape t × Next all_right
  unfolding ShapeChecked
  shape_passed (kept count (kept bodies (kept depths (kept places next)))) =
      (record { count = count; bodies = bodies; depths = depths; places = places }, next)

  -- a shape that is refused is refused whatever comes after
  pub shape_refused : (why : Refusal) (i : ℕ) → ShapeJudged t (refused why i) → ShapeChecked t Next (refused why i)
  shape_refused why i =
      same_shape_checked t t (same_self t) (λ v. v ≡ all_right) Next (refused why i) (λ right. absurd (let z : ◌≡◌ {A = ℕ} 0 1 = cc in omega arith))

  -- one verdict at most
  pub shape_checked_one : AtMostOne Next → AtMostOne (ShapeChecked t Next)
  unfolding ShapeChecked
  shape_checked_one next =
      rule_one (λ i. whole_none) (λ i j. whole_one)
      (rule_one (λ i. lowest_none) (λ i j. lowest_one)
      (rule_one (λ i. lowest_none) (λ i j. lowest_one)
      (rule_one (λ i. lowest_none) (λ i j. lowest_one) next)))

pub shape_judged : (t : Tree) → RightShape t → ShapeJudged t all_right
shape_judged t right = shape_passes t (λ v. v ≡ all_right) all_right right refl

pub judged_shape : (t : Tree) → ShapeJudged t all_right → RightShape t
judged_shape t judged = (shape_passed t (λ v. v ≡ all_right) judged).0

-- ---- the whole
module _ (t : Tree) (Next : Verdict → Type 0) where
  pub refused-10 : RightShape t → (CurvesFit (curves_of t) → ⊥) → Checked t Next (refused CurvesDontFit 0)
  refused-10 shape unfit =
      shape_passes t (FitChecked t Next) (refused CurvesDontFit 0) shape (broken refl (record { zero = refl; fault = unfit }))

  -- a right tree passes the checks, and what comes after them decides
  pub passes : (v : Verdict) → RightTree t → Next v → Checked t Next v
  passes v right next = shape_passes t (FitChecked t Next) v right.shape (kept right.fit next)

  fit_passed : FitChecked t Next all_right → CurvesFit (curves_of t) × Next all_right
  fit_passed (kept fit next) = (fit, next)

  -- a verdict that no refusal gives is that of what comes after the checks, and the tree is right
  pub passed : Checked t Next all_right → RightTree t × Next all_right
  passed checked =
      let (shape, rest) = shape_passed t (FitChecked t Next) checked in
      let (fit, next) = fit_passed rest in
      (record { shape = shape; fit = fit }, next)

  -- one verdict at most
  pub checked_one : AtMostOne Next → AtMostOne (Checked t Next)
  checked_one next = shape_checked_one t (FitChecked t Next) (rule_one (λ i. whole_none) (λ i j. whole_one) next)

pub right_judged : (t : Tree) → RightTree t → Judged t all_right
right_judged t right = passes t (λ v. v ≡ all_right) all_right right refl

pub judged_right : (t : Tree) → Judged t all_right → RightTree t
judged_right t judged = (passed t (λ v. v ≡ all_right) judged).0
