-- The rows of document 01's table that are marked P: a situation's row is told by a test that is computed; trees of two leaves are right or not.
-- Assumes nothing.
use Rattle.std.proofs.Common.{◌≡◌, ℕ, zero, suc, ◌<◌, ◌≤◌, Bool, true, false, ◌&&◌, eqb, List, [], ◌∷◌, refl, arith, lit≤, eqb-true}
use Rattle.curve.specs.Curves.{amount, RightRate, RightCurve}
use Rattle.curve.specs.Fit.{sum_of, CurvesFit}
use Rattle.curve.specs.declared.Curve.{Curve}
use Rattle.curve.specs.declared.Curve.TheVariants.{None}
use Rattle.curve.proofs.Laws.Limits.{front_right, delayed_right}
use Rattle.curve.proofs.Laws.Fit.{fit_each, fit_at}
use Rattle.tree.specs.Trees.{class_at, is_child, child_below, has_child, steps_up, depth, curve_below, curves_from, curves_of, curve_of}
use Rattle.tree.specs.Rules.{RightShape, RightTree, RightClass}
use Rattle.tree.specs.declared.Refusal.TheVariants.{CurvesDontFit}
use Rattle.tree.specs.Verdicts.{all_right}
use Rattle.tree.proofs.Verdicts.{right_judged, refused-10}
use Rattle.rules.specs.Calls.{Call, left}
use Rattle.rules.specs.Leaves.{pieces, sent_real_time}
use Rattle.rules.specs.Fair.{virtual_time_of}
use Rattle.rules.specs.Lawful.{LawfulCalls, Grown, right}
use Rattle.rules.specs.Rows.{two_leaves, tree_a, Result, eligible, deadline, virtual, leaves, ResultHolds, EveryResult, Row, situation, curves, RowHolds, fit, refusal}
use Rattle.rules.proofs.Tests.{never, and_left, and_right}
use Rattle.rules.proofs.Link.Told.{ripe, head_due, least_at, eligible_told, deadline_told, finds, finds_told, lawful, lawful_told}

-- A tree of two leaves is right where their shares and curves are, and the curves fit.

module _ (s₁ : ℕ) (S₁ : Curve) (s₂ : ℕ) (S₂ : Curve) where
  module _ (share₁ : RightRate s₁) (curve₁ : RightCurve S₁) (share₂ : RightRate s₂) (curve₂ : RightCurve S₂) where
    bodies : (i : ℕ) → i < 3 → RightClass (class_at (two_leaves s₁ S₁ s₂ S₂) i) i
    unfolding RightClass class_at
    bodies zero h = record { parent = refl; share = refl; curve = refl }
    bodies (suc zero) h = record { parent = omega arith; share = share₁; curve = curve₁ }
    bodies (suc (suc zero)) h = record { parent = omega arith; share = share₂; curve = curve₂ }
    bodies (suc (suc (suc i))) h = absurd (omega arith)

  depths : (i : ℕ) → i < 3 → depth (two_leaves s₁ S₁ s₂ S₂) i ≤ 8
  unfolding depth steps_up class_at
  depths zero h = lit≤ tt
  depths (suc zero) h = lit≤ tt
  depths (suc (suc zero)) h = lit≤ tt
  depths (suc (suc (suc i))) h = absurd (omega arith)

  places : (i : ℕ) → i < 3 → has_child (two_leaves s₁ S₁ s₂ S₂) i ≡ true → curve_of (two_leaves s₁ S₁ s₂ S₂) i ≡ None
  unfolding has_child child_below is_child class_at
  places zero h e = refl
  places (suc zero) h e = never e refl
  places (suc (suc zero)) h e = never e refl
  places (suc (suc (suc i))) h e = absurd (omega arith)

  -- the sum of a tree's curves is that of its two leaves'
  fit_of : CurvesFit (S₁ ∷ S₂ ∷ []) → CurvesFit (curves_of (two_leaves s₁ S₁ s₂ S₂))
  unfolding sum_of curves_of curves_from curve_below class_at amount
  fit_of h = fit_each (curves_of (two_leaves s₁ S₁ s₂ S₂)) (λ t. omega (arith, fit_at (S₁ ∷ S₂ ∷ []) h t))

  of_fit : CurvesFit (curves_of (two_leaves s₁ S₁ s₂ S₂)) → CurvesFit (S₁ ∷ S₂ ∷ [])
  unfolding sum_of curves_of curves_from curve_below class_at amount
  of_fit h = fit_each (S₁ ∷ S₂ ∷ []) (λ t. omega (arith, fit_at (curves_of (two_leaves s₁ S₁ s₂ S₂)) h t))

  two_shape : RightRate s₁ → RightCurve S₁ → RightRate s₂ → RightCurve S₂ → RightShape (two_leaves s₁ S₁ s₂ S₂)
  two_shape share₁ curve₁ share₂ curve₂ =
      record { count = omega arith; bodies = bodies share₁ curve₁ share₂ curve₂; depths = depths; places = places }

  pub two_right : RightRate s₁ → RightCurve S₁ → RightRate s₂ → RightCurve S₂ → CurvesFit (S₁ ∷ S₂ ∷ []) → RightTree (two_leaves s₁ S₁ s₂ S₂)
  two_right share₁ curve₁ share₂ curve₂ h = record { shape = two_shape share₁ curve₁ share₂ curve₂; fit = fit_of h }

-- the rows of curves
module _ (S₁ S₂ : Curve) (curve₁ : RightCurve S₁) (curve₂ : RightCurve S₂) where
  pub they_fit : CurvesFit (S₁ ∷ S₂ ∷ []) → RowHolds (curves S₁ S₂ fit)
  they_fit h = (h, right_judged (two_leaves 32768 S₁ 32768 S₂) (two_right 32768 S₁ 32768 S₂ (omega arith) curve₁ (omega arith) curve₂ h))

  pub they_dont : (CurvesFit (S₁ ∷ S₂ ∷ []) → ⊥) → RowHolds (curves S₁ S₂ (refusal 10))
  they_dont h = (
    h,
    (
      CurvesDontFit,
      refl,
      refused-10 (two_leaves 32768 S₁ 32768 S₂) (λ v. v ≡ all_right) (two_shape 32768 S₁ 32768 S₂ (omega arith) curve₁ (omega arith) curve₂)
          (λ f. h (of_fit 32768 S₁ 32768 S₂ f)),
    ),
  )

pub right_A : RightTree tree_a
unfolding sum_of amount
right_A =
    two_right _ _ _ _ (omega arith)
    (front_right _ _ _ (record { first = omega arith; bend = omega arith; last = omega arith; falls = omega arith })) (omega arith)
    (delayed_right _ _ (record { bend = omega arith; rate = omega arith })) (fit_each _ (λ t. omega arith))

pub grown_A : Grown tree_a
grown_A = right right_A

-- The rows of situations, with the deadlines of the packets that left by the real-time rule, the newest first, and that of the packet that leaves next.

abbrev result_test : (next : ℕ) → List Call → Result → Bool
result_test next cs (eligible leaf tick) = least_at (ripe (curve_of tree_a leaf) (pieces cs leaf) (sent_real_time cs leaf)) tick
result_test next cs (deadline leaf tick) = least_at (head_due tree_a cs leaf) tick
result_test next cs (virtual class v) = eqb (virtual_time_of tree_a cs class) v
result_test next cs (leaves tick leaf rule) = finds tree_a next cs (left tick leaf rule)

result_told : (next : ℕ) (cs : List Call) → LawfulCalls tree_a cs → (r : Result) → result_test next cs r ≡ true → ResultHolds cs r
result_told next cs law (eligible leaf tick) e = eligible_told (curve_of tree_a leaf) (pieces cs leaf) (sent_real_time cs leaf) tick e
result_told next cs law (deadline leaf tick) e = deadline_told (curve_of tree_a leaf) (pieces cs leaf) _ tick e
result_told next cs law (virtual class v) e = eqb-true (virtual_time_of tree_a cs class) v e
result_told next cs law (leaves tick leaf rule) e = finds_told tree_a grown_A next cs law (left tick leaf rule) e

abbrev results_test : (next : ℕ) → List Call → List Result → Bool
results_test next cs [] = true
results_test next cs (r ∷ rs) = result_test next cs r && results_test next cs rs

results_told : (next : ℕ) (cs : List Call) → LawfulCalls tree_a cs → (rs : List Result) → results_test next cs rs ≡ true → EveryResult cs rs
results_told next cs law [] e = tt
results_told next cs law (r ∷ rs) e =
    (result_told next cs law r (and_left (result_test next cs r) _ e), results_told next cs law rs (and_right (result_test next cs r) _ e))

abbrev pub row_test : (next : ℕ) (past : List ℕ) → Row → Bool
row_test next past (situation cs rs) = lawful tree_a past cs && results_test next cs rs
row_test next past (curves S₁ S₂ answer) = false

pub row_told : (next : ℕ) (past : List ℕ) (row : Row) → row_test next past row ≡ true → RowHolds row
row_told next past (situation cs rs) e =
    let law = lawful_told tree_a grown_A past cs (and_left (lawful tree_a past cs) _ e) in
    (record { grown = grown_A; stamp = omega arith; lawful = law }, results_told next cs law rs (and_right (lawful tree_a past cs) _ e))
row_told next past (curves S₁ S₂ answer) e = never e refl
