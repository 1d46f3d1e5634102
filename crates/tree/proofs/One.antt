-- Each public function's promise allows one result: two that it allows for the same input are equal.
-- Assumes nothing.
use Prim.Native.Nat.{ℕ}
use mathlib.Core.Path.{◌≡◌, sym, ◌∙◌}
use Rattle.tree.specs.Numbers.{number_of}
use Rattle.tree.specs.Rules.{ShapeJudged, Judged}
use Rattle.tree.specs.Trees.{class_at, empty_tree, no_class}
use Rattle.tree.specs.declared.Class.{Class}
use Rattle.tree.specs.declared.Refusal.{Refusal}
use Rattle.tree.specs.declared.Tree.{Tree}
use Rattle.tree.specs.Verdicts.{Verdict, all_right}
use Rattle.tree.proofs.Verdicts.{shape_checked_one, checked_one}

pub number_one : (refusal : Refusal) (r s : ℕ) → r ≡ number_of refusal → s ≡ number_of refusal → r ≡ s
number_one refusal r s p q = p ∙ sym q

pub no_class_one : (r s : Class) → r ≡ no_class → s ≡ no_class → r ≡ s
no_class_one r s p q = p ∙ sym q

pub empty_one : (r s : Tree) → r ≡ empty_tree → s ≡ empty_tree → r ≡ s
empty_one r s p q = p ∙ sym q

pub class_at_one : (t : Tree) (i : ℕ) (r s : Class) → r ≡ class_at t i → s ≡ class_at t i → r ≡ s
class_at_one t i r s p q = p ∙ sym q

pub shape_one : (t : Tree) (v w : Verdict) → ShapeJudged t v → ShapeJudged t w → v ≡ w
shape_one t = shape_checked_one t (λ v. v ≡ all_right) (λ v w p q. p ∙ sym q)

pub check_one : (t : Tree) (v w : Verdict) → Judged t v → Judged t w → v ≡ w
check_one t = checked_one t (λ v. v ≡ all_right) (λ v w p q. p ∙ sym q)
