-- Laws on checks in a row: what was kept where the verdict is right; and a tree that the checks refuse is refused whatever comes after them.
-- Assumes nothing.
use Prim.Native.Nat.{ℕ}
use mathlib.Core.Path.{◌≡◌}
use native.Mathlib.Omega.{arith}
use Rattle.tree.specs.declared.Tree.{Tree}
use Rattle.tree.specs.declared.Refusal.{Refusal}
use Rattle.tree.specs.Verdicts.{Verdict, all_right, refused}
use Rattle.tree.specs.Rules.{Checking, ShapeChecked, Checked, Judged}
use Rattle.tree.specs.Rules.Checking.{kept}
use Rattle.file.proofs.ReadLaws.Judging.{rule_next}

pub was_kept : {number : ℕ} {Kept : Type 0} {BrokenAt : ℕ → Type 0} {Next : Verdict → Type 0} → Checking number Kept BrokenAt Next all_right → Kept × Next all_right
was_kept (kept k n) = (k, n)

pub refused_on : (tree : Tree) (Next : Verdict → Type 0) (why : Refusal) (i : ℕ) → Judged tree (refused why i) → Checked tree Next (refused why i)
unfolding ShapeChecked
refused_on tree Next why i = rule_next (rule_next (rule_next (rule_next (rule_next λ right. absurd (let z : ◌≡◌ {A = ℕ} 0 1 = cc in omega arith)))))
