-- `tree::shape` meets its contract: each step goes on only where its rule is kept, and the verdict is that of the first rule broken.
-- Assumes nothing.
use mathlib.Core.Logic.{⊎_elim}
use mathlib.Core.Path.{◌≡◌}
use native.Mathlib.Omega.{arith}
use Rattle.tree.specs.Verdicts.{Verdict, all_right}
use Rattle.tree.proofs.Verdicts.{refused-4, refused-7, refused-8, refused-9, shape_judged}
use Rattle.tree.proofs.shape.Goals as goal

abbrev Last : Verdict → Type 0
Last v = v ≡ all_right

pub returns-then-tree-lt2 : goal.returns-then-tree-lt2
returns-then-tree-lt2 c = rw c.refused.ensures (refused-4 _ Last (λ good. ⊎_elim (λ few. omega arith) (λ many. omega (arith, many.1)) c.then-tree-lt2.either))

pub returns-in-Some : goal.returns-in-Some
returns-in-Some c =
    rw c.refused-in-Some.ensures
    (refused-7 _ Last (omega arith) c.in-Some.ensures)

pub returns-in-Some-too_deep : goal.returns-in-Some-too_deep
returns-in-Some-too_deep c =
    rw c.refused-in-Some-too_deep.ensures
    (refused-8 _ Last (omega arith) c.in_default.ensures c.in-Some-too_deep.ensures)

pub returns-in-Some-curve_above_children : goal.returns-in-Some-curve_above_children
returns-in-Some-curve_above_children c =
    rw c.refused-in-Some-curve_above_children.ensures
    (refused-9 _ Last (omega arith) c.in_default.ensures c.in_default-too_deep.ensures c.in-Some-curve_above_children.ensures)

pub returns : goal.returns
returns c =
    shape_judged _
    (record {
      count = omega arith;
      bodies = c.in_default.ensures;
      depths = c.in_default-too_deep.ensures;
      places = c.in_default-curve_above_children.ensures;
    })
