-- `curve::fit::sum_fits` meets its contract. Its invariant: what is left and the numbers of the curves passed make up the number that is allowed.
-- Assumes nothing.
use native.Mathlib.Omega.{arith}
use Rattle.curve.proofs.Laws.Sum.{walk_start, walk_on, walk_short}
use Rattle.curve.proofs.fit.sum_fits.Goals as goal

pub loop-curve-init : goal.loop-curve-init
loop-curve-init g c = λ f w. walk_start f c.args.curves.now c.args.most

pub returns-in_default : goal.returns-in_default
returns-in_default g c =
    λ f w.
    let number = w _ _ c.number.ensures in
    walk_short f _ _ (c.loop-curve.invariant f w) (omega arith) (omega (arith, number))

pub loop-curve-preserved : goal.loop-curve-preserved
loop-curve-preserved g c =
    λ f w.
    let number = w _ _ c.number.ensures in
    walk_on f _ _ (c.loop-curve.invariant f w) (omega arith) (omega (arith, number))
