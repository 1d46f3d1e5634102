use Prim.Native.Nat.{ℕ, ◌-◌}
use Rattle.curve.specs.Fit.{WorksOut}
use Rattle.curve.specs.declared.Curve.{Curve}
use Rattle.curve.proofs.Laws.Sum.{Walk}
use Rattle.curve.proofs.fit.sum_fits.Given as goal

abbrev pub invariant-loop-curve : goal.invariant-loop-curve
invariant-loop-curve g l = (f : Curve → ℕ) → WorksOut (goal.F-post g l.number) f → Walk f l.curves l.most l.left l.curve-index

abbrev pub decreases-loop-curve : goal.decreases-loop-curve
decreases-loop-curve g l = 64 - l.curve-index
