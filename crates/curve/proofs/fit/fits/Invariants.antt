use Prim.Native.Nat.{ℕ, ◌-◌, ◌≤◌, ◌<◌}
use lib.ListN.{get_or}
use Rattle.curve.specs.Curves.{in_parts, bend_of}
use Rattle.curve.specs.Fit.{total}
use Rattle.curve.specs.declared.Curve.TheVariants.{None}
use Rattle.curve.proofs.fit.fits.Given as goal

abbrev pub invariant-loop-curve : goal.invariant-loop-curve
invariant-loop-curve l =
    (i : ℕ) → i < l.curve-index → total l.fn.curves (bend_of (get_or l.fn.curves i None)) ≤ in_parts (bend_of (get_or l.fn.curves i None))

abbrev pub decreases-loop-curve : goal.decreases-loop-curve
decreases-loop-curve l = 64 - l.curve-index
