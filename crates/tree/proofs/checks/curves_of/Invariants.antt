use Prim.Native.Nat.{ℕ, ◌≤◌, ◌<◌, ◌-◌}
use mathlib.Core.Path.{◌≡◌}
use lib.ListN.{length, get_or}
use Rattle.curve.specs.declared.Curve.TheVariants.{None}
use Rattle.tree.specs.Trees.{most_classes, curve_below}
use Rattle.tree.proofs.checks.curves_of.Given as goal

abbrev pub invariant-loop-i : goal.invariant-loop-i
invariant-loop-i l = (l.i ≤ most_classes) × (length l.curves ≡ most_classes) × ((k : ℕ) → k < l.i → get_or l.curves k None ≡ curve_below l.tree k)

abbrev pub decreases-loop-i : goal.decreases-loop-i
decreases-loop-i l = most_classes - l.i
