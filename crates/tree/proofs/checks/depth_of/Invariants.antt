use Prim.Native.Nat.{◌+◌, ◌≤◌}
use mathlib.Core.Path.{◌≡◌}
use Rattle.tree.specs.Trees.{depth}
use Rattle.tree.proofs.checks.depth_of.Given as goal

abbrev pub invariant-loop-here : goal.invariant-loop-here
invariant-loop-here l = (l.steps + l.here ≤ l.class) × (l.steps + depth l.tree l.here ≡ depth l.tree l.class)

abbrev pub decreases-loop-here : goal.decreases-loop-here
decreases-loop-here l = l.here
