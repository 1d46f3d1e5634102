use Rattle.std.specs.Prelude.{ℕ, ◌<◌, true, ◌-◌}
use Rattle.tree.proofs.checks.lowest_fault.Given as goal

abbrev pub invariant-loop-i : goal.invariant-loop-i
invariant-loop-i g l = (k : ℕ) → k < l.i → g.F.Fn.post l.is_right (k, tt) true

abbrev pub decreases-loop-i : goal.decreases-loop-i
decreases-loop-i g l = l.count - l.i
