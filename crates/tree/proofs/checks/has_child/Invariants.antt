use Rattle.std.specs.Prelude.{ℕ, ◌<◌, ◌≡◌, false, ◌-◌}
use Rattle.tree.specs.Trees.{is_child}
use Rattle.tree.proofs.checks.has_child.Given as goal

abbrev pub invariant-loop-i : goal.invariant-loop-i
invariant-loop-i l = (k : ℕ) → k < l.i → is_child l.tree l.class k ≡ false

abbrev pub decreases-loop-i : goal.decreases-loop-i
decreases-loop-i l = l.tree.count - l.i
