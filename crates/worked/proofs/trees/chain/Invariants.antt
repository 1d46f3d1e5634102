-- `i` goes from 1 up to the count.
use Rattle.std.proofs.Common.{◌≤◌}
use Rattle.worked.proofs.trees.chain.Given as goal

abbrev pub invariant-loop-i : goal.invariant-loop-i
invariant-loop-i l = 1 ≤ l.i
