-- Every turn leaves a reached state, and it counts at most one acceptance.
use Rattle.std.proofs.Common.{◌≤◌}
use Rattle.state.specs.State.{Reached}
use Rattle.worked.proofs.refusals.fill.Given as goal

abbrev pub invariant-loop-i : goal.invariant-loop-i
invariant-loop-i g l = record { reached : Reached l.scheduler.words l.scheduler.lengths; counted : l.accepted ≤ l.i }
