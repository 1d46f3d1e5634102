-- Every turn leaves a reached state, and it counts at most one answer.
use Rattle.std.proofs.Common.{◌≤◌}
use Rattle.state.specs.State.{Reached}
use Rattle.worked.proofs.stamps.wait.Given as goal

abbrev pub invariant-loop-turn : goal.invariant-loop-turn
invariant-loop-turn g l = record { reached : Reached l.scheduler.words l.scheduler.lengths; counted : l.idle ≤ l._turn }
