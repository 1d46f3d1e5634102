-- Every turn leaves a reached state.
use Rattle.state.specs.State.{Reached}
use Rattle.replay.proofs.turns.replay.Given as goal

abbrev pub invariant-turns : goal.invariant-turns
invariant-turns g l = Reached l.words l.lengths
