-- Every turn leaves a reached state.
use Rattle.state.specs.State.{Reached}
use Rattle.judging.proofs.turns.turns.Given as goal

abbrev pub invariant-turns : goal.invariant-turns
invariant-turns g l = Reached l.words l.lengths
