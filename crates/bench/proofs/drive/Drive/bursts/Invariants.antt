use Rattle.state.specs.State.{Reached}
use Rattle.bench.proofs.drive.Drive.bursts.Given as goal

abbrev pub invariant-loop : goal.invariant-loop
invariant-loop l = Reached l.self.words l.self.lengths
