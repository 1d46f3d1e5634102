use Rattle.state.specs.State.{Reached}
use Rattle.bench.proofs.drive.Drive.stock.Given as goal

abbrev pub invariant-loop-leaf : goal.invariant-loop-leaf
invariant-loop-leaf l = Reached l.self.words l.self.lengths
