-- `worked::curves::on_straight` asks of a curve within the limits. Assumes nothing.
use Rattle.std.proofs.Common.{arith}
use Rattle.curve.proofs.Laws.Limits.{straight_rising}
use Rattle.worked.proofs.curves.on_straight.Goals as goal

pub arrival-requires : goal.arrival-requires
arrival-requires c = (straight_rising _ c.requires.0, c.requires.1, omega arith)
