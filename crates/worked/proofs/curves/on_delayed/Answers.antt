-- `worked::curves::on_delayed` asks of a curve within the limits. Assumes nothing.
use Rattle.std.proofs.Common.{arith}
use Rattle.curve.proofs.Laws.Limits.{delayed_rising}
use Rattle.worked.proofs.curves.on_delayed.Goals as goal

pub arrival-requires : goal.arrival-requires
arrival-requires c = (delayed_rising _ _ c.requires.0, c.requires.1, omega arith)
