-- `worked::curves::on_front_loaded` asks of a curve within the limits. Assumes nothing.
use Rattle.std.proofs.Common.{arith}
use Rattle.curve.proofs.Laws.Limits.{front_rising}
use Rattle.worked.proofs.curves.on_front_loaded.Goals as goal

pub arrival-requires : goal.arrival-requires
arrival-requires c = (front_rising _ _ _ c.requires.0, c.requires.1, omega arith)
