-- `worked::curves::one_piece` asks of a curve within the limits. Assumes nothing.
use Rattle.std.proofs.Common.{arith}
use Rattle.curve.specs.Curves.{Rising}
use Rattle.curve.specs.declared.Curve.TheVariants.{Straight}
use Rattle.curve.proofs.Laws.Limits.{straight_rising}
use Rattle.worked.proofs.curves.one_piece.Goals as goal

rises : Rising (Straight 65536)
rises = straight_rising 65536 (record { above = omega arith; below = omega arith })

pub arrival-requires : goal.arrival-requires
arrival-requires g c = (rises, omega arith, omega arith)

pub deadline-requires : goal.deadline-requires
deadline-requires g c = (rises, omega arith, omega arith, omega arith)

pub eligible-requires : goal.eligible-requires
eligible-requires g c = (rises, omega arith, omega arith, omega arith)
