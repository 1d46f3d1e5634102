-- `curve::Kept::deadline` meets its contract: both pieces stand so at the later of their ticks, and where they are one at its tick.
-- Assumes nothing.
use Rattle.curve.proofs.Laws.Pieces.{both_least}
use Rattle.curve.proofs.Kept.deadline.Goals as goal

pub returns : goal.returns
returns c = rw c.max.ensures (both_least _ _ _ c.arrival-steep.ensures c.arrival.ensures)
