-- `curve::Kept::eligible` meets its contract: the curve without its delay rises too.
-- Assumes nothing.
use Rattle.curve.proofs.Laws.Pieces.{early_rising}
use Rattle.curve.proofs.Kept.eligible.Goals as goal

pub deadline-requires : goal.deadline-requires
deadline-requires c = (rw c.undelayed.ensures (early_rising _ c.requires.0), c.requires.1, c.requires.2, c.requires.3)
