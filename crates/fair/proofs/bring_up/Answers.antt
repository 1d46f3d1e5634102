-- `fair::bring_up` meets its contract: it stores the tick at which the kept fair piece reaches the bytes sent.
-- Assumes nothing.
use Rattle.curve.proofs.Laws.Limits.{straight_rising}
use borrow.Author.Rules.{rules}
use Rattle.fair.proofs.bring_up.Goals as goal

pub arrival-time-requires : goal.arrival-time-requires
arrival-time-requires c = (
  rw c.share_of-rate.ensures (straight_rising _ c.requires.share),
  search rules,
  rw c.fair_piece-piece.ensures c.requires.start,
)
