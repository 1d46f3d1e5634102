-- `curve::Kept::with` meets its contract: each slope of a rising curve is a right rate.
-- Assumes nothing.
use Rattle.curve.specs.Keeping.{kept_with}
use Rattle.curve.proofs.Laws.Amount.{rising_slopes}
use Rattle.curve.proofs.Kept.with.Goals as goal

pub lower-requires : goal.lower-requires
lower-requires c = (rw c.first_slope.ensures (rising_slopes _ c.requires.0).0, c.requires.1)

pub lower-requires-2 : goal.lower-requires-2
lower-requires-2 c = (rw c.last_slope.ensures (rising_slopes _ c.requires.0).1, c.requires.1)

pub returns : goal.returns
unfolding kept_with
returns c = cc
