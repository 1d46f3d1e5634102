-- `curve::pieces::arrival` meets its contract: what the piece has still to rise is asked of the curve, from the piece's start on.
-- Assumes nothing.
use native.Mathlib.Omega.{arith}
use Rattle.curve.proofs.Laws.Pieces.{arrival_least, earliest_most}
use Rattle.curve.proofs.pieces.arrival.Goals as goal

pub overflow_add-result : goal.overflow_add-result
overflow_add-result c = omega (arith, earliest_most _ c.requires.0 c.earliest.ensures, c.saturating_sub.ensures)

pub returns : goal.returns
returns c = arrival_least _ _ _ (rw c.saturating_sub.ensures at c.earliest.ensures)
