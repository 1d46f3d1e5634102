-- `curve::pieces::lower` meets its contract: the new piece's line is lower where the old one has had the ticks to rise as far as the new one starts higher.
-- Assumes nothing.
use native.Mathlib.Nat.{lt_of_not-le}
use Rattle.curve.proofs.Laws.Answers.{told_yes, told_no}
use Rattle.curve.proofs.Laws.Pieces.{lower_new, lower_old}
use Rattle.curve.proofs.pieces.lower.Goals as goal

pub returns-then-has_risen : goal.returns-then-has_risen
returns-then-has_risen c =
    lower_new _ _ _ (rw (c.saturating_sub-rise.ensures, c.saturating_sub.ensures) at (told_yes _ c.has_risen.ensures c.if-has_risen.true))

pub returns-else-has_risen : goal.returns-else-has_risen
returns-else-has_risen c =
    lower_old _ _ _ (rw (c.saturating_sub-rise.ensures, c.saturating_sub.ensures) at (lt_of_not-le (told_no _ c.has_risen.ensures c.if-has_risen.false)))
