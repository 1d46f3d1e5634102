-- `curve::amounts::has_risen` meets its contract: the upper half of the product is past the parts, or the whole fits in 64 bits.
-- Assumes nothing.
use mathlib.Core.Path.{sym}
use native.Mathlib.Omega.{arith}
use Rattle.curve.proofs.Laws.Answers.{leb_exactly, tells_yes}
use Rattle.curve.proofs.Laws.Amount.{line_halves}
use Rattle.curve.proofs.amounts.has_risen.Goals as goal

pub returns-then-high : goal.returns-then-high
returns-then-high c =
    let high = rw c.from-rate.ensures at c.if-high.true in
    tells_yes _ _ c.if-high.true (omega (arith, high, line_halves c.args.rate c.args.ticks))

pub returns-else-high : goal.returns-else-high
returns-else-high c = leb_exactly c.args.parts (rw c.from-rate.ensures (sym (line_halves c.args.rate c.args.ticks)))
