-- `printlog::numbers` meets its contract: the numbers one by one, the last as the last of the line.
-- Assumes nothing.
use Rattle.print.specs.Lines.{further}
use Rattle.printlog.specs.Lines.{log_line_of}
use Rattle.print.proofs.Stores.{then}
use Rattle.printlog.proofs.numbers.Goals as goal

pub returns : goal.returns
unfolding further log_line_of
returns c = then c.spelled.ensures.prints (then c.number.ensures.prints (then c.number-2.ensures.prints c.last.ensures.prints))
