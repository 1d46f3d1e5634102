-- `print::put::Printer::pair` meets its contract: one number, and then the other as the last of a line.
-- Assumes nothing.
use Rattle.print.specs.Lines.{further}
use Rattle.print.proofs.Stores.{then}
use Rattle.print.proofs.put.Printer.pair.Goals as goal

pub returns-clause-prints : goal.returns-clause-prints
unfolding further
returns-clause-prints c = then c.number.ensures.prints c.last.ensures.prints
