-- `print::put::Printer::named` meets its contract: the word, and then the number.
-- Assumes nothing.
use Rattle.print.proofs.Stores.{then}
use Rattle.print.proofs.put.Printer.named.Goals as goal

pub returns-clause-prints : goal.returns-clause-prints
returns-clause-prints c = then c.text.ensures c.number.ensures.prints
