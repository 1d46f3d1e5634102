-- `print::put::Printer::class_of` meets its contract: the numbers of the class, and then its curve.
-- Assumes nothing.
use Rattle.print.specs.Lines.{further, line_of}
use Rattle.print.proofs.Stores.{then}
use Rattle.print.proofs.put.Printer.class_of.Goals as goal

pub returns-clause-prints : goal.returns-clause-prints
unfolding further line_of
returns-clause-prints c = then c.named.ensures.prints (then c.named-2.ensures.prints (then c.named-3.ensures.prints c.curve.ensures.prints))
