-- `print::put::Printer::fault` meets its contract, by cases: the words say what is wrong.
-- Assumes nothing.
use Rattle.print.specs.Lines.{further}
use Rattle.print.proofs.Stores.{then}
use Rattle.print.proofs.put.Printer.fault.Goals as goal

pub returns-in-NextClass : goal.returns-in-NextClass
unfolding further
returns-in-NextClass c = rw c.in-NextClass.is (then c.named.ensures.prints c.text-in-NextClass.ensures)
