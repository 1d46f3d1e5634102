-- `print::put::Printer::times` meets its contract, by cases: the words are the times'.
-- Assumes nothing.
use Rattle.print.specs.Lines.{further}
use Rattle.print.proofs.Stores.{then}
use Rattle.print.proofs.put.Printer.times.Goals as goal

pub returns-in-Some-clause-prints : goal.returns-in-Some-clause-prints
unfolding further
returns-in-Some-clause-prints c = rw c.in-Some.is (then c.named.ensures.prints c.last.ensures.prints)
