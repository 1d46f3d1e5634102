-- `print::put::Printer::curve` meets its contract, by cases: the words are the curve's.
-- Assumes nothing.
use Rattle.print.specs.Lines.{further}
use Rattle.print.proofs.Stores.{then}
use Rattle.print.proofs.put.Printer.curve.Goals as goal

pub returns-in-FrontLoaded-clause-prints : goal.returns-in-FrontLoaded-clause-prints
unfolding further
returns-in-FrontLoaded-clause-prints c = rw c.in-FrontLoaded.is (then c.named.ensures.prints c.pair.ensures.prints)

pub returns-in-Delayed-clause-prints : goal.returns-in-Delayed-clause-prints
unfolding further
returns-in-Delayed-clause-prints c = rw c.in-Delayed.is (then c.text-in-Delayed.ensures c.pair-in-Delayed.ensures.prints)
