-- `printwhy::why` meets its contract, by cases: the words are the reason's.
-- Assumes nothing.
use Rattle.print.specs.Lines.{further}
use Rattle.print.proofs.Stores.{then}
use Rattle.printwhy.proofs.why.Goals as goal

pub returns-in-NoCurve-clause-prints : goal.returns-in-NoCurve-clause-prints
unfolding further
returns-in-NoCurve-clause-prints c = rw c.in-NoCurve.is c.text-in-NoCurve.ensures

pub returns-in-LaterDeadline-clause-prints : goal.returns-in-LaterDeadline-clause-prints
unfolding further
returns-in-LaterDeadline-clause-prints c = rw c.in-LaterDeadline.is (then c.named.ensures.prints c.text-in-LaterDeadline.ensures)

pub returns-in-HigherNumber-clause-prints : goal.returns-in-HigherNumber-clause-prints
unfolding further
returns-in-HigherNumber-clause-prints c = rw c.in-HigherNumber.is (then c.named-in-HigherNumber.ensures.prints c.text-in-HigherNumber.ensures)
