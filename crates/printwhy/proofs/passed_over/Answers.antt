-- `printwhy::passed_over` meets its contract: the class, the child, and then its virtual time as the last of the line.
-- Assumes nothing.
use Rattle.print.specs.Lines.{further}
use Rattle.print.proofs.Stores.{then}
use Rattle.printwhy.proofs.passed_over.Goals as goal

pub returns-clause-prints : goal.returns-clause-prints
unfolding further
returns-clause-prints c = then c.named.ensures.prints (then c.named-2.ensures.prints c.last.ensures.prints)
