-- `printlog::numbered` meets its contract: the word and the number, and then the colon.
-- Assumes nothing.
use Rattle.print.proofs.Stores.{then}
use Rattle.printlog.proofs.numbered.Goals as goal

pub returns-clause-prints : goal.returns-clause-prints
returns-clause-prints c = then c.named.ensures.prints c.text.ensures
