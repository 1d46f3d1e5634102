-- `print::put::Printer::leaves` meets its contract: the numbers of the packet, its rule, and then its times.
-- Assumes nothing.
use Rattle.print.specs.Lines.{further, line_of}
use Rattle.print.proofs.Stores.{then}
use Rattle.print.proofs.put.Printer.leaves.Goals as goal

pub returns : goal.returns
unfolding further line_of
returns c = then c.named.ensures.prints (then c.named-2.ensures.prints (then c.named-3.ensures.prints (then c.rule.ensures.prints c.times.ensures.prints)))
