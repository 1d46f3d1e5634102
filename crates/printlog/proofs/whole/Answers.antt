-- `printlog::whole` meets its contract, by cases: each has its line.
-- Assumes nothing.
use Rattle.print.specs.Lines.{further, line_of}
use Rattle.printlog.specs.Lines.{log_line_of}
use Rattle.print.proofs.Stores.{then}
use Rattle.printlog.proofs.whole.Goals as goal

pub returns-in-Accepted : goal.returns-in-Accepted
unfolding further log_line_of
returns-in-Accepted c = rw c.in-Accepted.is (then c.named.ensures.prints c.text.ensures)

pub returns-in-Malformed : goal.returns-in-Malformed
unfolding further log_line_of
returns-in-Malformed c = rw c.in-Malformed.is (then c.numbered.ensures.prints c.text-in-Malformed.ensures)

pub returns-in-AnotherChoice : goal.returns-in-AnotherChoice
unfolding further log_line_of
returns-in-AnotherChoice c = rw c.in-AnotherChoice.is (then c.numbered-in-AnotherChoice.ensures.prints c.text-in-AnotherChoice.ensures)

pub returns-in-Ours : goal.returns-in-Ours
unfolding further line_of log_line_of
returns-in-Ours c = rw c.in-Ours.is (then c.text-in-Ours.ensures c.line.ensures)
