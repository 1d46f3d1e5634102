-- The numbers are those of what the file reads as; the state is the one that its tree starts. Assumes nothing.
use Rattle.host.proofs.Starting.{file_told}
use Rattle.host.proofs.hfsc_start_file.Goals as goal

pub returns-clause-right : goal.returns-clause-right
returns-clause-right c =
    let t = c.tell.ensures in
    file_told c.read-reading.result c.read-reading.ensures t.number t.class c.empty.ensures c.unwrap_or.ensures c.start.ensures.right
