-- The end was told, so there is an answer; the numbers are those of what the file reads as, and the state is the one that its tree starts. Assumes nothing.
use Rattle.host.proofs.Starting.{file_told}
use Rattle.host.proofs.Bursts.{end_answered, start_told}
use Rattle.host.proofs.coming.hfsc_start_bursts.Goals as goal

pub unwrap-reading-requires : goal.unwrap-reading-requires
unwrap-reading-requires c = end_answered _ _ _ c.told-kept c.end.ensures.ends

pub returns-clause-right : goal.returns-clause-right
returns-clause-right c =
    let t = c.tell.ensures in
    start_told _ _ _ _ _ _ _ _ c.end.result c.unwrap-reading.result c.end.ensures c.unwrap-reading.ensures t.number t.class
    (λ file reads. file_told c.unwrap-reading.result reads t.number t.class c.empty.ensures c.unwrap_or.ensures c.start.ensures.right)
