-- `sched::begin` meets its contract: the leaf's times, and then what turns active.
-- Assumes nothing.
use Rattle.sched.proofs.ArrivingTimes.{begin_waking, begin_done}
use Rattle.sched.proofs.begin.Goals as goal

pub wake-requires : goal.wake-requires
wake-requires c =
    let timed = c in
    let pre = timed.requires in
    record { tree = pre.tree; calls = pre.calls; holds = begin_waking pre.holds (timed.time_first.ensures pre.tree pre.calls pre.holds.timing) }

pub returns : goal.returns
returns c = λ tree cs b.
    let timing = c.time_first.ensures tree cs b.timing in
    begin_done b timing (c.wake.ensures tree cs (begin_waking b timing))
