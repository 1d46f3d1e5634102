-- `sched::readers::waiting` meets its contract: what came less what left.
-- Assumes nothing.
use native.Mathlib.Omega.{arith}
use Rattle.sched.proofs.Asking.{none_waits_there, asked_narrow, left_below, waiting_shown}
use Rattle.sched.proofs.readers.waiting.Goals as goal

pub returns-then-header-class : goal.returns-then-header-class
returns-then-header-class c = λ h lawful shows. none_waits_there lawful shows c.header.ensures c.args.class c.if-header-class.true

pub get-requires : goal.get-requires
get-requires c = (asked_narrow c.requires.lawful c.requires.shows c.header.ensures c.args.class c.if-header-class.false, omega arith)

pub get-requires-2 : goal.get-requires-2
get-requires-2 c = (asked_narrow c.requires.lawful c.requires.shows c.header.ensures c.args.class c.if-header-class.false, omega arith)

pub overflow_sub-result : goal.overflow_sub-result
overflow_sub-result c =
    left_below c.requires.lawful c.requires.shows c.header.ensures c.args.class c.if-header-class.false
    c.get.ensures c.get-2.ensures

pub returns : goal.returns
returns c = λ h lawful shows.
    waiting_shown lawful shows c.header.ensures c.args.class c.if-header-class.false
    c.get.ensures c.get-2.ensures
