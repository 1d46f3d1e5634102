-- `sched::readers::head_times` meets its contract: the times are kept, and an eligible time is earlier than never.
-- Assumes nothing.
use native.Mathlib.Omega.{arith}
use Rattle.sched.proofs.Asking.{no_times_there, asked_narrow, untimed_shown}
use Rattle.sched.proofs.readers.head_times.Goals as goal

pub returns-then-header-class : goal.returns-then-header-class
returns-then-header-class c = λ h lawful shows. no_times_there lawful shows c.header.ensures c.args.class c.if-header-class.true

pub get-eligible-requires : goal.get-eligible-requires
get-eligible-requires c = (asked_narrow c.requires.lawful c.requires.shows c.header.ensures c.args.class c.if-header-class.false, omega arith)

pub returns-then-eligible : goal.returns-then-eligible
returns-then-eligible c = λ h lawful shows.
    untimed_shown lawful shows c.header.ensures c.args.class c.if-header-class.false c.get-eligible.ensures c.if-eligible.true

pub get-requires : goal.get-requires
get-requires c = (asked_narrow c.requires.lawful c.requires.shows c.header.ensures c.args.class c.if-header-class.false, omega arith)
