-- `sched::readers::virtual_time` meets its contract: the virtual time is kept.
-- Assumes nothing.
use native.Mathlib.Omega.{arith}
use Rattle.sched.proofs.Asking.{no_virtual_there, asked_narrow}
use Rattle.sched.proofs.readers.virtual_time.Goals as goal

pub returns-then-header-class : goal.returns-then-header-class
returns-then-header-class c = λ h lawful shows. no_virtual_there lawful shows c.header.ensures c.args.class c.if-header-class.true

pub get-requires : goal.get-requires
get-requires c = (asked_narrow c.requires.lawful c.requires.shows c.header.ensures c.args.class c.if-header-class.false, omega arith)
