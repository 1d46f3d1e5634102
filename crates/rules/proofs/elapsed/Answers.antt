-- `rules::elapsed` meets its contract: of the numbers below 2^32 only one, added to the last stamp, wraps back to the stamp.
-- Assumes nothing.
use Rattle.std.proofs.Common.{arith}
use Rattle.rules.specs.Clock.{elapsed_ticks}
use Rattle.rules.proofs.elapsed.Goals as goal

pub returns : goal.returns
unfolding elapsed_ticks
returns c = omega arith
