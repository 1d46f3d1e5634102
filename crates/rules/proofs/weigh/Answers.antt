-- `rules::weigh` meets its contract: a packet counts for its length and its framing.
-- Assumes nothing.
use Rattle.std.proofs.Common.{refl}
use Rattle.rules.specs.Limits.{weigh}
use Rattle.rules.proofs.weigh.Goals as goal

pub returns : goal.returns
unfolding weigh
returns c = refl
