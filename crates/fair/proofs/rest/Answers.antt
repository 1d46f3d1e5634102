-- `fair::rest` meets its contract: the leaf turns passive, and then what is above it.
-- Assumes nothing.
use native.Mathlib.Omega.{arith}
use Rattle.fair.proofs.RestingSteps.{resting_narrow, rest_begun, rest_done}
use Rattle.fair.proofs.rest.Goals as goal

pub put-requires : goal.put-requires
put-requires c = (resting_narrow c.requires.holds, omega arith)

pub turn_passive-requires : goal.turn_passive-requires
turn_passive-requires c =
    record {
      tree = c.requires.tree;
      calls = c.requires.calls;
      holds = record { it = c.args.leaf; holds = rest_begun c.requires.holds c.put.ensures };
    }

pub returns : goal.returns
returns c = λ tree cs b. rest_done b c.put.ensures (λ begun. c.turn_passive.ensures tree cs c.args.leaf begun)
