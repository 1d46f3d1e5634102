-- `fair::wake` meets its contract: the leaf turns active first, and then what is above it.
-- Assumes nothing.
use native.Mathlib.Omega.{arith}
use Rattle.fair.proofs.WakingTurn.{wake_narrow, wake_turn, wake_done}
use Rattle.fair.proofs.wake.Goals as goal

pub put-requires : goal.put-requires
put-requires c = (wake_narrow c.requires.holds, omega arith)

pub turn_active-requires : goal.turn_active-requires
turn_active-requires c =
    record {
      tree = c.requires.tree;
      calls = c.requires.calls;
      holds = record { it = c.args.leaf; holds = wake_turn c.requires.holds _ c.put.ensures };
    }

pub returns : goal.returns
returns c = λ tree cs b.
    wake_done b _ c.put.ensures (c.turn_active.ensures tree cs c.args.leaf (wake_turn b _ c.put.ensures))
