-- `fair::raise` meets its contract: it starts at the leaf.
-- Assumes nothing.
use Rattle.fair.proofs.RestingLift.{raise_lifting, raised}
use Rattle.fair.proofs.raise.Goals as goal

pub raise_from-requires : goal.raise_from-requires
raise_from-requires c =
    record {
      tree = c.requires.tree;
      calls = c.requires.calls;
      holds = record { it = c.args.leaf; holds = raise_lifting c.requires.holds };
    }

pub returns : goal.returns
returns c = λ tree cs b. raised b (c.raise_from.ensures tree cs c.args.leaf (raise_lifting b))
