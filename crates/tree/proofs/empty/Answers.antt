-- `tree::empty` meets its contract: the array repeats what `no_class` gives.
-- Assumes nothing.
use mathlib.Core.Path.{ap}
use lib.ListN.{replicate}
use Rattle.tree.specs.Trees.{most_classes, empty_tree}
use Rattle.tree.specs.declared.Class.{Class}
use Rattle.tree.specs.declared.Tree.{Tree}
use Rattle.tree.proofs.empty.Goals as goal

holding : Class → Tree
holding c = record { count = 0; classes = replicate most_classes c }

pub returns : goal.returns
unfolding empty_tree holding
returns c = ap holding c.no_class.ensures
