use Prim.Native.Nat.{◌-◌, ◌%◌}
use Rattle.tree.specs.declared.Tree.{Tree}
use Rattle.fair.specs.StepsWaking.{Family}
use Rattle.fair.proofs.WakingChildren.{Gathered}
use Rattle.state.specs.Table.{CLASSES}
use Rattle.fair.proofs.spread_of.Given as goal

abbrev pub invariant-loop-child : goal.invariant-loop-child
invariant-loop-child l = (tree : Tree) → Family l.words tree l.parent → Gathered l.words tree l.parent l.class l.spread l.child

abbrev pub decreases-loop-child : goal.decreases-loop-child
decreases-loop-child l = (CLASSES - l.child) % CLASSES
