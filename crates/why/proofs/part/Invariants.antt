use Prim.Native.Nat.{◌+◌}
use mathlib.Core.List.{List}
use Rattle.tree.specs.declared.Tree.{Tree}
use Rattle.rules.specs.Calls.{Call}
use Rattle.why.specs.Steps.{Apart}
use Rattle.why.proofs.Ways.{Going}
use Rattle.why.proofs.part.Given as goal

abbrev pub invariant-loop-class : goal.invariant-loop-class
invariant-loop-class l = (tree : Tree) (cs : List Call) (a : Apart l.words tree cs l.leaf l.chosen) → Going tree a.told.grown l.leaf l.chosen l.class l.other l.child

abbrev pub decreases-loop-class : goal.decreases-loop-class
decreases-loop-class l = l.class + l.other
