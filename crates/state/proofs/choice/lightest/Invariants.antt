use Prim.Native.Nat.{◌+◌, ◌-◌, ◌%◌}
use mathlib.Core.List.{List}
use Rattle.tree.specs.declared.Tree.{Tree}
use Rattle.rules.specs.Calls.{Call}
use Rattle.state.specs.StepsChoosing.{Stepping}
use Rattle.state.proofs.Choosing.{Walked}
use Rattle.state.proofs.choice.lightest.Given as goal

abbrev pub invariant-loop-child : goal.invariant-loop-child
invariant-loop-child l = (tree : Tree) (cs : List Call) → Stepping l.words tree cs l.class → Walked l.words tree l.class l.best l.least l.child

abbrev pub decreases-loop-child : goal.decreases-loop-child
decreases-loop-child l = 63 - (l.child + 63) % 64
