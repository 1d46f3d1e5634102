use Prim.Native.Nat.{◌≤◌}
use mathlib.Core.Path.{◌≡◌}
use mathlib.Core.List.{List}
use Rattle.tree.specs.declared.Tree.{Tree}
use Rattle.rules.specs.Calls.{Call}
use Rattle.state.specs.Table.{CLASSES}
use Rattle.state.specs.StepsChoosing.{Told}
use Rattle.why.specs.Promises.{line_number}
use Rattle.why.proofs.leaves.Given as goal

abbrev pub invariant-loop-i : goal.invariant-loop-i
invariant-loop-i l = (l.i ≤ l.count) × (l.count ≤ CLASSES) × (l.lines ≤ l.i) × ((tree : Tree) (cs : List Call) → Told l.words tree cs → l.lines ≡ line_number tree l.i)
