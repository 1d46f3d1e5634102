use Prim.Native.Nat.{◌≤◌}
use mathlib.Core.Path.{◌≡◌}
use Rattle.tree.specs.declared.Tree.{Tree}
use Rattle.state.specs.Planting.{Linkable}
use Rattle.state.proofs.StartingLinks.{Linking}
use Rattle.state.proofs.planting.link.Given as goal

abbrev pub invariant-loop-i : goal.invariant-loop-i
invariant-loop-i l = (1 ≤ l.i) × (l.i ≤ l.initial.i) × ((tree : Tree) → Linkable l.initial.words tree → tree.count ≡ l.initial.i → Linking l.initial.words l.words tree l.i)

abbrev pub decreases-loop-i : goal.decreases-loop-i
decreases-loop-i l = l.i
