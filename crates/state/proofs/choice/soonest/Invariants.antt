use Prim.Native.Nat.{◌≤◌, ◌-◌}
use Rattle.state.specs.Table.{CLASSES}
use Rattle.state.proofs.Choosing.{Looked}
use Rattle.state.proofs.choice.soonest.Given as goal

abbrev pub invariant-loop-i : goal.invariant-loop-i
invariant-loop-i l = (l.i ≤ l.count) × (l.count ≤ CLASSES) × Looked l.words l.tick l.i l.least l.best

abbrev pub decreases-loop-i : goal.decreases-loop-i
decreases-loop-i l = l.count - l.i
