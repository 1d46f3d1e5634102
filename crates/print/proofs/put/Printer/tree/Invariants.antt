use Prim.Native.Nat.{◌+◌, ◌*◌, ◌-◌, ◌≤◌}
use Rattle.print.specs.Lines.{class_lines}
use Rattle.print.specs.Promises.{Prints}
use Rattle.print.proofs.put.Printer.tree.Given as goal

abbrev pub invariant-loop-i : goal.invariant-loop-i
invariant-loop-i l = (l.i ≤ l.i-end) × (l.self.at ≤ l.fn.self.at + 192 * (l.i + 1)) × Prints l.initial.self (class_lines l.tree 0 l.i) l.self

abbrev pub decreases-loop-i : goal.decreases-loop-i
decreases-loop-i l = l.i-end - l.i
