use Prim.Native.Nat.{◌+◌, ◌*◌, ◌≤◌}
use Rattle.print.specs.Promises.{Prints}
use Rattle.printwhy.specs.Lines.{sheet_text}
use Rattle.printwhy.specs.Promises.{why_line_room}
use Rattle.printwhy.proofs.all.Given as goal

abbrev pub invariant-loop-row : goal.invariant-loop-row
invariant-loop-row l =
    (l.printer.at ≤ l.initial.printer.at + why_line_room * l.row-index) × Prints l.initial.printer (sheet_text l.sheet l.row-index) l.printer
