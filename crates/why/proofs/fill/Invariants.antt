use Prim.Native.Nat.{ℕ, ◌*◌, ◌≤◌}
use mathlib.Core.Path.{◌≡◌}
use mathlib.Core.List.{List}
use Rattle.tree.specs.declared.Tree.{Tree}
use Rattle.rules.specs.Calls.{Call}
use Rattle.state.specs.Table.{CLASSES}
use Rattle.reason.specs.Reasons.{numbers}
use Rattle.why.specs.Promises.{line_number}
use Rattle.why.specs.Steps.{Fillable, Filled}
use Rattle.why.proofs.fill.Given as goal

-- of a tree that the table tells of, the next line's place, and the sheet so far
pub record Onward (tree : Tree) (cs : List Call) (tick i at : ℕ) (old new : List ℕ) : Type 0 where
  pub place : at ≡ numbers * line_number tree i
  pub so_far : Filled tree cs tick i old new

abbrev pub invariant-loop-i : goal.invariant-loop-i
invariant-loop-i l = (l.i ≤ l.count) × (l.count ≤ CLASSES) × ((tree : Tree) (cs : List Call) → Fillable l.words tree cs l.tick l.initial.sheet → Onward tree cs l.tick l.i l.at l.initial.sheet l.sheet)
