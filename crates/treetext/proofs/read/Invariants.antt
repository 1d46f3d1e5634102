use Prim.Native.Nat.{ℕ, ◌-◌, ◌≤◌}
use mathlib.Core.Path.{◌≡◌}
use mathlib.Core.List.{List}
use lib.ListN.{length, drop}
use Rattle.treetext.specs.declared.Draft.{Draft}
use Rattle.treetext.specs.Texts.{lines_of, with_lines, tree_in}
use Rattle.treetext.proofs.read.Given as goal

-- where the walk stands
pub record Going (text : List ℕ) (draft : Draft) (at : ℕ) : Type 0 where
  pub lines : draft.lines ≤ at
  pub rest : with_lines draft (lines_of (drop at text)) ≡ tree_in text

abbrev pub invariant-loop-at : goal.invariant-loop-at
invariant-loop-at l = Going l.text l.draft l.at

abbrev pub decreases-loop-at : goal.decreases-loop-at
decreases-loop-at l = length l.text - l.at
