use Prim.Native.Nat.{ℕ}
use mathlib.Core.Path.{◌≡◌}
use mathlib.Core.List.{List}
use Rattle.tree.specs.declared.Tree.{Tree}
use Rattle.file.specs.declared.reader.entries.Reader.{Reader}
use Rattle.file.proofs.ReadLaws.Bodies.{filled}
use Rattle.file.proofs.ReadLaws.Places.{StandsAt}
use Rattle.file.proofs.reader.bodies.tree_of.Given as goal

-- where the walk stands
pub record Filled (count : ℕ) (file : List ℕ) (tree : Tree) (reader : Reader) (class : ℕ) : Type 0 where
  pub stands : StandsAt file class reader
  pub counted : tree.count ≡ count
  pub classes : tree.classes ≡ filled file class

abbrev pub invariant-loop-class : goal.invariant-loop-class
invariant-loop-class l = Filled l.count l.fn.reader.file.now l.tree l.reader l.class
