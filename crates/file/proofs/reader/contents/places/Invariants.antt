use Prim.Native.Nat.{ℕ}
use mathlib.Core.Path.{◌≡◌}
use mathlib.Core.List.{List}
use Rattle.tree.specs.Rules.{EveryClass}
use Rattle.file.specs.Format.{start_of}
use Rattle.file.specs.declared.reader.entries.Reader.{Reader}
use Rattle.file.proofs.ReadLaws.Places.{FitsAt, StandsAt}
use Rattle.file.proofs.reader.contents.places.Given as goal

-- where the walk stands
pub record Walked (file : List ℕ) (reader : Reader) (start class : ℕ) : Type 0 where
  pub stands : StandsAt file class reader
  pub next : start ≡ start_of file class
  pub fit : EveryClass (FitsAt file) class

abbrev pub invariant-loop-class : goal.invariant-loop-class
invariant-loop-class l = Walked l.fn.reader.file.now l.reader l.start l.class
