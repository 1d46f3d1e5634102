-- Two results that a promise allows are equal.
-- Assumes nothing.
use Prim.Native.Nat.{ℕ}
use mathlib.Core.Path.{◌≡◌}
use mathlib.Core.List.{List}
use Rattle.wording.proofs.One.{equation_one}
use Rattle.treetext.specs.declared.Draft.{Draft}
use Rattle.treetext.specs.Entries.{Said, entry_of}
use Rattle.treetext.specs.Texts.{tree_in}

-- of a line read twice
pub parse_one : (line : List ℕ) (a b : Said) → a ≡ entry_of line → b ≡ entry_of line → a ≡ b
parse_one line a b p q = equation_one p q

-- of a text read twice
pub read_one : (text : List ℕ) (a b : Draft) → a ≡ tree_in text → b ≡ tree_in text → a ≡ b
read_one text a b p q = equation_one p q
