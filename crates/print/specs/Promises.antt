-- What is promised of a lent buffer that was printed into: all that it holds afterwards, and where the print ends.
-- Assumes nothing.
use Rattle.std.specs.Prelude.{ℕ, ◌+◌, ◌≤◌, ◌≡◌, List, ◌∷◌, length, take}
use Rattle.std.proofs.lemmas.List.Edits.{sets}
use Rattle.wording.specs.Letters.{space}
use Rattle.wording.specs.Decimal.{decimal}
use Rattle.tree.specs.declared.Tree.{Tree}
use Rattle.print.specs.declared.Answer.{Answer}
use Rattle.print.specs.declared.put.Printer.{Printer}
use Rattle.print.specs.Lines.{line_of, tree_text}

-- room for any line, for a space and a number, and for the text of any tree, 65 lines
abbrev pub line_room : ℕ
line_room = 192

abbrev pub number_room : ℕ
number_room = 21

abbrev pub tree_room : ℕ
tree_room = 12480

-- so many bytes in front are a part of the buffer. The second half follows from the first; both are stated so that a caller who lends that part has nothing to show.
abbrev pub Within : ℕ → List ℕ → Type 0
Within n xs = (n ≤ length xs) × (n ≡ length (take n xs))

-- the bytes stand in the buffer from a place on, all else is as it was, and they end at `end`, within the buffer
pub record Printed (old : List ℕ) (at : ℕ) (bytes new : List ℕ) (end : ℕ) : Type 0 where
  pub holds : new ≡ sets old at bytes
  pub ends : end ≡ at + length bytes
  pub within : Within end new

-- so many bytes more have room in a printer's buffer
abbrev pub HasRoom : Printer → ℕ → Type 0
HasRoom printer n = printer.at + n ≤ length printer.out.now

-- the bytes stand in a printer's buffer from its place on, and its place is where they end. It prints into the same buffer still, which is as long as it was.
pub record Prints (old : Printer) (bytes : List ℕ) (new : Printer) : Type 0 where
  pub same_buffer : new.out.ghost_name ≡ old.out.ghost_name
  pub same_length : length new.out.now ≡ length old.out.now
  pub printed : Printed old.out.now old.at bytes new.out.now new.at

-- the line of an answer, from the front
abbrev pub PrintsLine : Answer → List ℕ → List ℕ → ℕ → Type 0
PrintsLine answer old new end = Printed old 0 (line_of answer) new end

-- the text of a tree, from the front
abbrev pub PrintsTree : Tree → List ℕ → List ℕ → ℕ → Type 0
PrintsTree tree old new end = Printed old 0 (tree_text tree) new end

-- a space and a number, from the front
abbrev pub PrintsNumber : ℕ → List ℕ → List ℕ → ℕ → Type 0
PrintsNumber n old new end = Printed old 0 (space ∷ decimal n) new end
