-- What is promised of a lent buffer that a sheet's lines were printed into.
-- Assumes nothing.
use Rattle.std.specs.Prelude.{ℕ, List}
use Rattle.print.specs.Promises.{Printed}
use Rattle.printwhy.specs.Lines.{sheet_text}

-- room for any line, for what stands in it behind the leaf, and for as many lines as a tree has classes at most, 64
abbrev pub why_line_room : ℕ
why_line_room = 144

abbrev pub reason_room : ℕ
reason_room = 113

abbrev pub sheet_room : ℕ
sheet_room = 9216

-- the lines of a sheet, from the front
abbrev pub PrintsSheet : (sheet : List ℕ) → (lines : ℕ) → (old new : List ℕ) → (end : ℕ) → Type 0
PrintsSheet sheet lines old new end = Printed old 0 (sheet_text sheet lines) new end
