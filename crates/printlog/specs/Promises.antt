-- What is promised of a lent buffer that a log's line was printed into.
-- Assumes nothing.
use Rattle.std.specs.Prelude.{ℕ, ◌≡◌, List, Some, None}
use Rattle.records.specs.Records.{Entry}
use Rattle.print.specs.Promises.{Printed}
use Rattle.printlog.specs.declared.LogLine.{LogLine}
use Rattle.printlog.specs.declared.LogLine.TheVariants.{Record}
use Rattle.printlog.specs.Lines.{log_line_of}

-- room for any line of a log
abbrev pub log_line_room : ℕ
log_line_room = 256

-- the line, from the front
abbrev pub PrintsLogLine : LogLine → List ℕ → List ℕ → ℕ → Type 0
PrintsLogLine line old new end = Printed old 0 (log_line_of line) new end

-- what a call leaves in the log: its record's line, or nothing
abbrev pub PrintsEntry : Entry → List ℕ → List ℕ → ℕ → Type 0
PrintsEntry None old new end = (new ≡ old) × (end ≡ 0)
PrintsEntry (Some n) old new end = PrintsLogLine (Record n) old new end
