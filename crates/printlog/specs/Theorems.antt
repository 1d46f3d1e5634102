-- What is proved of a log's lines. Each statement stands here under a name; a comment names the law of proofs/ that proves it.
-- Assumes nothing.
use Rattle.std.specs.Prelude.{ℕ, ◌≡◌, [], ◌∷◌, ◌++◌}
use Rattle.wording.specs.Letters.{space, line_feed}
use Rattle.wording.specs.Decimal.{decimal}
use Rattle.printlog.specs.declared.LogLine.{LogLine}
use Rattle.printlog.specs.declared.LogLine.TheVariants.{Record}
use Rattle.printlog.specs.Lines.{log_line_of}

-- two lines with the same text are equal: `log_line_one`
abbrev pub LogLineOne : Type 0
LogLineOne = (a b : LogLine) → log_line_of a ≡ log_line_of b → a ≡ b

-- the text of a record's line, number by number: `record_line`
abbrev pub RecordLine : Type 0
RecordLine = (a b c d : ℕ) → log_line_of (Record (record { kind = a; stamp = b; class = c; length = d })) ≡ decimal a ++ (space ∷ (decimal b ++ (space ∷ (decimal c ++ (space ∷ (decimal d ++ (line_feed ∷ [])))))))
