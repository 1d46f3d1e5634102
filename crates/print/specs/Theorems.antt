-- What is proved of lines. Each statement stands here under a name; a comment names the law of proofs/ that proves it.
-- Assumes nothing.
use Rattle.std.specs.Prelude.{◌≡◌}
use Rattle.print.specs.declared.Answer.{Answer}
use Rattle.print.specs.Lines.{line_of}

-- two answers with the same line are equal: `line_one`
abbrev pub LineOne : Type 0
LineOne = (a b : Answer) → line_of a ≡ line_of b → a ≡ b
