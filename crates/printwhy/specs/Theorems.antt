-- What is proved of a sheet's lines. The statement stands here under a name; a comment names the law of proofs/ that proves it.
-- Assumes nothing.
use Rattle.std.specs.Prelude.{ℕ, ◌≡◌}
use Rattle.reason.specs.declared.Reason.{Reason}
use Rattle.printwhy.specs.Lines.{why_line_of}

-- two lines with the same text are of the same leaf and the same reason: `why_line_one`
abbrev pub WhyLineOne : Type 0
WhyLineOne = (k l : ℕ) (a b : Reason) → why_line_of k a ≡ why_line_of l b → (k ≡ l) × (a ≡ b)
