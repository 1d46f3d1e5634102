-- Two results that a promise allows are equal.
-- Assumes nothing.
use Prim.Native.Nat.{ℕ}
use mathlib.Core.Path.{◌≡◌}
use mathlib.Core.List.{List}
use Rattle.wording.proofs.One.{equation_one}
use Rattle.calls.specs.Lines.{Line, said}

-- of a line read twice
pub parse_one : (line : List ℕ) (a b : Line) → a ≡ said line → b ≡ said line → a ≡ b
parse_one line a b p q = equation_one p q
