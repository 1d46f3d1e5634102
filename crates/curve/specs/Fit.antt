-- Document 01, "Curves": when real-time curves fit the link; and the test of it at the bends and the last slopes.
-- Assumes nothing.
use Rattle.std.specs.Prelude.{ℕ, ◌≡◌, ◌+◌, ◌≤◌, List, [], ◌∷◌}
use Rattle.curve.specs.Curves.{amount, in_parts, last_slope}
use Rattle.curve.specs.declared.Curve.{Curve}

-- the sum of a number that each curve has
unfoldable pub sum_of : (Curve → ℕ) → List Curve → ℕ
sum_of f [] = 0
sum_of f (S ∷ Ss) = f S + sum_of f Ss

-- a calculation that gives each curve's number, and no other
abbrev pub WorksOut : (Curve → ℕ → Type 0) → (Curve → ℕ) → Type 0
WorksOut gives f = (S : Curve) (n : ℕ) → gives S n → n ≡ f S

-- "the sum of all S(t)"
abbrev pub total : List Curve → ℕ → ℕ
total Ss t = sum_of (λ S. amount S t) Ss

-- "at every whole t from 0 the sum of all S(t) is at most 65,536·t"
unfoldable pub CurvesFit : List Curve → Type 0
CurvesFit Ss = (t : ℕ) → total Ss t ≤ in_parts t

-- the sum of the last slopes
abbrev pub slopes : List Curve → ℕ
slopes Ss = sum_of last_slope Ss
