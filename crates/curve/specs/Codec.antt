-- Document 01, "The class-tree file": the table of kinds, its first two columns. A curve's kind and its numbers, and the curve that they say.
-- Assumes nothing.
use Rattle.std.specs.Prelude.{ℕ, zero, suc, List, [], ◌∷◌, get_or}
use Rattle.curve.specs.declared.Curve.{Curve}
use Rattle.curve.specs.declared.Curve.TheVariants.{None, Straight, FrontLoaded, Delayed}
use Rattle.curve.specs.declared.codec.Code.{Code}

-- the kinds of the table are the numbers below it
abbrev pub kinds : ℕ
kinds = 4

-- "0 no real-time curve: none", "1 straight: m", "2 front-loaded: m1, d, m2", "3 delayed: d, m": a curve's kind and its numbers
abbrev pub curve_kind : Curve → ℕ
curve_kind None = 0
curve_kind (Straight m) = 1
curve_kind (FrontLoaded m₁ d m₂) = 2
curve_kind (Delayed d m) = 3

abbrev pub curve_numbers : Curve → List ℕ
curve_numbers None = []
curve_numbers (Straight m) = m ∷ []
curve_numbers (FrontLoaded m₁ d m₂) = m₁ ∷ d ∷ m₂ ∷ []
curve_numbers (Delayed d m) = d ∷ m ∷ []

-- the kind and three numbers, with 0 where a kind has fewer
unfoldable pub code_of : Curve → Code
code_of S = record {
  kind = curve_kind S;
  first = get_or (curve_numbers S) 0 0;
  second = get_or (curve_numbers S) 1 0;
  third = get_or (curve_numbers S) 2 0;
}

-- the curve of a kind and three numbers; a kind that has fewer leaves the others unread, and an unknown kind has no curve
unfoldable pub kind_curve : ℕ → ℕ → ℕ → ℕ → Curve
kind_curve zero x y z = None
kind_curve (suc zero) x y z = Straight x
kind_curve (suc (suc zero)) x y z = FrontLoaded x y z
kind_curve (suc (suc (suc zero))) x y z = Delayed x y
kind_curve (suc (suc (suc (suc kind)))) x y z = None

-- the curve that a code says
abbrev pub curve_said : Code → Curve
curve_said c = kind_curve c.kind c.first c.second c.third
