-- What the functions of this layer promise to the layers above: the names that stand in their heads, and that the theorems of proofs/One are about.
-- Assumes nothing.
use Rattle.std.specs.Prelude.{ℕ, ◌≤◌, ◌<◌, Bool, List, ◌≡◌, Result, Ok, Err}
use Rattle.curve.specs.Answers.{Least, Exactly}
use Rattle.curve.specs.Codec.{kinds, code_of, kind_curve, curve_said}
use Rattle.curve.specs.Curves.{RightCurve}
use Rattle.curve.specs.Fit.{CurvesFit}
use Rattle.curve.specs.Keeping.{lower_of, kept_with, Stands, BothStand, early}
use Rattle.curve.specs.declared.Curve.{Curve}
use Rattle.curve.specs.declared.Piece.{Piece}
use Rattle.curve.specs.declared.Kept.{Kept}
use Rattle.curve.specs.declared.codec.Code.{Code}
use Rattle.curve.specs.declared.codec.UnknownKind.{UnknownKind}

-- `right`: true exactly if the curve's numbers are within the limits
abbrev pub TellsRight : Curve → Bool → Type 0
TellsRight S r = Exactly r (RightCurve S)

-- `fits`: true exactly if the curves fit the link
abbrev pub TellsFit : List Curve → Bool → Type 0
TellsFit Ss r = Exactly r (CurvesFit Ss)

-- `Code::from`: the curve's kind and its numbers
abbrev pub Encodes : Curve → Code → Type 0
Encodes S r = r ≡ code_of S

-- `decode`: the curve of a kind and three numbers
abbrev pub Decodes : ℕ → ℕ → ℕ → ℕ → Curve → Type 0
Decodes kind x y z r = r ≡ kind_curve kind x y z

-- `Curve::try_from`: the curve of a kind of the table and three numbers, or that the table has no such kind
abbrev pub Converts : Code → Result Curve UnknownKind → Type 0
Converts c (Ok S) = (c.kind < kinds) × (S ≡ curve_said c)
Converts c (Err e) = kinds ≤ c.kind

-- `is_undelayed`: true exactly if the eligible time goes by the curve as it is
abbrev pub TellsUndelayed : Curve → Bool → Type 0
TellsUndelayed S r = Exactly r (early S ≡ S)

-- `lower`: of an old piece and a new one, that which is lower on a line of slope m from there on
abbrev pub LowerPiece : ℕ → Piece → Piece → Piece → Type 0
LowerPiece m old new r = r ≡ lower_of m old new

-- `arrival`: the earliest tick, not before its start, at which the piece stands at `bytes`
abbrev pub ArrivesAt : Curve → Piece → ℕ → ℕ → Type 0
ArrivesAt S p bytes r = Least (Stands S p bytes) r

-- `Kept::with`: what is kept after one piece more
abbrev pub KeptAfter : Curve → Kept → Piece → Kept → Type 0
KeptAfter S k p r = r ≡ kept_with S k p

-- `Kept::deadline`: the earliest tick at which both kept pieces stand at `bytes`
abbrev pub DueAt : Curve → Kept → ℕ → ℕ → Type 0
DueAt S k bytes r = Least (BothStand S k bytes) r

-- `Kept::eligible`: the same, a delayed curve without its delay
abbrev pub EligibleAt : Curve → Kept → ℕ → ℕ → Type 0
EligibleAt S k bytes r = DueAt (early S) k bytes r
