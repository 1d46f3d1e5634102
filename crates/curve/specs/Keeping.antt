-- The pieces that are enough to keep of a history, what they are asked, and how far a question may go. Document 01 speaks of all pieces; the laws of
-- proofs/Laws/Kept say that these stand for them.
-- A list of pieces has the newest first.
-- Assumes nothing.
use Rattle.std.specs.Prelude.{ℕ, ◌-◌, ◌*◌, ◌^◌, ◌≤◌, Bool, true, false, List, [], ◌∷◌, leb}
use Rattle.curve.specs.Curves.{in_parts, amount, first_slope, last_slope}
use Rattle.curve.specs.Pieces.{standing}
use Rattle.curve.specs.declared.Curve.{Curve}
use Rattle.curve.specs.declared.Curve.TheVariants.{None, Straight, FrontLoaded, Delayed}
use Rattle.curve.specs.declared.Piece.{Piece}
use Rattle.curve.specs.declared.Kept.{Kept}

-- neither the instants nor the bytes sent fall from one piece to the next
unfoldable pub Follows : Piece → List Piece → Type 0
Follows p [] = Unit {0}
Follows p (q ∷ qs) = (q.start ≤ p.start) × (q.sent ≤ p.sent)

unfoldable pub Orderly : List Piece → Type 0
Orderly [] = Unit {0}
Orderly (p ∷ ps) = Follows p ps × Orderly ps

-- the bytes sent before the latest instant
abbrev pub latest_sent : List Piece → ℕ
latest_sent [] = 0
latest_sent (p ∷ ps) = p.sent

abbrev pub choose : Bool → Piece → Piece → Piece
choose true p q = p
choose false p q = q

-- of an old piece and a new one, that which is lower on a line of slope m from there on; the new one where they are level
unfoldable pub lower_of : ℕ → Piece → Piece → Piece
lower_of m old new = choose (leb (in_parts (new.sent - old.sent)) (m * (new.start - old.start))) new old

-- the piece of a list that is lowest on a line of slope m
unfoldable pub lowest : ℕ → List Piece → Piece
lowest m [] = record { start = 0; sent = 0 }
lowest m (p ∷ []) = p
lowest m (p ∷ q ∷ ps) = lower_of m (lowest m (q ∷ ps)) p

-- what is kept of a list of pieces: the lowest on each of the curve's two slopes
unfoldable pub kept_of : Curve → List Piece → Kept
kept_of S ps = record { steep = lowest (first_slope S) ps; flat = lowest (last_slope S) ps }

-- what is kept after one piece more
unfoldable pub kept_with : Curve → Kept → Piece → Kept
kept_with S k p = record { steep = lower_of (first_slope S) k.steep p; flat = lower_of (last_slope S) k.flat p }

-- the most bytes that a question may be about: the 2^40 of "total bytes accepted", with room to spare
abbrev pub most_bytes : ℕ
most_bytes = 2 ^ 41

-- the latest tick, or virtual time, at which a piece may start
abbrev pub most_start : ℕ
most_start = 2 ^ 60

-- the curve is at `parts` or above it at tick t
abbrev pub Reaches : Curve → ℕ → ℕ → Type 0
Reaches S parts t = parts ≤ amount S t

-- a piece has begun and stands at `bytes` or above
pub record Stands (S : Curve) (p : Piece) (bytes t : ℕ) : Type 0 where
  pub begun : p.start ≤ t
  pub high : in_parts bytes ≤ standing S p t

-- both kept pieces stand so
pub record BothStand (S : Curve) (k : Kept) (bytes t : ℕ) : Type 0 where
  pub steep : Stands S k.steep bytes t
  pub flat : Stands S k.flat bytes t

-- the curve that the eligible time goes by: a delayed one without its delay
abbrev pub early : Curve → Curve
early None = None
early (Straight m) = Straight m
early (FrontLoaded m₁ d m₂) = FrontLoaded m₁ d m₂
early (Delayed d m) = Straight m
