-- Lists of pieces, one piece at a time: in order, and every piece at least so much.
-- Assumes nothing.
use Prim.Native.Nat.{ℕ, ◌≤◌}
use mathlib.Core.List.{List, [], ◌∷◌}
use native.Mathlib.Omega.{arith}
use Rattle.curve.specs.Pieces.{standing, EveryPiece, latest}
use Rattle.curve.specs.Keeping.{latest_sent, Follows, Orderly}
use Rattle.curve.specs.declared.Curve.{Curve}
use Rattle.curve.specs.declared.Piece.{Piece}

-- "every piece is at least" y at t
pub every_none : (S : Curve) (t y : ℕ) → EveryPiece S [] t y
unfolding EveryPiece
every_none S t y = tt

module _ (S : Curve) (p : Piece) (ps : List Piece) (t y : ℕ) where
  pub every_more : y ≤ standing S p t → EveryPiece S ps t y → EveryPiece S (p ∷ ps) t y
  unfolding EveryPiece
  every_more h k = (h, k)

  pub every_head : EveryPiece S (p ∷ ps) t y → y ≤ standing S p t
  unfolding EveryPiece
  every_head h = h.0

  pub every_rest : EveryPiece S (p ∷ ps) t y → EveryPiece S ps t y
  unfolding EveryPiece
  every_rest h = h.1

-- neither the instants nor the bytes sent fall
pub orderly_none : Orderly []
unfolding Orderly
orderly_none = tt

module _ (p : Piece) where
  pub orderly_more : (ps : List Piece) → latest ps ≤ p.start → latest_sent ps ≤ p.sent → Orderly ps → Orderly (p ∷ ps)
  unfolding Orderly Follows
  orderly_more [] l m o = (tt, o)
  orderly_more (q ∷ qs) l m o = ((l, m), o)

  pub orderly_rest : (ps : List Piece) → Orderly (p ∷ ps) → Orderly ps
  unfolding Orderly
  orderly_rest ps o = o.1

  pub orderly_start : (ps : List Piece) → Orderly (p ∷ ps) → latest ps ≤ p.start
  unfolding Orderly Follows
  orderly_start [] o = omega arith
  orderly_start (q ∷ qs) o = o.0.0
