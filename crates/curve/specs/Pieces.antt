-- Document 01, "What the definitions say": pieces, deadline, eligible time and virtual time.
-- A list of pieces has the newest first.
-- Assumes nothing.
use Rattle.std.specs.Prelude.{ℕ, ◌+◌, ◌-◌, ◌≤◌, List, [], ◌∷◌}
use Rattle.curve.specs.Answers.{Least}
use Rattle.curve.specs.Curves.{amount, in_parts}
use Rattle.curve.specs.declared.Curve.{Curve}
use Rattle.curve.specs.declared.Curve.TheVariants.{None, Straight, FrontLoaded, Delayed}
use Rattle.curve.specs.declared.Piece.{Piece}

-- "Piece k at tick t is 65,536·ck + S(t − bk)"
unfoldable pub standing : Curve → Piece → ℕ → ℕ
standing S p t = in_parts p.sent + amount S (t - p.start)

-- "every piece is at least" y at t
unfoldable pub EveryPiece : Curve → List Piece → ℕ → ℕ → Type 0
EveryPiece S [] t y = Unit {0}
EveryPiece S (p ∷ ps) t y = (y ≤ standing S p t) × EveryPiece S ps t y

-- bm, the latest instant
abbrev pub latest : List Piece → ℕ
latest [] = 0
latest (p ∷ ps) = p.start

-- "not before bm, at which every piece is at least 65,536·" bytes
pub record Due (S : Curve) (ps : List Piece) (bytes t : ℕ) : Type 0 where
  pub after : latest ps ≤ t
  pub every : EveryPiece S ps t (in_parts bytes)

-- "Deadline: the least whole t, not before bm, at which every piece is at least 65,536·(c + n)", with c + n for bytes
abbrev pub Deadline : Curve → List Piece → ℕ → ℕ → Type 0
Deadline S ps bytes t = Least (Due S ps bytes) t

-- by how much a piece is read later for the eligible time: d for a delayed curve
abbrev pub lead : Curve → ℕ
lead None = 0
lead (Straight m) = 0
lead (FrontLoaded m₁ d m₂) = 0
lead (Delayed d m) = d

-- "Eligible time, delayed: the same with each piece taken at t + d"
pub record Ripe (S : Curve) (ps : List Piece) (bytes t : ℕ) : Type 0 where
  pub after : latest ps ≤ t
  pub every : EveryPiece S ps (t + lead S) (in_parts bytes)

-- "Eligible time, straight or front-loaded: the least whole t, not before bm, at which every piece is at least 65,536·c", with c for bytes
abbrev pub Eligible : Curve → List Piece → ℕ → ℕ → Type 0
Eligible S ps bytes t = Least (Ripe S ps bytes) t

-- "Its virtual time is the least whole v, not before its latest start, at which every fair piece of its history is at least 65,536·w":
-- a fair piece, "65,536·w then, plus share·(v − mark)", is a piece of the straight curve whose rate is the share
abbrev pub VirtualTime : ℕ → List Piece → ℕ → ℕ → Type 0
VirtualTime share ps w v = Least (Due (Straight share) ps w) v
