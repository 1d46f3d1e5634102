-- The virtual time as a function is document 01's least; it does not fall as bytes are sent or a piece is added.
-- Assumes nothing.
use Rattle.std.proofs.Common.{ℕ, ◌+◌, ◌-◌, ◌*◌, ◌≤◌, List, [], ◌∷◌, le_trans, mul-le-mul_right, div-lt_iff_lt-mul, mul-le-mul_left, arith}
use native.Mathlib.Nat.{lt-mul-div-succ}
use Rattle.curve.specs.Curves.{in_parts}
use Rattle.curve.specs.Pieces.{EveryPiece, latest, VirtualTime}
use Rattle.curve.specs.Keeping.{Orderly}
use Rattle.curve.specs.declared.Curve.TheVariants.{Straight}
use Rattle.curve.specs.declared.Piece.{Piece}
use Rattle.curve.proofs.Laws.Pieces.{standing_straight}
use Rattle.curve.proofs.Laws.Lists.{every_none, every_more, every_head, every_rest, orderly_rest, orderly_start}
use Rattle.rules.specs.Fair.{rounded_up, virtual_time}

-- a quotient rounded up is the least that is enough
pub rounded_enough : (a b : ℕ) → 1 ≤ b → a ≤ b * rounded_up a b
unfolding rounded_up
rounded_enough a b some = omega (arith, lt-mul-div-succ (a + (b - 1)) {b = b} some)

pub rounded_least : (a b x : ℕ) → 1 ≤ b → a ≤ b * x → rounded_up a b ≤ x
unfolding rounded_up
rounded_least a b x some h = omega (arith, (div-lt_iff_lt-mul {k = b} {x = a + (b - 1)} {y = x + 1} some).1 (omega arith))

pub rounded_mono : (b : ℕ) {a c : ℕ} → 1 ≤ b → a ≤ c → rounded_up a b ≤ rounded_up c b
rounded_mono b {a} {c} some h = rounded_least a b (rounded_up c b) some (le_trans h (rounded_enough c b some))

pub rounded_most : (a b : ℕ) → 1 ≤ b → rounded_up a b ≤ a
rounded_most a b some = rounded_least a b a some (omega (arith, mul-le-mul_right a some))

-- the latest start and every older piece are reached
pub virtual_latest : (share : ℕ) (ps : List Piece) (w : ℕ) → latest ps ≤ virtual_time share ps w
unfolding virtual_time
virtual_latest share [] w = omega arith
virtual_latest share (p ∷ ps) w = omega arith

pub virtual_mono : (share : ℕ) (ps : List Piece) {w x : ℕ} → 1 ≤ share → w ≤ x → virtual_time share ps w ≤ virtual_time share ps x
unfolding virtual_time
virtual_mono share [] some h = omega arith
virtual_mono share (p ∷ ps) {w} {x} some h =
    omega (arith, virtual_mono share ps some h, rounded_mono share {a = in_parts (w - p.sent)} {c = in_parts (x - p.sent)} some (omega arith))

pub virtual_older : (share : ℕ) (p : Piece) (ps : List Piece) (w : ℕ) → virtual_time share ps w ≤ virtual_time share (p ∷ ps) w
unfolding virtual_time
virtual_older share p ps w = omega arith

virtual_every : (share : ℕ) (ps : List Piece) (w v : ℕ) → 1 ≤ share → virtual_time share ps w ≤ v → EveryPiece (Straight share) ps v (in_parts w)
unfolding virtual_time
virtual_every share [] w v some h = every_none (Straight share) v (in_parts w)
virtual_every share (p ∷ ps) w v some h =
    every_more (Straight share) p ps v (in_parts w)
    (omega (
      arith,
      standing_straight share p v,
      rounded_enough (in_parts (w - p.sent)) share some,
      mul-le-mul_left {m = rounded_up (in_parts (w - p.sent)) share} {n = v - p.start} share (omega arith),
    ))
    (virtual_every share ps w v some (omega arith))

virtual_least : (share : ℕ) (ps : List Piece) (w u : ℕ) → 1 ≤ share → Orderly ps → latest ps ≤ u → EveryPiece (Straight share) ps u (in_parts w)
    → virtual_time share ps w ≤ u
unfolding virtual_time
virtual_least share [] w u some order after every = omega arith
virtual_least share (p ∷ ps) w u some order after every =
    omega (
      arith,
      rounded_least (in_parts (w - p.sent)) share (u - p.start) some
          (omega (arith, every_head (Straight share) p ps u (in_parts w) every, standing_straight share p u)),
      virtual_least share ps w u some (orderly_rest p ps order) (le_trans (orderly_start p ps order) after)
          (every_rest (Straight share) p ps u (in_parts w) every),
    )

-- "Its virtual time is the least whole v, not before its latest start, at which every fair piece of its history is at least 65,536·w"
pub virtual_is_least : (share : ℕ) (ps : List Piece) (w : ℕ) → 1 ≤ share → Orderly ps → VirtualTime share ps w (virtual_time share ps w)
virtual_is_least share ps w some order =
    record {
      holds = record { after = virtual_latest share ps w; every = virtual_every share ps w (virtual_time share ps w) some (omega arith) };
      least = λ u due. virtual_least share ps w u some order due.after due.every;
    }
