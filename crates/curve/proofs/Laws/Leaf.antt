-- Leaf facts: what an eligible time and a deadline tell of a leaf's pieces, for whoever reasons about when packets leave.
-- Assumes nothing.
use Prim.Native.Nat.{ℕ, ◌+◌, ◌-◌, ◌≤◌, ◌<◌}
use mathlib.Core.Path.{◌≡◌, refl}
use mathlib.Core.List.{List, [], ◌∷◌}
use mathlib.Core.Logic.{◌⊎◌, inl, inr, ⊎_elim}
use native.Mathlib.Nat.{le_trans, le_refl, mul-le-mul_left}
use native.Mathlib.Omega.{arith}
use Rattle.curve.specs.Curves.{whole, amount, in_parts, Rising}
use Rattle.curve.specs.Pieces.{standing, EveryPiece, latest, Due, Deadline, Eligible, lead}
use Rattle.curve.specs.Keeping.{Orderly}
use Rattle.curve.specs.declared.Curve.{Curve}
use Rattle.curve.specs.declared.Piece.{Piece}
use Rattle.curve.proofs.Laws.Order.{le_or_lt}
use Rattle.curve.proofs.Laws.Amount.{amount_mono, amount_sum}
use Rattle.curve.proofs.Laws.Pieces.{standing_mono}
use Rattle.curve.proofs.Laws.Kept.{Every, every_map, piece_every, orderly_first}

-- a question on a list of pieces stays answered
pub every_mono : (S : Curve) (ps : List Piece) {t u y z : ℕ} → t ≤ u → z ≤ y → EveryPiece S ps t y → EveryPiece S ps u z
unfolding EveryPiece
every_mono S [] l l' h = tt
every_mono S (p ∷ ps) l l' h = (le_trans l' (le_trans h.0 (standing_mono S p l)), every_mono S ps l l' h.1)

-- the deadline is at most D exactly if D is not before the latest instant and every piece is at its target at D
pub deadline_by : {S : Curve} {ps : List Piece} {bytes t D : ℕ} → Deadline S ps bytes t → t ≤ D → Due S ps bytes D
deadline_by {S} {ps} h l =
    record { after = le_trans h.holds.after l; every = every_mono S ps l (le_refl (in_parts _)) h.holds.every }

pub by_deadline : {S : Curve} {ps : List Piece} {bytes t D : ℕ} → Deadline S ps bytes t → Due S ps bytes D → t ≤ D
by_deadline {D = D} h d = h.least D d

-- a leaf is eligible before its head is due
pub eligible_deadline : {S : Curve} {ps : List Piece} {c b e d : ℕ} → c ≤ b → Eligible S ps c e → Deadline S ps b d → e ≤ d
eligible_deadline {S} {ps} {d = d} l h k =
    h.least d (record { after = k.holds.after; every = every_mono S ps (omega arith) (mul-le-mul_left whole l) k.holds.every })

-- a piece is in a list
unfoldable pub In : Piece → List Piece → Type 0
In p [] = ⊥
In p (q ∷ qs) = (p ≡ q) ⊎ In p qs

pub every_in : (P : Piece → Type 0) (p : Piece) (ps : List Piece) → Every P ps → In p ps → P p
unfolding Every In
every_in P p (q ∷ qs) h (inl e) = rw e h.0
every_in P p (q ∷ qs) h (inr i) = every_in P p qs h.1 i
every_in P p [] h x'' = elim x'' [ ]

-- every piece is at an amount at t, or there is one below it
pub record Below (S : Curve) (ps : List Piece) (t y : ℕ) : Type 0 where
  pub piece : Piece
  pub within : In piece ps
  pub low : standing S piece t < y

pub every_or_below : (S : Curve) (ps : List Piece) (t y : ℕ) → EveryPiece S ps t y ⊎ Below S ps t y
unfolding EveryPiece In
every_or_below S [] t y = inl tt
every_or_below S (p ∷ ps) t y = at (le_or_lt y (standing S p t)) (every_or_below S ps t y)
  where
    at : (y ≤ standing S p t) ⊎ (standing S p t < y) → EveryPiece S ps t y ⊎ Below S ps t y → ((y ≤ standing S p t) × EveryPiece S ps t y) ⊎ Below S (p ∷ ps) t y
    at (inr l) rest = inr (record { piece = p; within = inl refl; low = l })
    at (inl l) (inl h) = inl (l, h)
    at (inl l) (inr b) = inr (record { piece = b.piece; within = inr b.within; low = b.low })

-- a leaf that is not yet eligible has a piece below what was sent
pub unripe_below : {S : Curve} {ps : List Piece} {c e t : ℕ} → latest ps ≤ t → Eligible S ps c e → t < e → Below S ps (t + lead S) (in_parts c)
unripe_below {S} {ps} {c} {e} {t} b h l = ⊎_elim (λ k. absurd (omega (arith, h.least t (record { after = b; every = k })))) (λ k. k) (every_or_below S ps (t + lead S) (in_parts c))

-- no piece of a list in order starts after the latest
begun : (ps : List Piece) {t : ℕ} → Orderly ps → latest ps ≤ t → Every (λ p. p.start ≤ t) ps
unfolding Every
begun [] o l = tt
begun (p ∷ ps) o l = every_map (λ q h. le_trans h.0 l) (p ∷ ps) (orderly_first p ps o)

-- for b no later than D and t: what a curve gives from b to D is at most what it gives to t, read as the eligible time reads it, and from t to D
pub rise_split : (S : Curve) → Rising S → (b t D : ℕ) → b ≤ t → amount S (D - b) ≤ amount S (t - b + lead S) + amount S (D - t)
rise_split S r b t D l = le_trans (amount_mono S (omega arith)) (amount_sum S r (t - b) (D - t))

-- Where a leaf is not eligible at t, some piece is low: what is due by D is at most what was sent and what the curve gives from t to D.
pub unripe_due : (S : Curve) → Rising S → (ps : List Piece) (bytes e t D y : ℕ) → Orderly ps → latest ps ≤ t → Eligible S ps bytes e → t < e → Due S ps y D
    → in_parts y ≤ in_parts bytes + amount S (D - t)
unfolding standing
unripe_due S rises ps bytes e t D y order last eligible unripe due =
    let below = unripe_below last eligible unripe in
    let p = below.piece in
    let b : p.start ≤ t = every_in (λ p. p.start ≤ t) p ps (begun ps order last) below.within in
    let q : t + lead S - p.start ≡ t - p.start + lead S = omega arith in
    let low = below.low in
    omega (
      arith,
      rw q at low,
      rise_split S rises p.start t D b,
      every_in (λ p. in_parts y ≤ standing S p D) p ps (piece_every S ps D (in_parts y) due.every) below.within,
    )
