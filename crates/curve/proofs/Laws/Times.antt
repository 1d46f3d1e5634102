-- The least whole t at which something that can be decided holds: there is one, if it holds at all. So a leaf with a curve has an eligible time
-- and a deadline; and how late a deadline can be.
-- Assumes nothing.
use Prim.Native.Nat.{ℕ, zero, suc, ◌+◌, ◌-◌, ◌≤◌, ◌<◌, max}
use native.Mathlib.Omega.{arith}
use native.Mathlib.Decide.{dec_le}
use mathlib.Core.Path.{◌≡◌}
use mathlib.Core.Logic.{◌⊎◌, inl, inr, ⊎_elim}
use mathlib.Core.List.{List, [], ◌∷◌}
use Rattle.curve.specs.Answers.{Least}
use Rattle.curve.specs.Curves.{latest_bend, in_parts, Rising}
use Rattle.curve.specs.Pieces.{standing, EveryPiece, latest, Due, Ripe, Deadline, Eligible, lead}
use Rattle.curve.specs.Keeping.{Follows, Orderly}
use Rattle.curve.specs.declared.Curve.{Curve}
use Rattle.curve.specs.declared.Piece.{Piece}
use Rattle.curve.proofs.Laws.Order.{le_or_lt}
use Rattle.curve.proofs.Laws.Limits.{both_decided}
use Rattle.curve.proofs.Laws.Amount.{amount_mono, rising_reaches}

module _ (P : ℕ → Type 0) (decides : (t : ℕ) → Dec (P t)) where
  tested : (n : ℕ) → ((u : ℕ) → u < n → P u → ⊥) → Dec (P n) → ((u : ℕ) × Least P u) ⊎ ((u : ℕ) → u < suc n → P u → ⊥)
  tested n before (yes p) =
      inl
      (n, record { holds = p; least = λ u q. ⊎_elim (λ (l : n ≤ u). l) (λ (l : u < n). absurd (before u l q)) (le_or_lt n u) })
  tested n before (no p) =
      inr
      (λ u l q.
      ⊎_elim
      (λ (h : n ≤ u). let e : u ≡ n = omega arith in p (rw e at q))
      (λ (h : u < n). before u h q) (le_or_lt n u))

  below : (n : ℕ) → ((u : ℕ) × Least P u) ⊎ ((u : ℕ) → u < n → P u → ⊥)
  below zero = inr (λ u l q. omega arith)
  below (suc n) = ⊎_elim (λ found. inl found) (λ before. tested n before (decides n)) (below n)

  pub least_exists : (t : ℕ) → P t → (u : ℕ) × Least P u
  least_exists t p = ⊎_elim (λ found. found) (λ before. absurd (before t (omega arith) p)) (below (suc t))

every_decided : (S : Curve) (ps : List Piece) (t y : ℕ) → Dec (EveryPiece S ps t y)
unfolding EveryPiece
every_decided S [] t y = yes tt
every_decided S (p ∷ ps) t y = both_decided (dec_le y (standing S p t)) (every_decided S ps t y)

due_decided : (S : Curve) (ps : List Piece) (bytes t : ℕ) → Dec (Due S ps bytes t)
due_decided S ps bytes t = go (both_decided (dec_le (latest ps) t) (every_decided S ps t (in_parts bytes)))
  where
    go : Dec ((latest ps ≤ t) × EveryPiece S ps t (in_parts bytes)) → Dec (Due S ps bytes t)
    go (yes h) = yes (record { after = h.0; every = h.1 })
    go (no h) = no (λ d. h (d.after, d.every))

ripe_decided : (S : Curve) (ps : List Piece) (bytes t : ℕ) → Dec (Ripe S ps bytes t)
ripe_decided S ps bytes t = go (both_decided (dec_le (latest ps) t) (every_decided S ps (t + lead S) (in_parts bytes)))
  where
    go : Dec ((latest ps ≤ t) × EveryPiece S ps (t + lead S) (in_parts bytes)) → Dec (Ripe S ps bytes t)
    go (yes h) = yes (record { after = h.0; every = h.1 })
    go (no h) = no (λ d. h (d.after, d.every))

-- a tick that is late enough for all

top : List Piece → ℕ
top [] = 0
top (p ∷ ps) = max p.start (top ps)

latest_top : (ps : List Piece) → latest ps ≤ top ps
unfolding top
latest_top [] = omega arith
latest_top (p ∷ ps) = omega arith

late_enough : (S : Curve) → Rising S → (ps : List Piece) (y t : ℕ) → top ps + (y + latest_bend) ≤ t → EveryPiece S ps t y
unfolding EveryPiece standing top
late_enough S r [] y t h = tt
late_enough S r (p ∷ ps) y t h =
    (omega (arith, rising_reaches S r y, amount_mono S {t = y + latest_bend} {u = t - p.start} (omega arith)), late_enough S r ps y t (omega arith))

pub deadline_exists : (S : Curve) → Rising S → (ps : List Piece) (bytes : ℕ) → (t : ℕ) × Deadline S ps bytes t
deadline_exists S r ps bytes =
    least_exists (Due S ps bytes) (due_decided S ps bytes) (top ps + (in_parts bytes + latest_bend))
    (record { after = omega (arith, latest_top ps); every = late_enough S r ps (in_parts bytes) _ (omega arith) })

pub eligible_exists : (S : Curve) → Rising S → (ps : List Piece) (bytes : ℕ) → (t : ℕ) × Eligible S ps bytes t
eligible_exists S r ps bytes =
    least_exists (Ripe S ps bytes) (ripe_decided S ps bytes) (top ps + (in_parts bytes + latest_bend))
    (record { after = omega (arith, latest_top ps); every = late_enough S r ps (in_parts bytes) _ (omega arith) })

-- a deadline is not far past the latest piece
top_latest : (ps : List Piece) → Orderly ps → top ps ≤ latest ps
unfolding top Orderly Follows
top_latest [] order = omega arith
top_latest (p ∷ []) order = omega arith
top_latest (p ∷ q ∷ ps) order = omega (arith, top_latest (q ∷ ps) order.1, order.0.0)

pub deadline_most : (S : Curve) → Rising S → (ps : List Piece) (bytes now : ℕ) {d : ℕ} → Orderly ps → latest ps ≤ now → Deadline S ps bytes d
    → d ≤ now + (in_parts bytes + latest_bend)
deadline_most S r ps bytes now order after deadline =
    deadline.least (now + (in_parts bytes + latest_bend))
    (record { after = omega arith; every = late_enough S r ps (in_parts bytes) _ (omega (arith, top_latest ps order)) })
