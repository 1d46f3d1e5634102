-- One piece: the earliest tick at which it stands at an amount, and which of two pieces is lower.
-- Assumes nothing.
use Prim.Native.Nat.{ℕ, ◌+◌, ◌-◌, ◌*◌, ◌≤◌, ◌<◌, max}
use mathlib.Core.Path.{◌≡◌, refl, subst, ap}
use mathlib.Core.Bool.{Bool, true, false}
use native.Mathlib.Nat.{le_trans}
use native.Mathlib.Omega.{arith}
use lib.Dec.{eqb}
use borrow.Author.Tests.{le-leb, lt-leb, eqb-true, eqb-false}
use Rattle.curve.specs.Answers.{Least, Exactly}
use Rattle.curve.specs.Curves.{latest_bend, amount, in_parts, Rising}
use Rattle.curve.specs.Pieces.{standing}
use Rattle.curve.specs.Keeping.{Reaches, lower_of, Stands, BothStand, early}
use Rattle.curve.specs.declared.Curve.{Curve}
use Rattle.curve.specs.declared.Curve.TheVariants.{Straight, FrontLoaded, Delayed, None}
use Rattle.curve.specs.declared.Piece.{Piece}
use Rattle.curve.specs.declared.Kept.{Kept}
use Rattle.curve.proofs.Laws.Answers.{least_iff, least_both}
use Rattle.curve.proofs.Laws.Amount.{amount_mono, rising_reaches}

-- an earliest tick is at most 2^20 past the parts
pub earliest_most : (S : Curve) → Rising S → {y e : ℕ} → Least (Reaches S y) e → e ≤ y + latest_bend
earliest_most S r {y} h = h.least (y + latest_bend) (rising_reaches S r y)

-- a fair piece: "65,536·w then, plus share·(v − mark)"
pub standing_straight : (m : ℕ) (p : Piece) (t : ℕ) → standing (Straight m) p t ≡ in_parts p.sent + m * (t - p.start)
unfolding standing amount
standing_straight m p t = refl

-- a piece never falls; and it has no more past its bytes than the curve from a tick at which it had not begun
pub standing_mono : (S : Curve) (p : Piece) {t u : ℕ} → t ≤ u → standing S p t ≤ standing S p u
unfolding standing
standing_mono S p {t} {u} l = omega (arith, amount_mono S {t = t - p.start} {u = u - p.start} (omega arith))

pub standing_most : (S : Curve) (p : Piece) (s t : ℕ) → s ≤ p.start → standing S p t ≤ in_parts p.sent + amount S (t - s)
unfolding standing
standing_most S p s t l = omega (arith, amount_mono S {t = t - p.start} {u = t - s} (omega arith))

-- where a piece stands at an amount it does so ever after
pub stands_on : (S : Curve) (p : Piece) (bytes t u : ℕ) → t ≤ u → Stands S p bytes t → Stands S p bytes u
stands_on S p bytes t u l h = record { begun = le_trans h.begun l; high = le_trans h.high (standing_mono S p l) }

-- the earliest tick at which a piece stands at an amount
pub arrival_least : (S : Curve) (p : Piece) (bytes : ℕ) {e : ℕ} → Least (Reaches S (in_parts (bytes - p.sent))) e → Least (Stands S p bytes) (p.start + e)
unfolding standing
arrival_least S p bytes {e} h =
    let q : p.start + e - p.start ≡ e = omega arith in
    record {
      holds = record { begun = omega arith; high = rw q (omega (arith, h.holds)) };
      least = λ u s. omega (arith, s.begun, h.least (u - p.start) (omega (arith, s.high)));
    }

-- both stand so at the later of their ticks
pub both_least : (S : Curve) (k : Kept) (bytes : ℕ) {a b : ℕ} → Least (Stands S k.steep bytes) a → Least (Stands S k.flat bytes) b → Least (BothStand S k bytes) (max a b)
both_least S k bytes =
    least_both (stands_on S k.steep bytes) (stands_on S k.flat bytes) (λ t s f. record { steep = s; flat = f }) (λ t r. r.steep) (λ t r. r.flat)

pub one_least : (S : Curve) (k : Kept) (bytes : ℕ) {a : ℕ} → k.steep ≡ k.flat → Least (Stands S k.steep bytes) a → Least (BothStand S k bytes) a
one_least S k bytes e =
    least_iff (λ t s. record { steep = s; flat = subst (λ (p : Piece). Stands S p bytes t) e s }) (λ t r. r.steep)

-- two pieces that start together are one piece just where as many bytes were sent before
pub one_exactly : (p q : Piece) → p.start ≡ q.start → Exactly (eqb p.sent q.sent) (p ≡ q)
one_exactly p q e = by (eqb p.sent q.sent) refl
  where
    by : (t : Bool) → eqb p.sent q.sent ≡ t → Exactly t (p ≡ q)
    by true f = let sent = eqb-true p.sent q.sent f in λ i. record { start = e i; sent = sent i }
    by false f = λ h. eqb-false p.sent q.sent f (ap (λ (x : Piece). x.sent) h)

-- the code's comparison of two pieces is the definition's
pub lower_new : (m : ℕ) (old new : Piece) → in_parts (new.sent - old.sent) ≤ m * (new.start - old.start) → new ≡ lower_of m old new
unfolding lower_of
lower_new m old new h = rw (le-leb (in_parts (new.sent - old.sent)) (m * (new.start - old.start)) h) refl

pub lower_old : (m : ℕ) (old new : Piece) → m * (new.start - old.start) < in_parts (new.sent - old.sent) → old ≡ lower_of m old new
unfolding lower_of
lower_old m old new h = rw (lt-leb (in_parts (new.sent - old.sent)) (m * (new.start - old.start)) h) refl

-- without its delay a curve rises too
pub early_rising : (S : Curve) → Rising S → Rising (early S)
unfolding Rising
early_rising (Straight m) r = r
early_rising (FrontLoaded m₁ d m₂) r = r
early_rising (Delayed d m) r = r.rate
early_rising None r = elim r [ ]

-- and it is another curve
pub delayed_not_early : (d m : ℕ) → early (Delayed d m) ≡ Delayed d m → ⊥
delayed_not_early d m e = let z : ◌≡◌ {A = ℕ} 0 1 = cc in absurd (omega arith)
