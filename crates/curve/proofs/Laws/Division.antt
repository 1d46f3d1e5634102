-- The earliest tick by division: a quotient rounded up is the least number of ticks, and each kind of curve is made of lines.
-- Assumes nothing.
use Prim.Native.Nat.{ℕ, ◌+◌, ◌-◌, ◌*◌, ◌/◌, ◌%◌, ◌≤◌, ◌<◌, min}
use mathlib.Core.Path.{◌≡◌, refl, ap}
use mathlib.Core.Logic.{⊎_elim}
use native.Mathlib.Nat.{mul-le-mul_left, mul-le-mul_right, lt_of_mul-lt-mul_left, mul-add, mul-one, div-add-mod, mod-lt}
use native.Mathlib.Omega.{arith}
use Rattle.curve.specs.Answers.{Least}
use Rattle.curve.specs.Curves.{amount}
use Rattle.curve.specs.Keeping.{Reaches}
use Rattle.curve.specs.declared.Curve.TheVariants.{Straight, FrontLoaded, Delayed}
use Rattle.curve.proofs.Laws.Order.{le_or_lt}
use Rattle.curve.proofs.Laws.Amount.{front_before, front_past}

-- the ticks in which a line of slope m rises by y: y/m rounded up
pub quotient_least : (m y : ℕ) → 1 ≤ m → Least (λ t. y ≤ m * t) ((y + (m - 1)) / m)
quotient_least m y one =
    let n = y + (m - 1) in
    let split : m * (n / m) + n % m ≡ n = div-add-mod n m in
    let rest : n % m < m = mod-lt n one in
    record {
      holds = omega (arith, split, rest);
      least = λ u h. later u h (lt_of_mul-lt-mul_left m (rw (mul-add m u 1, mul-one m) (omega (arith, split, h))));
    }
  where
    later : (u : ℕ) → y ≤ m * u → (y + (m - 1)) / m < u + 1 → (y + (m - 1)) / m ≤ u
    later u h l = omega arith

-- it is no more than y
pub line_most : {m y t : ℕ} → 1 ≤ m → Least (λ t. y ≤ m * t) t → t ≤ y
line_most {m} {y} one h = h.least y (omega (arith, mul-le-mul_right y one))

pub straight_least : (m y : ℕ) {t : ℕ} → Least (λ u. y ≤ m * u) t → Least (Reaches (Straight m) y) t
unfolding amount
straight_least m y h = h

-- a front-loaded curve: up to what it has at its bend it is its first slope's line
pub front_least : (m₁ d m₂ y : ℕ) {t : ℕ} → y ≤ m₁ * d → Least (λ u. y ≤ m₁ * u) t → Least (Reaches (FrontLoaded m₁ d m₂) y) t
front_least m₁ d m₂ y {t} before h =
    let soon : t ≤ d = h.least d before in
    record {
      holds = omega (arith, front_before m₁ d m₂ t soon, h.holds);
      least = λ u k.
          ⊎_elim (λ l. h.least u (omega (arith, front_before m₁ d m₂ u l, k))) (λ l. omega arith) (le_or_lt u d);
    }

-- and past it, from the bend on, its last slope's
front_on : (m₁ d m₂ t : ℕ) → amount (FrontLoaded m₁ d m₂) (d + t) ≡ m₁ * d + m₂ * t
unfolding amount
front_on m₁ d m₂ t =
    let low : min (d + t) d ≡ d = omega arith in
    let high : d + t - d ≡ t = omega arith in
    rw (low, high) refl

pub front_past_least : (m₁ d m₂ y : ℕ) {t : ℕ} → m₁ * d < y → Least (λ u. y - m₁ * d ≤ m₂ * u) t → Least (Reaches (FrontLoaded m₁ d m₂) y) (d + t)
front_past_least m₁ d m₂ y {t} past h =
    record {
      holds = omega (arith, front_on m₁ d m₂ t, h.holds);
      least = λ u k.
          ⊎_elim
          (λ l. absurd (omega (arith, front_before m₁ d m₂ u l, k, mul-le-mul_left m₁ l)))
          (λ l. omega (arith, h.least (u - d) (omega (arith, front_past m₁ d m₂ u l, k)))) (le_or_lt u d);
    }

-- a delayed curve: nothing is reached at once, and more is on its line from the bend on
pub nothing_least : (d m : ℕ) → Least (Reaches (Delayed d m) 0) 0
nothing_least d m = record { holds = omega arith; least = λ u k. omega arith }

pub delayed_least : (d m y : ℕ) {t : ℕ} → 0 < y → Least (λ u. y ≤ m * u) t → Least (Reaches (Delayed d m) y) (d + t)
unfolding amount
delayed_least d m y {t} some h =
    let high : d + t - d ≡ t = omega arith in
    record {
      holds = rw high h.holds;
      least = λ u k.
          ⊎_elim
          (λ l. absurd (omega (arith, k, ap (λ z. m * z) (early u l))))
          (λ l. omega (arith, h.least (u - d) k)) (le_or_lt u d);
    }
  where
    early : (u : ℕ) → u ≤ d → u - d ≡ 0
    early u l = omega arith
