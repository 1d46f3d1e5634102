-- What every curve's amount obeys.
-- Assumes nothing.
use Prim.Native.Nat.{ℕ, ◌+◌, ◌-◌, ◌*◌, ◌/◌, ◌%◌, ◌≤◌, ◌<◌, ◌^◌, min}
use mathlib.Core.Path.{◌≡◌, refl, ap}
use native.Mathlib.Nat.{mul-le-mul_left, mul-le-mul_right, mul-le-mul, le_trans, add-le-add, le_of_eq, le_of_lt, le_dest, mul-add, mul-zero, div-add-mod'}
use native.Mathlib.Omega.{arith}
use Rattle.curve.specs.Curves.{latest_bend, amount, RightRate, Rising, last_slope, first_slope}
use Rattle.curve.specs.Pieces.{lead}
use Rattle.curve.specs.declared.Curve.{Curve}
use Rattle.curve.specs.declared.Curve.TheVariants.{None, Straight, FrontLoaded, Delayed}

-- nothing is owed at 0
pub amount_zero : (S : Curve) → amount S 0 ≡ 0
unfolding amount
amount_zero None = refl
amount_zero (Straight m) = mul-zero m
amount_zero (FrontLoaded m₁ d m₂) = simp (native.Mathlib.Nat.zero-min, native.Mathlib.Nat.zero-sub, mul-zero)
amount_zero (Delayed d m) = simp (native.Mathlib.Nat.zero-sub, mul-zero)

-- a curve never falls
pub amount_mono : (S : Curve) {t u : ℕ} → t ≤ u → amount S t ≤ amount S u
unfolding amount
amount_mono None h = omega arith
amount_mono (Straight m) h = mul-le-mul_left m h
amount_mono (FrontLoaded m₁ d m₂) h = add-le-add (mul-le-mul_left m₁ (omega arith)) (mul-le-mul_left m₂ (omega arith))
amount_mono (Delayed d m) h = mul-le-mul_left m (omega arith)

-- a right curve that is there has grown by one a tick past its bend, at least
pub rising_reaches : (S : Curve) → Rising S → (x : ℕ) → x ≤ amount S (x + latest_bend)
unfolding amount Rising
rising_reaches (Straight m) r x = le_trans (omega arith) (mul-le-mul r.above (native.Mathlib.Nat.le_refl (x + latest_bend)))
rising_reaches (FrontLoaded m₁ d m₂) r x =
    let a = mul-le-mul r.last.above (native.Mathlib.Nat.le_refl (x + latest_bend - d)) in
    omega (arith, r.bend.below)
rising_reaches (Delayed d m) r x =
    let a = mul-le-mul r.rate.above (native.Mathlib.Nat.le_refl (x + latest_bend - d)) in
    omega (arith, r.bend.below)
rising_reaches None r x = elim r [ ]

-- a sum of ticks is moved across a bend: what the steep part loses the flat part gains
bend_moves : (m₁ m₂ A B a b p q : ℕ) → m₂ ≤ m₁ → A ≤ a + b → A + B ≡ (a + p) + (b + q) → m₁ * A + m₂ * B ≤ (m₁ * a + m₂ * p) + (m₁ * b + m₂ * q)
bend_moves m₁ m₂ A B a b p q h less all =
    let (k, e₁) = le_dest less in
    let e₂ : B ≡ p + q + k = omega arith in
    omega (arith, ap (λ z. m₁ * z) e₁, ap (λ z. m₂ * z) e₂, mul-le-mul_right k h)

min_split : (t d : ℕ) → min t d + (t - d) ≡ t
min_split t d = omega arith

min_sum : (x y d : ℕ) → min (x + y) d ≤ min x d + min y d
min_sum x y d = omega arith

-- "the curve facts": in x + y ticks a curve gives no more than in y ticks and, read as the eligible time reads it, in x
pub amount_sum : (S : Curve) → Rising S → (x y : ℕ) → amount S (x + y) ≤ amount S (x + lead S) + amount S y
unfolding amount Rising
amount_sum (Straight m) r x y = omega arith
amount_sum (FrontLoaded m₁ d m₂) r x y =
    le_trans
    (bend_moves m₁ m₂ (min (x + y) d) (x + y - d) (min x d) (min y d) (x - d) (y - d) (le_of_lt r.falls) (min_sum x y d) (cc (min_split (x + y) d, min_split x d, min_split y d)))
    (le_of_eq (rw native.Mathlib.Nat.add-zero refl))
amount_sum (Delayed d m) r x y = le_trans (mul-le-mul_left m (omega arith)) (le_of_eq (mul-add m (x + d - d) (y - d)))
amount_sum None r x y = elim r [ ]

-- a front-loaded curve up to its bend, and past it
pub front_before : (m₁ d m₂ t : ℕ) → t ≤ d → m₁ * t ≡ amount (FrontLoaded m₁ d m₂) t
unfolding amount
front_before m₁ d m₂ t l =
    let q : min t d ≡ t = omega arith in
    let r : t - d ≡ 0 = omega arith in
    omega (arith, ap (λ z. m₁ * z) q, ap (λ z. m₂ * z) r)

pub front_past : (m₁ d m₂ t : ℕ) → d < t → m₁ * d + m₂ * (t - d) ≡ amount (FrontLoaded m₁ d m₂) t
unfolding amount
front_past m₁ d m₂ t l = let q : min t d ≡ d = omega arith in omega (arith, ap (λ z. m₁ * z) q)

-- a line's rise in t ticks, with t in two halves of 32 bits
pub line_halves : (m t : ℕ) → m * t ≡ 4294967296 * (m * (t / 4294967296)) + m * (t % 4294967296)
line_halves m t = omega (arith, ap (λ z. m * z) (div-add-mod' t 4294967296))

-- a curve whose slopes are at most b has at most b a tick
pub amount_most : (b : ℕ) (S : Curve) → first_slope S ≤ b → last_slope S ≤ b → (x : ℕ) → amount S x ≤ b * x
unfolding amount
amount_most b None h k x = omega arith
amount_most b (Straight m) h k x = mul-le-mul_right x h
amount_most b (FrontLoaded m₁ d m₂) h k x =
    omega (arith, mul-le-mul_right (min x d) h, mul-le-mul_right (x - d) k, ap (λ z. b * z) (min_split x d))
amount_most b (Delayed d m) h k x = le_trans (mul-le-mul_right (x - d) h) (mul-le-mul_left b (omega arith))

-- a curve within the limits is no steeper than the link
pub rising_slopes : (S : Curve) → Rising S → RightRate (first_slope S) × RightRate (last_slope S)
unfolding Rising
rising_slopes (Straight m) r = (r, r)
rising_slopes (FrontLoaded m₁ d m₂) r = (r.first, r.last)
rising_slopes (Delayed d m) r = (r.rate, r.rate)
rising_slopes None r = elim r [ ]

-- numbers of 32 bits have an amount of 64
pub amount_fits : (S : Curve) (t : ℕ) → first_slope S < 2 ^ 32 → last_slope S < 2 ^ 32 → t < 2 ^ 32 → amount S t < 2 ^ 64
amount_fits S t h k l = omega (arith, amount_most 4294967295 S (omega arith) (omega arith) t)
