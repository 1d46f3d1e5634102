-- Document 01, "Units and limits" and "Curves": a curve's numbers, their limits, and S(t); its slopes and its bend.
-- Assumes nothing.
use Rattle.std.specs.Prelude.{ℕ, ◌+◌, ◌-◌, ◌*◌, ◌≤◌, ◌<◌, min}
use Rattle.curve.specs.declared.Curve.{Curve}
use Rattle.curve.specs.declared.Curve.TheVariants.{None, Straight, FrontLoaded, Delayed}

-- "65,536 parts are one byte per tick": the link's rate
abbrev pub whole : ℕ
whole = 65536

-- n bytes in parts, and what the link sends in n ticks
abbrev pub in_parts : ℕ → ℕ
in_parts n = whole * n

-- a limit of the table: from low to high, both allowed
pub record Within (low high x : ℕ) : Type 0 where
  pub above : low ≤ x
  pub below : x ≤ high

-- "rate or share: 1 to 65,536"
abbrev pub RightRate : ℕ → Type 0
RightRate m = Within 1 whole m

-- "bend of a curve: 1 to 1,048,576 ticks"
abbrev pub latest_bend : ℕ
latest_bend = 1048576

abbrev pub RightBend : ℕ → Type 0
RightBend d = Within 1 latest_bend d

-- "front-loaded, m1 > m2, bend d"
pub record RightFront (m₁ d m₂ : ℕ) : Type 0 where
  pub first : RightRate m₁
  pub bend : RightBend d
  pub last : RightRate m₂
  pub falls : m₂ < m₁

-- "delayed, bend d, rate m"
pub record RightDelay (d m : ℕ) : Type 0 where
  pub bend : RightBend d
  pub rate : RightRate m

-- a curve's numbers are within the limits; where there is no curve there are no numbers
unfoldable pub RightCurve : Curve → Type 0
RightCurve None = Unit {0}
RightCurve (Straight m) = RightRate m
RightCurve (FrontLoaded m₁ d m₂) = RightFront m₁ d m₂
RightCurve (Delayed d m) = RightDelay d m

-- "S(t), in parts, for whole t from 0":
--   "straight, rate m: m·t"
--   "front-loaded, m1 > m2, bend d: m1·t up to d, then m1·d + m2·(t − d)"
--   "delayed, bend d, rate m: 0 up to d, then m·(t − d)"
-- A subtraction stops at 0. Where there is no curve nothing is owed.
unfoldable pub amount : Curve → ℕ → ℕ
amount None t = 0
amount (Straight m) t = m * t
amount (FrontLoaded m₁ d m₂) t = m₁ * min t d + m₂ * (t - d)
amount (Delayed d m) t = m * (t - d)

-- the slope before the bend, and after it; a delayed curve is taken d ticks later, where it has one slope
abbrev pub first_slope : Curve → ℕ
first_slope None = 0
first_slope (Straight m) = m
first_slope (FrontLoaded m₁ d m₂) = m₁
first_slope (Delayed d m) = m

abbrev pub last_slope : Curve → ℕ
last_slope None = 0
last_slope (Straight m) = m
last_slope (FrontLoaded m₁ d m₂) = m₂
last_slope (Delayed d m) = m

-- the tick at which the slope changes, or 0
abbrev pub bend_of : Curve → ℕ
bend_of None = 0
bend_of (Straight m) = 0
bend_of (FrontLoaded m₁ d m₂) = d
bend_of (Delayed d m) = d

-- a curve that is there, within the limits: it reaches every amount at last
unfoldable pub Rising : Curve → Type 0
Rising None = ⊥
Rising (Straight m) = RightRate m
Rising (FrontLoaded m₁ d m₂) = RightFront m₁ d m₂
Rising (Delayed d m) = RightDelay d m
