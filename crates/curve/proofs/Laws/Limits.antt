-- The limits of a curve's numbers, kind by kind; and that they can be tested.
-- Assumes nothing.
use Prim.Native.Nat.{ℕ, suc}
use mathlib.Core.Path.{◌≡◌, refl}
use native.Mathlib.Decide.{dec_le, map_dec}
use Rattle.curve.specs.Curves.{whole, latest_bend, Within, RightRate, RightBend, RightFront, RightDelay, RightCurve, Rising}
use Rattle.curve.specs.declared.Curve.{Curve}
use Rattle.curve.specs.declared.Curve.TheVariants.{None, Straight, FrontLoaded, Delayed}

-- a right curve of each kind
pub none_right : RightCurve None
unfolding RightCurve
none_right = tt

pub straight_right : (m : ℕ) → RightRate m → RightCurve (Straight m)
unfolding RightCurve
straight_right m r = r

pub front_right : (m₁ d m₂ : ℕ) → RightFront m₁ d m₂ → RightCurve (FrontLoaded m₁ d m₂)
unfolding RightCurve
front_right m₁ d m₂ r = r

pub delayed_right : (d m : ℕ) → RightDelay d m → RightCurve (Delayed d m)
unfolding RightCurve
delayed_right d m r = r

pub straight_limits : (m : ℕ) → RightCurve (Straight m) → RightRate m
unfolding RightCurve
straight_limits m r = r

pub front_limits : (m₁ d m₂ : ℕ) → RightCurve (FrontLoaded m₁ d m₂) → RightFront m₁ d m₂
unfolding RightCurve
front_limits m₁ d m₂ r = r

pub delayed_limits : (d m : ℕ) → RightCurve (Delayed d m) → RightDelay d m
unfolding RightCurve
delayed_limits d m r = r

-- a curve that is there, within the limits, rises
pub right_rising : (S : Curve) → RightCurve S → (S ≡ None → ⊥) → Rising S
unfolding RightCurve Rising
right_rising None r some = absurd (some refl)
right_rising (Straight m) r some = r
right_rising (FrontLoaded m₁ d m₂) r some = r
right_rising (Delayed d m) r some = r

pub straight_rising : (m : ℕ) → RightRate m → Rising (Straight m)
unfolding Rising
straight_rising m r = r

pub front_rising : (m₁ d m₂ : ℕ) → RightFront m₁ d m₂ → Rising (FrontLoaded m₁ d m₂)
unfolding Rising
front_rising m₁ d m₂ r = r

pub delayed_rising : (d m : ℕ) → RightDelay d m → Rising (Delayed d m)
unfolding Rising
delayed_rising d m r = r

-- what can be tested
pub both_decided : {A B : Type 0} → Dec A → Dec B → Dec (A × B)
both_decided (yes a) (yes b) = yes (a, b)
both_decided (yes a) (no b) = no (λ p. b p.1)
both_decided (no a) d = no (λ p. a p.0)

pub within_decided : (low high x : ℕ) → Dec (Within low high x)
within_decided low high x = map_dec (λ p. record { above = p.0; below = p.1 }) (λ w. (w.above, w.below)) (both_decided (dec_le low x) (dec_le x high))

pub rate_decided : (m : ℕ) → Dec (RightRate m)
rate_decided m = within_decided 1 whole m

bend_decided : (d : ℕ) → Dec (RightBend d)
bend_decided d = within_decided 1 latest_bend d

pub right_decided : (S : Curve) → Dec (RightCurve S)
unfolding RightCurve
right_decided None = yes tt
right_decided (Straight m) = rate_decided m
right_decided (FrontLoaded m₁ d m₂) =
    map_dec (λ p. record { first = p.0.0; bend = p.0.1; last = p.1.0; falls = p.1.1 }) (λ r. ((r.first, r.bend), (r.last, r.falls)))
    (both_decided (both_decided (rate_decided m₁) (bend_decided d)) (both_decided (rate_decided m₂) (dec_le (suc m₂) m₁)))
right_decided (Delayed d m) =
    map_dec (λ p. record { bend = p.0; rate = p.1 }) (λ r. (r.bend, r.rate)) (both_decided (bend_decided d) (rate_decided m))
