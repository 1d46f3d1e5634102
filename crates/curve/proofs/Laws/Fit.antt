-- Fit: it is enough to look at the bends and at the sum of the last slopes, and both are needed. Between two neighbouring bends every curve is
-- straight; past the last bend the last slopes decide.
-- Assumes nothing.
use Prim.Native.Nat.{ℕ, zero, suc, ◌+◌, ◌-◌, ◌*◌, ◌≤◌, ◌<◌, min, max}
use mathlib.Core.Bool.{Bool, true, false}
use mathlib.Core.Path.{◌≡◌, refl, ap}
use mathlib.Core.List.{List, [], ◌∷◌}
use mathlib.Core.Logic.{◌⊎◌, inl, inr, ⊎_elim}
use native.Mathlib.Nat.{mul-le-mul_left, mul-le-mul_right, le_trans, le_refl, le_of_lt}
use native.Mathlib.Omega.{arith}
use native.Mathlib.Numerals.{add-one}
use lib.ListN.{length, get_or}
use Rattle.std.specs.Bool.{MatchBool}
use Rattle.std.specs.List.{AllWithin, HoldsAt}
use Rattle.curve.specs.Answers.{Exactly}
use Rattle.curve.specs.Curves.{whole, amount, in_parts, last_slope, bend_of}
use Rattle.curve.specs.Fit.{sum_of, total, CurvesFit, slopes}
use Rattle.curve.specs.declared.Curve.{Curve}
use Rattle.curve.specs.declared.Curve.TheVariants.{None, Straight, FrontLoaded, Delayed}
use Rattle.curve.proofs.Laws.Answers.{exactly_iff}
use Rattle.curve.proofs.Laws.Order.{le_or_lt}
use Rattle.curve.proofs.Laws.Amount.{amount_zero}
use Rattle.curve.proofs.Laws.Sum.{sum_zero}

-- a property of every bend
unfoldable pub EveryBend : (ℕ → Type 0) → List Curve → Type 0
EveryBend P [] = Unit {0}
EveryBend P (S ∷ Ss) = P (bend_of S) × EveryBend P Ss

-- no bend lies between t and e
Clear : ℕ → ℕ → Curve → Type 0
Clear t e S = (bend_of S ≤ t) ⊎ (e ≤ bend_of S)

EveryClear : ℕ → ℕ → List Curve → Type 0
EveryClear t e [] = Unit {0}
EveryClear t e (S ∷ Ss) = Clear t e S × EveryClear t e Ss

-- after t there is no bend, or there is a first
data Next (P : ℕ → Type 0) (t : ℕ) (Ss : List Curve) : Type 0 where
  never : EveryBend (λ b. b ≤ t) Ss → Next P t Ss
  first : (e : ℕ) → t < e → P e → EveryClear t e Ss → Next P t Ss

never_clear : (t e : ℕ) (Ss : List Curve) → EveryBend (λ b. b ≤ t) Ss → EveryClear t e Ss
unfolding EveryBend EveryClear Clear
never_clear t e [] h = tt
never_clear t e (S ∷ Ss) h = (inl h.0, never_clear t e Ss h.1)

clear_sooner : (t : ℕ) {e e' : ℕ} → e' ≤ e → (Ss : List Curve) → EveryClear t e Ss → EveryClear t e' Ss
unfolding EveryClear Clear
clear_sooner t l [] h = tt
clear_sooner t l (S ∷ Ss) h = (⊎_elim inl (λ k. inr (le_trans l k)) h.0, clear_sooner t l Ss h.1)

next : (P : ℕ → Type 0) (t : ℕ) (Ss : List Curve) → EveryBend P Ss → Next P t Ss
unfolding EveryBend EveryClear Clear
next P t [] h = never tt
next P t (S ∷ Ss) h = at (le_or_lt (bend_of S) t) (next P t Ss h.1)
  where
    nearer : (t < bend_of S) → (e : ℕ) → t < e → P e → EveryClear t e Ss → (bend_of S ≤ e) ⊎ (e < bend_of S) → Next P t (S ∷ Ss)
    nearer l e l' p c (inl s) = first (bend_of S) l h.0 (inr (le_refl (bend_of S)), clear_sooner t s Ss c)
    nearer l e l' p c (inr s) = first e l' p (inr (le_of_lt s), c)

    at : (bend_of S ≤ t) ⊎ (t < bend_of S) → Next P t Ss → Next P t (S ∷ Ss)
    at (inl l) (never n) = never (l, n)
    at (inl l) (first e l' p c) = first e l' p (inl l, c)
    at (inr l) (never n) = first (bend_of S) l h.0 (inr (le_refl (bend_of S)), never_clear t (bend_of S) Ss n)
    at (inr l) (first e l' p c) = nearer l e l' p c (le_or_lt (bend_of S) e)

-- between t and e a growing number is straight
record StraightOn (f : ℕ → ℕ) (t e : ℕ) : Type 0 where
  slope : ℕ
  on : (x : ℕ) → t ≤ x → x ≤ e → f x ≡ f t + slope * (x - t)

-- where no bend lies between, a curve is straight
clear_straight : (S : Curve) (t e : ℕ) → Clear t e S → StraightOn (amount S) t e
unfolding Clear amount
clear_straight None t e c = record { slope = 0; on = λ x l l'. omega arith }
clear_straight (Straight m) t e c =
    record { slope = m; on = λ x l l'. let q : x ≡ t + (x - t) = omega arith in omega (arith, ap (λ z. m * z) q) }
clear_straight (FrontLoaded m₁ d m₂) t e (inl b) =
    record {
      slope = m₂;
      on = λ x l l'.
          let q : x - d ≡ (t - d) + (x - t) = omega arith in
          let at_x : min x d ≡ d = omega arith in
          let at-t : min t d ≡ d = omega arith in
          omega (arith, ap (λ z. m₂ * z) q, ap (λ z. m₁ * z) at_x, ap (λ z. m₁ * z) at-t);
    }
clear_straight (FrontLoaded m₁ d m₂) t e (inr b) =
    record {
      slope = m₁;
      on = λ x l l'.
          let q : min x d ≡ min t d + (x - t) = omega arith in
          let at_x : x - d ≡ 0 = omega arith in
          let at-t : t - d ≡ 0 = omega arith in
          omega (arith, ap (λ z. m₁ * z) q, ap (λ z. m₂ * z) at_x, ap (λ z. m₂ * z) at-t);
    }
clear_straight (Delayed d m) t e (inl b) =
    record { slope = m; on = λ x l l'. let q : x - d ≡ (t - d) + (x - t) = omega arith in omega (arith, ap (λ z. m * z) q) }
clear_straight (Delayed d m) t e (inr b) =
    record { slope = 0; on = λ x l l'. let q : x - d ≡ t - d = omega arith in omega (arith, ap (λ z. m * z) q) }

-- a sum of straight numbers is straight
sum_straight : (Ss : List Curve) (t e : ℕ) → EveryClear t e Ss → StraightOn (total Ss) t e
unfolding EveryClear sum_of
sum_straight [] t e c = record { slope = 0; on = λ x l l'. omega arith }
sum_straight (S ∷ Ss) t e c =
    let one = clear_straight S t e c.0 in
    let rest = sum_straight Ss t e c.1 in
    record { slope = one.slope + rest.slope; on = λ x l l'. omega (arith, one.on x l l', rest.on x l l') }

-- past its bend a curve grows by its last slope
past_bend : (S : Curve) (t : ℕ) → bend_of S ≤ t → amount S (t + 1) ≡ amount S t + last_slope S
unfolding amount
past_bend None t b = refl
past_bend (Straight m) t b = omega arith
past_bend (FrontLoaded m₁ d m₂) t b =
    let q : t + 1 - d ≡ t - d + 1 = omega arith in
    let r : min (t + 1) d ≡ min t d = omega arith in
    omega (arith, ap (λ z. m₂ * z) q, ap (λ z. m₁ * z) r)
past_bend (Delayed d m) t b = let q : t + 1 - d ≡ t - d + 1 = omega arith in omega (arith, ap (λ z. m * z) q)

past_bends : (Ss : List Curve) (t : ℕ) → EveryBend (λ b. b ≤ t) Ss → total Ss (t + 1) ≡ total Ss t + slopes Ss
unfolding EveryBend sum_of
past_bends [] t h = refl
past_bends (S ∷ Ss) t h = omega (arith, past_bend S t h.0, past_bends Ss t h.1)

-- the bends and the last slopes are enough
pub bends_enough : (Ss : List Curve) → EveryBend (λ b. total Ss b ≤ in_parts b) Ss → slopes Ss ≤ whole → CurvesFit Ss
unfolding CurvesFit
bends_enough Ss bends last = fit
  where
    step : (t : ℕ) → total Ss t ≤ in_parts t → Next (λ b. total Ss b ≤ in_parts b) t Ss → total Ss (t + 1) ≤ in_parts (t + 1)
    step t h (never n) = omega (arith, past_bends Ss t n)
    step t h (first e l p c) = at (le_or_lt line.slope whole)
      where
        line : StraightOn (total Ss) t e
        line = sum_straight Ss t e c

        one : total Ss (t + 1) ≡ total Ss t + line.slope * (t + 1 - t)
        one = line.on (t + 1) (omega arith) (omega arith)

        end : total Ss e ≡ total Ss t + line.slope * (e - t)
        end = line.on e (omega arith) (omega arith)

        k : ℕ
        k = e - (t + 1)

        at : (line.slope ≤ whole) ⊎ (whole < line.slope) → total Ss (t + 1) ≤ in_parts (t + 1)
        at (inl s) = let q : t + 1 - t ≡ 1 = omega arith in omega (arith, one, ap (λ z. line.slope * z) q)
        at (inr s) =
            let q : t + 1 - t ≡ 1 = omega arith in
            let r : e - t ≡ 1 + k = omega arith in
            omega (arith, one, end, ap (λ z. line.slope * z) q, ap (λ z. line.slope * z) r, mul-le-mul_right k (le_of_lt s))

    fit : (t : ℕ) → total Ss t ≤ in_parts t
    fit zero = omega (arith, sum_zero (λ S. amount S 0) amount_zero Ss)
    fit (suc t) = rw (← add-one t) (step t (fit t) (next (λ b. total Ss b ≤ in_parts b) t Ss bends))

-- a tick that no bend passes
top : List Curve → ℕ
top [] = 0
top (S ∷ Ss) = max (bend_of S) (top Ss)

last_grows : (S : Curve) (d x : ℕ) → bend_of S ≤ d → last_slope S * x ≤ amount S (d + x)
unfolding amount
last_grows None d x b = omega arith
last_grows (Straight m) d x b = mul-le-mul_left m (omega arith)
last_grows (FrontLoaded m₁ d' m₂) d x b = omega (arith, mul-le-mul_left {m = x} {n = d + x - d'} m₂ (omega arith))
last_grows (Delayed d' m) d x b = mul-le-mul_left m (omega arith)

lasts_grow : (Ss : List Curve) (d x : ℕ) → top Ss ≤ d → slopes Ss * x ≤ total Ss (d + x)
unfolding top sum_of
lasts_grow [] d x b = omega arith
lasts_grow (S ∷ Ss) d x b = omega (arith, last_grows S d x (omega arith), lasts_grow Ss d x (omega arith))

-- curves whose last slopes are too steep pass the link's rate in the end
pub slopes_needed : (Ss : List Curve) → CurvesFit Ss → slopes Ss ≤ whole
unfolding CurvesFit
slopes_needed Ss fit = ⊎_elim (λ h. h) (λ h. absurd (late h)) (le_or_lt (slopes Ss) whole)
  where
    late : whole < slopes Ss → ⊥
    late h =
        let d = top Ss in
        let x = whole * d + 1 in
        omega (arith, fit (d + x), lasts_grow Ss d x (le_refl d), mul-le-mul_right {m = suc whole} {n = slopes Ss} x h)

-- curves that fit, at each tick and at one
pub fit_each : (Ss : List Curve) → ((t : ℕ) → total Ss t ≤ in_parts t) → CurvesFit Ss
unfolding CurvesFit
fit_each Ss each = each

pub fit_at : (Ss : List Curve) → CurvesFit Ss → (t : ℕ) → total Ss t ≤ in_parts t
unfolding CurvesFit
fit_at Ss fit t = fit t

-- what holds at each curve's bend holds at every bend
pub every_bend : (P : ℕ → Type 0) (Ss : List Curve) → ((k : ℕ) → k < length Ss → P (bend_of (get_or Ss k None))) → EveryBend P Ss
unfolding EveryBend
every_bend P [] h = tt
every_bend P (S ∷ Ss) h = (h 0 (omega arith), every_bend P Ss (λ k l. h (suc k) (omega arith)))

-- what a walk over the curves tells of a fact of each bend: that it holds at every one, or a curve at whose bend it does not
abbrev pub ToldBends : (ℕ → Type 0) → List Curve → Bool → Type 0
ToldBends P Ss all =
    MatchBool all (AllWithin (λ S. P (bend_of S)) Ss 0 (length Ss)) ((k : ℕ) × (k < length Ss) × HoldsAt (λ S. P (bend_of S) → ⊥) Ss k)

-- where the curves fit at every bend, the last slopes tell whether they fit
pub told_all : (Ss : List Curve) (all last : Bool) → ToldBends (λ b. total Ss b ≤ in_parts b) Ss all → all ≡ true → Exactly last (slopes Ss ≤ whole)
    → Exactly last (CurvesFit Ss)
told_all Ss true last h e = exactly_iff last (bends_enough Ss (every_bend _ Ss (λ k l. h k None (omega arith) l))) (slopes_needed Ss)
told_all Ss false last h e = cc

-- and where they do not at one, they do not fit
pub told_one : (Ss : List Curve) (all : Bool) → ToldBends (λ b. total Ss b ≤ in_parts b) Ss all → all ≡ false → Exactly all (CurvesFit Ss)
told_one Ss true h e = cc
told_one Ss false h e = λ fit. h.2 None (fit_at Ss fit _)
