-- Sums over a list of curves.
-- Assumes nothing.
use Prim.Native.Nat.{ℕ, zero, suc, ◌+◌, ◌*◌, ◌≤◌, ◌<◌}
use mathlib.Core.Path.{◌≡◌, refl}
use mathlib.Core.List.{List, [], ◌∷◌}
use native.Mathlib.Nat.{zero-mul}
use native.Mathlib.Omega.{arith}
use native.Mathlib.Numerals.{add-one}
use lib.ListN.{length, get_or, take}
use lib.Seq.{take_all}
use Rattle.curve.specs.Fit.{sum_of}
use Rattle.curve.specs.declared.Curve.{Curve}
use Rattle.curve.specs.declared.Curve.TheVariants.{None}

-- the sum of no curves, and with one curve more
pub sum_none : (f : Curve → ℕ) → sum_of f [] ≡ 0
unfolding sum_of
sum_none f = refl

pub sum_more : (f : Curve → ℕ) (S : Curve) (Ss : List Curve) → sum_of f (S ∷ Ss) ≡ f S + sum_of f Ss
unfolding sum_of
sum_more f S Ss = refl

-- each is at most its fellow, so the sums are
pub sum_le : (f g : Curve → ℕ) → ((S : Curve) → f S ≤ g S) → (Ss : List Curve) → sum_of f Ss ≤ sum_of g Ss
unfolding sum_of
sum_le f g h [] = omega arith
sum_le f g h (S ∷ Ss) = omega (arith, h S, sum_le f g h Ss)

-- a factor comes out of a sum
pub sum_scaled : (f : Curve → ℕ) (x : ℕ) (Ss : List Curve) → sum_of (λ S. f S * x) Ss ≡ sum_of f Ss * x
unfolding sum_of
sum_scaled f x [] = omega (arith, zero-mul x)
sum_scaled f x (S ∷ Ss) = omega (arith, sum_scaled f x Ss)

pub sum_zero : (f : Curve → ℕ) → ((S : Curve) → f S ≡ 0) → (Ss : List Curve) → sum_of f Ss ≡ 0
unfolding sum_of
sum_zero f h [] = refl
sum_zero f h (S ∷ Ss) = omega (arith, h S, sum_zero f h Ss)

-- what the first i have
pub sum_take_le : (f : Curve → ℕ) (i : ℕ) (Ss : List Curve) → sum_of f (take i Ss) ≤ sum_of f Ss
unfolding sum_of
sum_take_le f zero Ss = omega arith
sum_take_le f (suc i) [] = omega arith
sum_take_le f (suc i) (S ∷ Ss) = omega (arith, sum_take_le f i Ss)

sum_take_suc : (f : Curve → ℕ) (i : ℕ) (Ss : List Curve) → i < length Ss → sum_of f (take (suc i) Ss) ≡ sum_of f (take i Ss) + f (get_or Ss i None)
unfolding sum_of
sum_take_suc f zero [] h = absurd (omega arith)
sum_take_suc f zero (S ∷ Ss) h = omega arith
sum_take_suc f (suc i) [] h = absurd (omega arith)
sum_take_suc f (suc i) (S ∷ Ss) h = omega (arith, sum_take_suc f i Ss (omega arith))

pub sum_take_more : (f : Curve → ℕ) (i : ℕ) (Ss : List Curve) → i < length Ss → sum_of f (take (i + 1) Ss) ≡ sum_of f (take i Ss) + f (get_or Ss i None)
sum_take_more f i Ss h = rw add-one (sum_take_suc f i Ss h)

-- a walk over curves that takes from a number what each of them has, while enough is left
pub record Walk (f : Curve → ℕ) (Ss : List Curve) (all left i : ℕ) : Type 0 where
  pub place : i ≤ length Ss
  pub made : left + sum_of f (take i Ss) ≡ all

module _ (f : Curve → ℕ) (Ss : List Curve) (all : ℕ) where
  pub walk_start : Walk f Ss all all 0
  unfolding sum_of
  walk_start = record { place = omega arith; made = omega arith }

  pub walk_on : {left rest i : ℕ} → Walk f Ss all left i → i < length Ss → rest + f (get_or Ss i None) ≡ left → Walk f Ss all rest (i + 1)
  walk_on {i = i} w l h = record { place = omega arith; made = omega (arith, w.made, sum_take_more f i Ss l) }

  pub walk_short : {left i : ℕ} → Walk f Ss all left i → i < length Ss → left < f (get_or Ss i None) → sum_of f Ss ≤ all → ⊥
  walk_short {i = i} w l h s = omega (arith, w.made, sum_take_more f i Ss l, sum_take_le f (i + 1) Ss)

  pub walk_end : {left i : ℕ} → Walk f Ss all left i → length Ss ≤ i → sum_of f Ss ≤ all
  walk_end {i = i} w l =
      let h : sum_of f (take i Ss) ≤ all = omega (arith, w.made) in
      rw (take_all i Ss l) at h
