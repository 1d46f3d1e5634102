-- The number that a word's digits make, as a walk over the word makes it.
-- Assumes nothing.
use Prim.Native.Nat.{ℕ, ◌+◌, ◌-◌, ◌*◌, ◌^◌, ◌≤◌, ◌<◌, min}
use native.Mathlib.Numerals.{add-one}
use native.Mathlib.Omega.{arith}
use mathlib.Core.Path.{◌≡◌, refl, ap}
use mathlib.Core.Bool.{Bool, true, false}
use mathlib.Core.List.{List, [], ◌∷◌}
use lib.Dec.{leb}
use lib.ListN.{length, get_or, drop, drop_of_length-le}
use lib.Seq.{drop-cons}
use borrow.Author.Tests.{le-ltb, leb-true, leb-false}
use Rattle.std.specs.Prelude.{Err}
use Rattle.wording.specs.declared.NumberError.TheVariants.{NotANumber}
use Rattle.wording.specs.Numbers.{only_if, narrowed, is_digit, number_from, number_of}

-- all numbers past 32 bits are the same, whatever digits follow
passed_same : (n m : ℕ) (s : List ℕ) → 2 ^ 32 ≤ n → 2 ^ 32 ≤ m → number_from n s ≡ number_from m s
unfolding number_from
passed_same n m [] h k = rw (le-ltb n (2 ^ 32) h, le-ltb m (2 ^ 32) k)
passed_same n m (b ∷ s) h k = ap (only_if (is_digit b)) (passed_same (10 * n + (b - 48)) (10 * m + (b - 48)) s (omega arith) (omega arith))

-- so 2^32 stands for each of them
pub number_capped : (n : ℕ) (s : List ℕ) → number_from n s ≡ number_from (min n (2 ^ 32)) s
number_capped n s = by (leb n (2 ^ 32)) refl
  where
    by : (t : Bool) → leb n (2 ^ 32) ≡ t → number_from n s ≡ number_from (min n (2 ^ 32)) s
    by true e = ap (λ m. number_from m s) (omega (arith, leb-true n (2 ^ 32) e))
    by false e = passed_same n (min n (2 ^ 32)) s (omega (arith, leb-false n (2 ^ 32) e)) (omega (arith, leb-false n (2 ^ 32) e))

-- a walk at i: a digit, or none
pub number_on : (n : ℕ) (s : List ℕ) (i : ℕ) → i < length s → is_digit (get_or s i 0) ≡ true
    → number_from n (drop i s) ≡ number_from (10 * n + (get_or s i 0 - 48)) (drop (i + 1) s)
unfolding number_from
number_on n s i h digit = rw (add-one, drop-cons s i 0 h, digit)

pub number_other : (n : ℕ) (s : List ℕ) (i : ℕ) → i < length s → is_digit (get_or s i 0) ≡ false → number_from n (drop i s) ≡ Err NotANumber
unfolding number_from
number_other n s i h other = rw (drop-cons s i 0 h, other)

pub number_ends : (n : ℕ) (s : List ℕ) (i : ℕ) → length s ≤ i → number_from n (drop i s) ≡ narrowed n
unfolding number_from
number_ends n s i h = rw (drop_of_length-le s h)

-- a word of some bytes is the number that its digits make after 0
pub number_some : (s : List ℕ) → (length s ≡ 0 → ⊥) → number_of s ≡ number_from 0 s
unfolding number_of
number_some [] h = absurd (h refl)
number_some (b ∷ s) h = refl

pub number_none : (s : List ℕ) → length s ≡ 0 → number_of s ≡ Err NotANumber
unfolding number_of
number_none [] h = refl
number_none (b ∷ s) h = absurd (omega arith)
