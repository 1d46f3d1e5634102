-- The decimal digits of a number, digit by digit, and how many there are.
-- Assumes nothing.
use Prim.Native.Nat.{ℕ, zero, suc, ◌/◌, ◌%◌, ◌^◌, ◌≤◌, ◌<◌}
use native.Mathlib.Nat.{div-add-mod}
use native.Mathlib.Omega.{arith}
use mathlib.Core.Path.{◌≡◌, refl, sym, ap, ◌∙◌}
use mathlib.Core.Bool.{Bool, true, false}
use mathlib.Core.List.{[], ◌∷◌, ◌++◌}
use lib.Dec.{ltb}
use lib.ListN.{length, length-append}
use borrow.Author.Tests.{lt-ltb, le-ltb, ltb-true, ltb-false}
use Rattle.wording.specs.Decimal.{digit, digits_in, decimal}

-- a number has one digit or more
pub one_or_more : {P : Type 0} (n : ℕ) → (n < 10 → P) → (10 ≤ n → P) → P
one_or_more {P} n one more = by (ltb n 10) refl
  where
    by : (t : Bool) → ltb n 10 ≡ t → P
    by true e = one (ltb-true n 10 e)
    by false e = more (ltb-false n 10 e)

-- a number of two digits or more is larger than what its last digit leaves
pub tenth_less : (n : ℕ) → 10 ≤ n → n / 10 < n
tenth_less n h = omega (arith, div-add-mod n 10)

module _ (k n : ℕ) where
  digits_small : n < 10 → digits_in (suc k) n ≡ digit n ∷ []
  unfolding digits_in
  digits_small h = rw (lt-ltb n 10 h)

  digits_more : 10 ≤ n → digits_in (suc k) n ≡ digits_in k (n / 10) ++ (digit (n % 10) ∷ [])
  unfolding digits_in
  digits_more h = rw (le-ltb n 10 h)

-- more digits than enough are as good as enough
enough : (k j n : ℕ) → n ≤ k → n ≤ j → digits_in (suc k) n ≡ digits_in (suc j) n
enough zero j n h g = digits_small zero n (omega arith) ∙ sym (digits_small j n (omega arith))
enough (suc k) zero n h g = digits_small (suc k) n (omega arith) ∙ sym (digits_small zero n (omega arith))
enough (suc k) (suc j) n h g =
    one_or_more n
    (λ one. digits_small (suc k) n one ∙ sym (digits_small (suc j) n one))
    (λ more.
    let less = tenth_less n more in
    digits_more (suc k) n more ∙ ap (λ s. s ++ (digit (n % 10) ∷ [])) (enough k j (n / 10) (omega arith) (omega arith)) ∙ sym (digits_more (suc j) n more))

-- a number below ten is its digit; any other is the digits of its tenth part and its last digit
pub decimal_small : (n : ℕ) → n < 10 → decimal n ≡ digit n ∷ []
unfolding decimal
decimal_small n h = digits_small n n h

pub decimal_more : (n : ℕ) → 10 ≤ n → decimal n ≡ decimal (n / 10) ++ (digit (n % 10) ∷ [])
unfolding decimal
decimal_more zero h = absurd (omega arith)
decimal_more (suc n) h =
    digits_more (suc n) (suc n) h
    ∙ ap (λ s. s ++ (digit (suc n % 10) ∷ [])) (enough n (suc n / 10) (suc n / 10) (omega (arith, tenth_less (suc n) h)) (omega arith))

-- so what holds of the numbers below ten, and of a number where it holds of its tenth part, holds of all
module _ (Good : ℕ → Type 0) (small : (n : ℕ) → n < 10 → Good n) (more : (n : ℕ) → 10 ≤ n → Good (n / 10) → Good n) where
  below : (k n : ℕ) → n ≤ k → Good n
  below zero n h = small n (omega arith)
  below (suc k) n h = one_or_more n (small n) (λ g. more n g (below k (n / 10) (omega (arith, tenth_less n g))))

  pub by_digits : (n : ℕ) → Good n
  by_digits n = below n n (omega arith)

-- a number below ten to the k has at most k digits
pub decimal_length : (k n : ℕ) → n < 10 ^ suc k → length (decimal n) ≤ suc k
decimal_length zero n h = rw (decimal_small n (omega arith)) (omega arith)
decimal_length (suc k) n h =
    one_or_more n
    (λ one. rw (decimal_small n one) (omega arith))
    (λ more. rw (decimal_more n more, length-append) (omega (arith, decimal_length k (n / 10) (omega (arith, div-add-mod n 10)))))

-- a number of 64 bits has at most 20
pub decimal_room : (n : ℕ) → n < 2 ^ 64 → length (decimal n) ≤ 20
decimal_room n h = decimal_length 19 n (omega arith)

-- there is a digit
pub decimal_some : (n : ℕ) → 0 < length (decimal n)
decimal_some = by_digits _ (λ n h. rw (decimal_small n h) (omega arith)) (λ n h g. rw (decimal_more n h, length-append) (omega arith))
