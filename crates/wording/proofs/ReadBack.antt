-- The decimal digits of a number read back as that number, and are those of no other.
-- Assumes nothing.
use Prim.Native.Nat.{ℕ, ◌+◌, ◌-◌, ◌*◌, ◌/◌, ◌%◌, ◌<◌}
use native.Mathlib.Nat.{div-add-mod, mod-lt}
use native.Mathlib.Omega.{arith}
use mathlib.Core.Path.{◌≡◌, sym, ap, ◌∙◌}
use mathlib.Core.List.{List, [], ◌∷◌, ◌++◌, append-nil, append_assoc}
use borrow.Author.Tests.{le-leb}
use Rattle.wording.specs.Numbers.{number_from}
use Rattle.wording.specs.Decimal.{digit, decimal}
use Rattle.wording.specs.Theorems.{DecimalReads, DecimalOne}
use Rattle.wording.proofs.Digits.{number_some}
use Rattle.wording.proofs.Decimals.{decimal_small, decimal_more, decimal_some, by_digits}

-- a reader of digits: each digit is added to ten times what stands before it
module _ {A : Type 0} (from : ℕ → List ℕ → A) (next : (n d : ℕ) (s : List ℕ) → d < 10 → from n (digit d ∷ s) ≡ from (10 * n + d) s) where
  -- after the digits of n it has n
  reads : (n : ℕ) (s : List ℕ) → from 0 (decimal n ++ s) ≡ from n s
  reads =
      by_digits (λ n. (s : List ℕ) → from 0 (decimal n ++ s) ≡ from n s)
      (λ n h s. rw (decimal_small n h) (next 0 n s h ∙ ap (λ m. from m s) (omega arith)))
      (λ n h g s.
      rw (decimal_more n h, append_assoc)
      (g (digit (n % 10) ∷ s) ∙ next (n / 10) (n % 10) s (mod-lt n (omega arith)) ∙ ap (λ m. from m s) (div-add-mod n 10)))

-- `number_from` is one
number_next : (n d : ℕ) (s : List ℕ) → d < 10 → number_from n (digit d ∷ s) ≡ number_from (10 * n + d) s
unfolding number_from
number_next n d s h = rw (le-leb 48 (48 + d) (omega arith), le-leb (48 + d) 57 (omega arith)) (ap (λ m. number_from m s) (omega arith))

pub decimal_reads : DecimalReads
unfolding number_from
decimal_reads n =
    number_some (decimal n) (λ e. omega (arith, decimal_some n))
    ∙ sym (ap (number_from 0) (append-nil (decimal n)))
    ∙ reads number_from number_next n []

-- and so is one that knows no limit
unfoldable pub value : ℕ → List ℕ → ℕ
value n [] = n
value n (b ∷ s) = value (10 * n + (b - 48)) s

value_next : (n d : ℕ) (s : List ℕ) → d < 10 → value n (digit d ∷ s) ≡ value (10 * n + d) s
unfolding value
value_next n d s h = ap (λ m. value m s) (omega arith)

pub value_on : (n : ℕ) (s : List ℕ) → value 0 (decimal n ++ s) ≡ value n s
value_on = reads value value_next

pub decimal_value : (n : ℕ) → value 0 (decimal n) ≡ n
unfolding value
decimal_value n = sym (ap (value 0) (append-nil (decimal n))) ∙ value_on n []

pub decimal_one : DecimalOne
decimal_one n m e = sym (decimal_value n) ∙ ap (value 0) e ∙ decimal_value m
