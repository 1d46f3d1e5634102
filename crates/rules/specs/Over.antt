-- What is asked of all classes below a number: whether one of them is meant, and the smallest and the largest of their values.
-- Assumes nothing.
use Rattle.std.specs.Prelude.{ℕ, zero, suc, min, max, Bool, false, cond, ◌||◌}

-- one of the numbers below n is meant
unfoldable pub any_of : ℕ → (ℕ → Bool) → Bool
any_of zero meant = false
any_of (suc n) meant = meant n || any_of n meant

-- the largest value of those that are meant, or 0
unfoldable pub largest_of : ℕ → (ℕ → Bool) → (ℕ → ℕ) → ℕ
largest_of zero meant value = 0
largest_of (suc n) meant value = cond (meant n) (max (value n) (largest_of n meant value)) (largest_of n meant value)

-- the smallest value of those that are meant, or 0 where none is
unfoldable pub smallest_of : ℕ → (ℕ → Bool) → (ℕ → ℕ) → ℕ
smallest_of zero meant value = 0
smallest_of (suc n) meant value =
    cond (meant n) (cond (any_of n meant) (min (value n) (smallest_of n meant value)) (value n)) (smallest_of n meant value)
