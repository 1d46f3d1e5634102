-- A number as a word: its decimal digits, as docs/FORMS.md sets them down.
-- Assumes nothing.
use Rattle.std.specs.Prelude.{ℕ, zero, suc, ◌+◌, ◌/◌, ◌%◌, cond, List, [], ◌∷◌, ◌++◌, ltb}

-- the byte of a digit below ten
abbrev pub digit : ℕ → ℕ
digit d = 48 + d

-- the decimal digits of n, the most significant first and no zero in front, where k digits are enough
unfoldable pub digits_in : ℕ → ℕ → List ℕ
digits_in zero n = []
digits_in (suc k) n = cond (ltb n 10) (digit n ∷ []) (digits_in k (n / 10) ++ (digit (n % 10) ∷ []))

-- n has at most n + 1 digits
unfoldable pub decimal : ℕ → List ℕ
decimal n = digits_in (suc n) n
