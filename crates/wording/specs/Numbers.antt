-- The number that a word is, as docs/FORMS.md sets it down.
-- Assumes nothing.
use Rattle.std.specs.Prelude.{ℕ, ◌+◌, ◌-◌, ◌*◌, ◌^◌, Bool, true, false, ◌&&◌, List, [], ◌∷◌, Result, Ok, Err, ltb, leb}
use Rattle.wording.specs.Words.{first, after}
use Rattle.wording.specs.declared.NumberError.{NumberError}
use Rattle.wording.specs.declared.NumberError.TheVariants.{TooLarge, NotANumber}

-- a word as a number: one of 32 bits, one past them, or none
abbrev pub Operand : Type 0
Operand = Result ℕ NumberError

-- decimal digits where the test holds, and no number where it doesn't
abbrev pub only_if : Bool → Operand → Operand
only_if true n = n
only_if false n = Err NotANumber

-- "A number past 4294967295 is not wrapped"
abbrev pub narrow_if : Bool → ℕ → Operand
narrow_if true n = Ok n
narrow_if false n = Err TooLarge

abbrev pub narrowed : ℕ → Operand
narrowed n = narrow_if (ltb n (2 ^ 32)) n

-- "decimal digits"
abbrev pub is_digit : ℕ → Bool
is_digit b = leb 48 b && leb b 57

-- the number that the digits s make after digits that made n
unfoldable pub number_from : ℕ → List ℕ → Operand
number_from n [] = narrowed n
number_from n (b ∷ s) = only_if (is_digit b) (number_from (10 * n + (b - 48)) s)

-- a word of no bytes is no number
unfoldable pub number_of : List ℕ → Operand
number_of [] = Err NotANumber
number_of (b ∷ s) = number_from 0 (b ∷ s)

-- whether it is a number, of whatever size
abbrev pub is_number : Operand → Bool
is_number (Ok n) = true
is_number (Err TooLarge) = true
is_number (Err NotANumber) = false

-- "and nothing more": a number with a further word after it is none
abbrev pub alone : List ℕ → Operand → Operand
alone [] n = n
alone (b ∷ s) n = Err NotANumber

-- the number that a text is, as its only word
unfoldable pub only_in : List ℕ → Operand
only_in text = alone (first (after text)) (number_of (first text))
