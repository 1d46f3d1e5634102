-- What a line says, as docs/FORMS.md sets it down.
-- Assumes nothing.
use Rattle.std.specs.Prelude.{ℕ, Bool, true, false, ◌&&◌, List, [], ◌∷◌, Option, None, Some, Result, Ok, Err}
use Rattle.calls.specs.declared.Call.{Call}
use Rattle.calls.specs.declared.Call.TheVariants.{Start, Arrive, Depart}
use Rattle.calls.specs.declared.LineError.{LineError}
use Rattle.calls.specs.declared.LineError.TheVariants.{NotACall}
use Rattle.calls.specs.declared.LineError.TheVariants as line
use Rattle.wording.specs.declared.NumberError.{NumberError}
use Rattle.wording.specs.declared.NumberError.TheVariants.{TooLarge, NotANumber}
use Rattle.wording.specs.Letters.{a, d, e, i, p, r, s, t, v}
use Rattle.wording.specs.Words.{uncommented, first, after, same}
use Rattle.wording.specs.Numbers.{Operand, number_of, is_number, only_in}

-- 'start', 'arrive' and 'depart'
abbrev pub start_name : List ℕ
start_name = s ∷ t ∷ a ∷ r ∷ t ∷ []

abbrev pub arrive_name : List ℕ
arrive_name = a ∷ r ∷ r ∷ i ∷ v ∷ e ∷ []

abbrev pub depart_name : List ℕ
depart_name = d ∷ e ∷ p ∷ a ∷ r ∷ t ∷ []

-- what a line says: a call or nothing, or why it is no call
abbrev pub Line : Type 0
Line = Result (Option Call) LineError

-- why a line with such a word for a number is no call
abbrev pub error_of : NumberError → LineError
error_of TooLarge = line.TooLarge
error_of NotANumber = NotACall

-- a call with its number
abbrev pub call_of : (ℕ → Line) → Operand → Line
call_of call (Ok n) = call n
call_of call (Err why) = Err (error_of why)

-- "The form is judged first"
abbrev pub in_form : Bool → Line → Line
in_form true call = call
in_form false call = Err NotACall

-- `arrive STAMP CLASS LENGTH`: the operands, and the same of the text after the name
abbrev pub arrive_of : Operand → Operand → Operand → Line
arrive_of stamp class length =
    in_form (is_number stamp && (is_number class && is_number length))
    (call_of (λ at. call_of (λ c. call_of (λ l. Ok (Some (Arrive at c l))) length) class) stamp)

unfoldable pub arrive_in : List ℕ → Line
arrive_in text = arrive_of (number_of (first text)) (number_of (first (after text))) (only_in (after (after text)))

-- a call where its name is that one
abbrev pub if_named : Bool → Line → Line → Line
if_named true call other = call
if_named false call other = other

-- which call a first word names; none is a line with nothing to do
abbrev pub named : List ℕ → List ℕ → Line
named [] rest = Ok None
named (b ∷ w) rest =
    if_named (same (b ∷ w) start_name)
    (call_of (λ n. Ok (Some (Start n))) (only_in rest))
    (if_named (same (b ∷ w) arrive_name) (arrive_in rest) (if_named (same (b ∷ w) depart_name) (call_of (λ n. Ok (Some (Depart n))) (only_in rest)) (Err NotACall)))

unfoldable pub call_in : List ℕ → Line
call_in text = named (first text) (after text)

-- what a line says
unfoldable pub said : List ℕ → Line
said text = call_in (uncommented text)
