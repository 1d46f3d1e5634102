-- A log's line is found again from its words.
-- Assumes nothing.
use Prim.Native.Nat.{ℕ, ◌/◌, ◌%◌, ◌<◌}
use mathlib.Core.Path.{◌≡◌, refl}
use mathlib.Core.Bool.{Bool, true, cond}
use mathlib.Core.List.{List, [], ◌∷◌, ◌++◌}
use native.Mathlib.Omega.{arith}
use lib.Dec.{eqb, ltb}
use lib.ListN.{get_or, drop, get_or-append}
use borrow.Author.Tests.{lt-ltb}
use Rattle.wording.specs.Letters.{a, m, o, r}
use Rattle.wording.specs.Decimal.{digit, decimal}
use Rattle.wording.proofs.Decimals.{decimal_small, decimal_more, decimal_some, by_digits}
use Rattle.tree.specs.declared.Refusal.{Refusal}
use Rattle.tree.specs.declared.Refusal.TheVariants.{ShortFile}
use Rattle.tree.specs.Numbers.{number_of}
use Rattle.print.specs.declared.Answer.{Answer}
use Rattle.print.specs.declared.Answer.TheVariants.{NoneWaits}
use Rattle.print.specs.Lines.{further, line_of}
use Rattle.print.proofs.Back.{word, number, read_colon, read_back, read_colon_lem}
use Rattle.printlog.specs.declared.LogLine.{LogLine}
use Rattle.printlog.specs.declared.LogLine.TheVariants.{Accepted, Malformed, Refused, AnotherChoice, Ours, Record}
use Rattle.printlog.specs.Lines.{log_head_of, log_words_of}

-- whether a word starts with a letter, and whether it starts with a digit, which letters and the colon come after
abbrev starts : List ℕ → ℕ → Bool
starts w letter = eqb (get_or w 0 0) letter

starts_low : List ℕ → Bool
starts_low w = ltb (get_or w 0 0) 58

first_low : (n : ℕ) → get_or (decimal n) 0 0 < 58
first_low =
    by_digits _ (λ n h. rw (decimal_small n h) (omega arith))
    (λ n h g. rw (decimal_more n h, get_or-append (decimal (n / 10)) (digit (n % 10) ∷ []) 0 0 (decimal_some (n / 10))) g)

number_low : (n : ℕ) → starts_low (decimal n) ≡ true
unfolding starts_low
number_low n = lt-ltb (get_or (decimal n) 0 0) 58 (first_low n)

-- a line names a refusal by its number, and has an answer's line in it: so both are looked for apart from the rest
abbrev pub why_in : LogLine → Refusal
why_in (Accepted records) = ShortFile
why_in (Malformed at) = ShortFile
why_in (Refused at why) = why
why_in (AnotherChoice at) = ShortFile
why_in (Ours answer) = ShortFile
why_in (Record n) = ShortFile

pub why_number : List (List ℕ) → ℕ
why_number ws = cond (starts_low (word ws 0)) 1 (cond (starts (word ws 0) r) (cond (starts (word ws 2) r) (number ws 3) 1) 1)

pub why_back : (l : LogLine) → why_number (log_head_of l ∷ log_words_of l) ≡ number_of (why_in l)
unfolding why_number starts_low
why_back (Accepted records) = refl
why_back (Malformed at) = refl
why_back (Refused at why) = read_back (number_of why)
why_back (AnotherChoice at) = refl
why_back (Ours answer) = refl
why_back (Record n) = rw (number_low n.kind)

abbrev pub answer_in : LogLine → Answer
answer_in (Accepted records) = NoneWaits
answer_in (Malformed at) = NoneWaits
answer_in (Refused at why) = NoneWaits
answer_in (AnotherChoice at) = NoneWaits
answer_in (Ours answer) = answer
answer_in (Record n) = NoneWaits

abbrev joined : List (List ℕ) → List ℕ
joined ws = word ws 0 ++ further (drop 1 ws)

pub answer_text : List (List ℕ) → List ℕ
answer_text ws = cond (starts_low (word ws 0)) (line_of NoneWaits) (cond (starts (word ws 0) o) (joined (drop 2 ws)) (line_of NoneWaits))

pub answer_back : (l : LogLine) → answer_text (log_head_of l ∷ log_words_of l) ≡ line_of (answer_in l)
unfolding answer_text starts_low line_of
answer_back (Accepted records) = refl
answer_back (Malformed at) = refl
answer_back (Refused at why) = refl
answer_back (AnotherChoice at) = refl
answer_back (Ours answer) = refl
answer_back (Record n) = rw (number_low n.kind)

-- the line of these words, where the refusal and the answer are these if it has one
pub line_in : Refusal → Answer → List (List ℕ) → LogLine
line_in why answer ws =
    cond (starts_low (word ws 0)) (Record (record { kind = number ws 0; stamp = number ws 1; class = number ws 2; length = number ws 3 }))
    (cond (starts (word ws 0) a) (Accepted (number ws 1))
    (cond (starts (word ws 0) o) (Ours answer)
    (cond (starts (word ws 2) m) (Malformed (read_colon (word ws 1)))
    (cond (starts (word ws 2) r) (Refused (read_colon (word ws 1)) why) (AnotherChoice (read_colon (word ws 1)))))))

pub line_back : (l : LogLine) → line_in (why_in l) (answer_in l) (log_head_of l ∷ log_words_of l) ≡ l
unfolding line_in starts_low
line_back (Accepted records) = simp read_back
line_back (Malformed at) = simp read_colon_lem
line_back (Refused at why) = simp read_colon_lem
line_back (AnotherChoice at) = simp read_colon_lem
line_back (Ours answer) = refl
line_back (Record n) = simp (number_low, read_back)
