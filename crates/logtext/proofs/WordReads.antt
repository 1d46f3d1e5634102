-- A word, up to a byte that no word has, shows the number that it is.
-- Assumes nothing.
use Rattle.std.proofs.Common.{◌≡◌, ℕ, ◌+◌, ◌-◌, ◌*◌, Bool, true, false, cond, List, [], ◌∷◌, ◌++◌, None, Ok, refl, ◌∙◌, arith}
use mathlib.Core.Bool.{and-true}
use Rattle.wording.specs.Words.{is_plain, every, Plain}
use Rattle.wording.specs.Numbers.{Operand, only_if, is_digit, number_from, number_of}
use Rattle.std.proofs.lemmas.Bool.{and_parts}
use Rattle.wording.proofs.Digits.{number_capped}
use Rattle.logtext.specs.declared.Kind.TheVariants.{Digit, Other}
use Rattle.logtext.specs.declared.Scan.{Scan}
use Rattle.logtext.specs.Scans.{Seen, not_a_number, kind_of, shown, shown_between, shown_in, seen_at, longer, between, in_number, onward, stepped}
use Rattle.logtext.specs.Texts.{is_no_error, numbers_of, is_well}
use Rattle.logtext.specs.Theorems.{WordShown, WordReads}
use Rattle.logtext.proofs.WordBytes.{plain_kind, ends_number}

-- a byte that shows nothing yet, one that is an error, and the last
shows_on : {scan : Scan} {b : ℕ} {s : List ℕ} {seen : Seen} → seen_at scan b ≡ Ok None → WordShown (stepped scan b) s seen → WordShown scan (b ∷ s) seen
unfolding numbers_of is_well
shows_on e p = record { numbers = rw e p.numbers; well = rw e p.well }

shows_error : {scan : Scan} {b : ℕ} {s : List ℕ} → seen_at scan b ≡ not_a_number → WordShown scan (b ∷ s) not_a_number
unfolding numbers_of is_well
shows_error e = record { numbers = rw e; well = rw e }

shows_last : {scan : Scan} {b : ℕ} {seen : Seen} → seen_at scan b ≡ seen → WordShown scan (b ∷ []) seen
unfolding numbers_of is_well
shows_last {seen = seen} e = record { numbers = rw e; well = rw e (and-true (is_no_error seen)) }

-- a scan on a line that goes on as after digits that make n, as long as the word lasts
pub record Ready (line n : ℕ) (scan : Scan) : Type 0 where
  pub shows : (b : ℕ) → is_plain b ≡ true → seen_at scan b ≡ shown_in n (kind_of b)
  pub leads : (b : ℕ) → stepped scan b ≡ onward line n (kind_of b)

pub in_number_lem : (line n : ℕ) → Ready line n (in_number line n)
unfolding seen_at stepped
in_number_lem line n = record { shows = λ b h. refl; leads = λ b. refl }

starts : (digit : Bool) (d : ℕ) → shown_between (cond digit (Digit d) Other) ≡ shown_in 0 (cond digit (Digit d) Other)
starts true d = refl
starts false d = refl

pub at_start : (line : ℕ) → Ready line 0 (between line)
unfolding seen_at stepped
at_start line = record { shows = λ b h. rw (plain_kind b h) (starts (is_digit b) (b - 48)); leads = λ b. refl }

-- a byte of a word, where the word goes on so after a digit
module _ (line n : ℕ) (scan : Scan) (b : ℕ) (s : List ℕ) (number : Operand) where
  by_digit : (digit : Bool) → seen_at scan b ≡ shown_in n (cond digit (Digit (b - 48)) Other) → stepped scan b ≡ onward line n (cond digit (Digit (b - 48)) Other)
      → WordShown (in_number line (longer n (b - 48))) s (shown number) → WordShown scan (b ∷ s) (shown (only_if digit number))
  by_digit true e l p = shows_on e (rw l p)
  by_digit false e l p = shows_error e

-- so the word shows the number that its digits make; 2^32 stands for each that is too large
module _ (line n : ℕ) (scan : Scan) (ready : Ready line n scan) (b : ℕ) (s rest : List ℕ) where
  byte_reads : is_plain b ≡ true → WordShown (in_number line (longer n (b - 48))) rest (shown (number_from (longer n (b - 48)) s)) → WordShown scan (b ∷ rest) (shown (number_from n (b ∷ s)))
  unfolding number_from longer
  byte_reads h p =
      by_digit line n scan b rest (number_from (10 * n + (b - 48)) s) (is_digit b) (ready.shows b h ∙ rw (plain_kind b h)) (ready.leads b ∙ rw (plain_kind b h))
      (rw (number_capped (10 * n + (b - 48)) s) p)

digits_read : (line end : ℕ) → is_plain end ≡ false → (n : ℕ) (s : List ℕ) → Plain s → WordShown (in_number line n) (s ++ (end ∷ [])) (shown (number_from n s))
unfolding number_from seen_at
digits_read line end ends n [] h = shows_last (ends_number end n ends)
digits_read line end ends n (b ∷ s) h =
    let (plain, others) = and_parts (is_plain b) (every is_plain s) h in
    byte_reads line n (in_number line n) (in_number_lem line n) b s (s ++ (end ∷ [])) plain (digits_read line end ends (longer n (b - 48)) s others)

pub word_reads : WordReads
unfolding number_of
word_reads line [] end h some ends = absurd (omega arith)
word_reads line (b ∷ s) end h some ends =
    let (plain, others) = and_parts (is_plain b) (every is_plain s) h in
    byte_reads line 0 (between line) (at_start line) b s (s ++ (end ∷ [])) plain (digits_read line end ends (longer 0 (b - 48)) s others)
