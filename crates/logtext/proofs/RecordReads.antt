-- The line of a record reads as its four numbers.
-- Assumes nothing.
use Rattle.std.proofs.Common.{◌≡◌, ℕ, ◌-◌, ◌^◌, ◌<◌, Bool, true, false, cond, List, [], ◌∷◌, ◌++◌, Ok, refl, ◌∙◌, append_assoc, lt-ltb}
use Rattle.wording.specs.Letters.{space, line_feed}
use Rattle.wording.specs.Words.{is_plain, every, Plain}
use Rattle.wording.specs.Decimal.{decimal}
use Rattle.wording.specs.Numbers.{is_digit, number_of}
use Rattle.std.proofs.lemmas.Bool.{and_parts}
use Rattle.wording.proofs.Plain.{decimal_plain}
use Rattle.wording.proofs.Decimals.{decimal_some}
use Rattle.wording.proofs.ReadBack.{decimal_reads}
use Rattle.logtext.specs.declared.Kind.TheVariants.{Digit, Other}
use Rattle.logtext.specs.declared.Scan.{Scan}
use Rattle.logtext.specs.Scans.{kind_of, between, next_line, onward, stepped}
use Rattle.logtext.specs.Texts.{scan_over}
use Rattle.logtext.specs.Theorems.{Reads, RecordReads}
use Rattle.logtext.proofs.WordBytes.{plain_kind}
use Rattle.logtext.proofs.Turns.{in_turns, reads_then}
use Rattle.logtext.proofs.WordReads.{in_number_lem, at_start, word_reads}

-- a scan on a line, in a word or before it
record OnLine (line : ℕ) (scan : Scan) : Type 0 where
  n : ℕ
  leads : (b : ℕ) → stepped scan b ≡ onward line n (kind_of b)

-- and so it is after a byte of the word
still : (line n d : ℕ) (digit : Bool) → OnLine line (onward line n (cond digit (Digit d) Other))
still line n d true = record { n = _; leads = (in_number_lem line _).leads }
still line n d false = record { n = 0; leads = (at_start line).leads }

over_word_lem : (line : ℕ) (scan : Scan) (word : List ℕ) → Plain word → OnLine line scan → OnLine line (scan_over scan word)
unfolding scan_over
over_word_lem line scan [] h on = on
over_word_lem line scan (b ∷ s) h on =
    let (plain, others) = and_parts (is_plain b) (every is_plain s) h in
    over_word_lem line (stepped scan b) s others (rw (on.leads b, plain_kind b plain) (still line on.n (b - 48) (is_digit b)))

-- a number and the byte after it, where that leads the same way after any number
module _ (line n end : ℕ) (after : Scan) (small : n < 2 ^ 32) (ends : is_plain end ≡ false) (leads : (m : ℕ) → onward line m (kind_of end) ≡ after) where
  number_reads : Reads (between line) (decimal n ++ (end ∷ [])) (n ∷ []) after
  unfolding scan_over
  number_reads =
      let read : number_of (decimal n) ≡ Ok n = decimal_reads n ∙ rw (lt-ltb n (2 ^ 32) small) in
      let shows = word_reads line (decimal n) end (decimal_plain n) (decimal_some n) ends in
      let on = over_word_lem line (between line) (decimal n) (decimal_plain n) (record { n = 0; leads = (at_start line).leads }) in
      record {
        numbers = shows.numbers ∙ rw read;
        well = shows.well ∙ rw read;
        over = (in_turns (between line) (decimal n) (end ∷ [])).over ∙ on.leads end ∙ leads on.n;
      }

-- with a space before what comes after it, and as the last of its line
spaced : {line : ℕ} {rest ns : List ℕ} {after : Scan} (n : ℕ) → n < 2 ^ 32 → Reads (between line) rest ns after → Reads (between line) (decimal n ++ (space ∷ rest)) (n ∷ ns) after
unfolding kind_of
spaced {line} {rest} n small p =
    rw (← append_assoc (decimal n) (space ∷ []) rest) (reads_then (number_reads line n space (between line) small refl (λ m. refl)) p)

ended : {line : ℕ} (n : ℕ) → n < 2 ^ 32 → Reads (between line) (decimal n ++ (line_feed ∷ [])) (n ∷ []) (between (next_line line))
unfolding kind_of
ended {line} n small = number_reads line n line_feed (between (next_line line)) small refl (λ m. refl)

pub record_reads : RecordReads
record_reads line a b c d ha hb hc hd = spaced a ha (spaced b hb (spaced c hc (ended d hd)))
