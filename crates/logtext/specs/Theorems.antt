-- What is proved of the text of a log. Each statement stands here under a name; a comment names the law of proofs/ that proves it.
-- Assumes nothing.
use Rattle.std.specs.Prelude.{◌≡◌, ℕ, zero, suc, ◌*◌, ◌^◌, ◌<◌, true, false, ◌&&◌, List, [], ◌∷◌, ◌++◌, length}
use Rattle.wording.specs.Letters.{space, line_feed}
use Rattle.wording.specs.Words.{Plain, is_plain}
use Rattle.wording.specs.Decimal.{decimal}
use Rattle.wording.specs.Numbers.{number_of}
use Rattle.logtext.specs.declared.Scan.{Scan}
use Rattle.logtext.specs.Scans.{Seen, shown, next_line, between}
use Rattle.logtext.specs.Texts.{with_seen, is_no_error, numbers_of, scan_over, is_well}

-- a text that comes in turns is scanned as it would be whole: `in_turns`
pub record InTurn (scan : Scan) (a b : List ℕ) : Type 0 where
  pub over : scan_over scan (a ++ b) ≡ scan_over (scan_over scan a) b
  pub well : is_well scan (a ++ b) ≡ (is_well scan a && is_well (scan_over scan a) b)
  pub numbers : is_well scan a ≡ true → numbers_of scan (a ++ b) ≡ numbers_of scan a ++ numbers_of (scan_over scan a) b

abbrev pub InTurns : Type 0
InTurns = (scan : Scan) (a b : List ℕ) → InTurn scan a b

-- all that the bytes show is that one number, or that one word that is none
pub record WordShown (scan : Scan) (bytes : List ℕ) (seen : Seen) : Type 0 where
  pub numbers : numbers_of scan bytes ≡ with_seen seen []
  pub well : is_well scan bytes ≡ is_no_error seen

-- a word, with a byte after it that no word has, shows the number that the word is, and is an error exactly where it is no number of 32 bits: `word_reads`
abbrev pub WordReads : Type 0
WordReads =
    (line : ℕ) (word : List ℕ) (end : ℕ) → Plain word → 0 < length word → is_plain end ≡ false
    → WordShown (between line) (word ++ (end ∷ [])) (shown (number_of word))

-- the bytes have no error, show those numbers, and lead to that scan
pub record Reads (scan : Scan) (bytes ns : List ℕ) (after : Scan) : Type 0 where
  pub numbers : numbers_of scan bytes ≡ ns
  pub well : is_well scan bytes ≡ true
  pub over : scan_over scan bytes ≡ after

-- the line of a record, as `replay --log` prints it
abbrev pub record_text : ℕ → ℕ → ℕ → ℕ → List ℕ
record_text a b c d = decimal a ++ (space ∷ (decimal b ++ (space ∷ (decimal c ++ (space ∷ (decimal d ++ (line_feed ∷ [])))))))

-- it reads as the record's four numbers, and the next line comes after it: `record_reads`
abbrev pub RecordReads : Type 0
RecordReads =
    (line a b c d : ℕ) → a < 2 ^ 32 → b < 2 ^ 32 → c < 2 ^ 32 → d < 2 ^ 32
    → Reads (between line) (record_text a b c d) (a ∷ b ∷ c ∷ d ∷ []) (between (next_line line))

-- the text of a log, as `replay --log` prints it: a line a record
unfoldable pub log_text : List ℕ → List ℕ
log_text [] = []
log_text (a ∷ []) = []
log_text (a ∷ b ∷ []) = []
log_text (a ∷ b ∷ c ∷ []) = []
log_text (a ∷ b ∷ c ∷ d ∷ log) = record_text a b c d ++ log_text log

-- numbers of 32 bits
unfoldable pub Narrow : List ℕ → Type 0
Narrow [] = Unit {0}
Narrow (n ∷ log) = (n < 2 ^ 32) × Narrow log

-- so many lines on
unfoldable pub lines_on : ℕ → ℕ → ℕ
lines_on line zero = line
lines_on line (suc n) = lines_on (next_line line) n

-- it reads as the log's numbers: `log_reads`
abbrev pub LogReads : Type 0
LogReads = (line records : ℕ) (log : List ℕ) → length log ≡ 4 * records → Narrow log → Reads (between line) (log_text log) log (between (lines_on line records))
