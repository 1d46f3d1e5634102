-- What each byte of a log's text shows, and where it leads, as docs/FORMS.md sets it down.
-- Assumes nothing.
use Rattle.std.specs.Prelude.{ℕ, ◌+◌, ◌-◌, ◌*◌, ◌%◌, ◌^◌, min, cond, ◌==◌, Option, None, Some, Result, Ok, Err}
use Rattle.wording.specs.Letters.{line_feed}
use Rattle.wording.specs.Words.{is_blank}
use Rattle.wording.specs.Numbers.{Operand, is_digit, narrowed}
use Rattle.logtext.specs.declared.Kind.{Kind}
use Rattle.logtext.specs.declared.Kind.TheVariants.{Digit, Blank, LineEnd, Hash, Other}
use Rattle.logtext.specs.declared.Place.{Place}
use Rattle.logtext.specs.declared.Place.TheVariants.{Between, Number, Comment}
use Rattle.logtext.specs.declared.Scan.{Scan}
use Rattle.logtext.specs.declared.NotANumber.{NotANumber}

-- what a byte shows: nothing yet, a number that ends before it, or a word that is no number
abbrev pub Seen : Type 0
Seen = Result (Option ℕ) NotANumber

abbrev pub not_a_number : Seen
not_a_number = Err (record {})

-- "white space (a space, a tab, a carriage return or the end of a line)"; a digit is worth what it is past `0`
unfoldable pub kind_of : ℕ → Kind
kind_of b = cond (b == line_feed) LineEnd (cond (b == 35) Hash (cond (is_blank b) Blank (cond (is_digit b) (Digit (b - 48)) Other)))

-- "a word that is no such number is an error": a number past 32 bits is none
abbrev pub shown : Operand → Seen
shown (Ok n) = Ok (Some n)
shown (Err why) = not_a_number

-- between two numbers a byte shows nothing, or starts a word that is none
abbrev pub shown_between : Kind → Seen
shown_between (Digit d) = Ok None
shown_between Blank = Ok None
shown_between LineEnd = Ok None
shown_between Hash = Ok None
shown_between Other = not_a_number

-- "decimal numbers of 32 bits, set off by white space"; "`#` starts a comment, [..] also directly behind a number": after digits that make n
abbrev pub shown_in : ℕ → Kind → Seen
shown_in n (Digit d) = Ok None
shown_in n Blank = shown (narrowed n)
shown_in n LineEnd = shown (narrowed n)
shown_in n Hash = shown (narrowed n)
shown_in n Other = not_a_number

-- what a byte of a kind shows at a place; a comment shows nothing
abbrev pub seen_by : Place → Kind → Seen
seen_by Between kind = shown_between kind
seen_by (Number n) kind = shown_in n kind
seen_by Comment kind = Ok None

unfoldable pub seen_at : Scan → ℕ → Seen
seen_at scan b = seen_by scan.place (kind_of b)

-- a number with one digit more; 2^32 stands for every number past 32 bits
unfoldable pub longer : ℕ → ℕ → ℕ
longer n d = min (10 * n + d) (2 ^ 32)

-- lines are "counted from 1"; no text has 2^64 of them
unfoldable pub next_line : ℕ → ℕ
next_line line = (line + 1) % 2 ^ 64

-- between two numbers, in a number whose digits so far make n, and in a comment
abbrev pub between : ℕ → Scan
between line = record { line = line; place = Between }

abbrev pub in_number : ℕ → ℕ → Scan
in_number line n = record { line = line; place = Number n }

abbrev pub in_comment : ℕ → Scan
in_comment line = record { line = line; place = Comment }

-- before the first byte
abbrev pub before_text : Scan
before_text = between 1

-- where a byte of a kind leads that stands in no comment, after digits that make n, or after none: 0
abbrev pub onward : ℕ → ℕ → Kind → Scan
onward line n (Digit d) = in_number line (longer n d)
onward line n Blank = between line
onward line n LineEnd = between (next_line line)
onward line n Hash = in_comment line
onward line n Other = between line

-- "`#` starts a comment, to the end of the line": where a byte of a comment leads
abbrev pub passed : ℕ → ℕ → Scan
passed line b = cond (b == line_feed) (between (next_line line)) (in_comment line)

-- where a byte leads from a place
abbrev pub stepped_by : Place → ℕ → ℕ → Scan
stepped_by Between line b = onward line 0 (kind_of b)
stepped_by (Number n) line b = onward line n (kind_of b)
stepped_by Comment line b = passed line b

unfoldable pub stepped : Scan → ℕ → Scan
stepped scan b = stepped_by scan.place scan.line b
