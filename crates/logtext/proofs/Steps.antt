-- Where a byte leads, by its kind.
-- Assumes nothing.
use Rattle.std.proofs.Common.{◌≡◌, ℕ, ◌-◌, Bool, true, false, cond, eqb, refl}
use Rattle.wording.specs.Letters.{line_feed}
use Rattle.wording.specs.Words.{is_blank}
use Rattle.wording.specs.Numbers.{is_digit}
use Rattle.logtext.specs.declared.Kind.{Kind}
use Rattle.logtext.specs.declared.Kind.TheVariants.{Digit, Blank, LineEnd, Hash, Other}
use Rattle.logtext.specs.declared.Place.{Place}
use Rattle.logtext.specs.declared.Place.TheVariants.{Between, Number, Comment}
use Rattle.logtext.specs.declared.Scan.{Scan}
use Rattle.logtext.specs.Scans.{kind_of, next_line, between, in_comment, onward, stepped}

-- a byte of a comment
abbrev commented : ℕ → Kind → Scan
commented line (Digit d) = in_comment line
commented line Blank = in_comment line
commented line LineEnd = between (next_line line)
commented line Hash = in_comment line
commented line Other = in_comment line

commented_by : (line : ℕ) (ends hash blank digit : Bool) (d : ℕ)
    → cond ends (between (next_line line)) (in_comment line) ≡ commented line (cond ends LineEnd (cond hash Hash (cond blank Blank (cond digit (Digit d) Other))))
commented_by line true hash blank digit d = refl
commented_by line false true blank digit d = refl
commented_by line false false true digit d = refl
commented_by line false false false true d = refl
commented_by line false false false false d = refl

-- a byte at any place
abbrev pub leads_to : Place → ℕ → Kind → Scan
leads_to Between line kind = onward line 0 kind
leads_to (Number n) line kind = onward line n kind
leads_to Comment line kind = commented line kind

leads_by : (place : Place) (line b : ℕ) → stepped (record { line = line; place = place }) b ≡ leads_to place line (kind_of b)
unfolding stepped kind_of
leads_by Between line b = refl
leads_by (Number n) line b = refl
leads_by Comment line b = commented_by line (eqb b line_feed) (eqb b 35) (is_blank b) (is_digit b) (b - 48)

pub leads : (scan : Scan) (b : ℕ) → stepped scan b ≡ leads_to scan.place scan.line (kind_of b)
leads scan b = leads_by scan.place scan.line b

-- the end of a line, wherever the scan is
pub ends_by : (place : Place) (line : ℕ) → leads_to place line LineEnd ≡ between (next_line line)
ends_by Between line = refl
ends_by (Number n) line = refl
ends_by Comment line = refl
