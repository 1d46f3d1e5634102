-- Which bytes words are made of, and which end them.
-- Assumes nothing.
use Rattle.std.proofs.Common.{◌≡◌, ℕ, ◌-◌, Bool, true, false, cond, not, ◌&&◌, eqb, refl}
use mathlib.Core.Bool.{false≢true}
use Rattle.wording.specs.Letters.{line_feed}
use Rattle.wording.specs.Words.{is_blank, is_plain}
use Rattle.wording.specs.Numbers.{is_digit, narrowed}
use Rattle.logtext.specs.declared.Kind.{Kind}
use Rattle.logtext.specs.declared.Kind.TheVariants.{Digit, Blank, LineEnd, Hash, Other}
use Rattle.logtext.specs.Scans.{kind_of, shown, shown_in}

-- the kind of a byte by its tests: whether it ends a line, is `#`, is white space
abbrev kind_by : Bool → Bool → Bool → Kind → Kind
kind_by ends hash blank last = cond ends LineEnd (cond hash Hash (cond blank Blank last))

plain_by : (blank hash ends : Bool) (last : Kind) → (not blank && (not hash && not ends)) ≡ true → kind_by ends hash blank last ≡ last
plain_by false false false last h = refl
plain_by false false true last h = absurd (false≢true h)
plain_by false true ends last h = absurd (false≢true h)
plain_by true hash ends last h = absurd (false≢true h)

-- a byte of a word is a digit, or one that no number has
pub plain_kind : (b : ℕ) → is_plain b ≡ true → kind_of b ≡ cond (is_digit b) (Digit (b - 48)) Other
unfolding kind_of
plain_kind b h = plain_by (is_blank b) (eqb b 35) (eqb b line_feed) (cond (is_digit b) (Digit (b - 48)) Other) h

ends_by : (ends hash blank : Bool) (last : Kind) (n : ℕ) → (not blank && (not hash && not ends)) ≡ false
    → shown_in n (kind_by ends hash blank last) ≡ shown (narrowed n)
ends_by false false false last n h = absurd (false≢true (rw h))
ends_by false false true last n h = refl
ends_by false true blank last n h = refl
ends_by true hash blank last n h = refl

-- any last byte ends a number
pub ends_number : (b n : ℕ) → is_plain b ≡ false → shown_in n (kind_of b) ≡ shown (narrowed n)
unfolding kind_of
ends_number b n h = ends_by (eqb b line_feed) (eqb b 35) (is_blank b) (cond (is_digit b) (Digit (b - 48)) Other) n h
