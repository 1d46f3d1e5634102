-- Texts and what they read as, by the definitions.
-- Assumes nothing.
use Rattle.std.proofs.Common.{◌≡◌, false, [], ◌∷◌, refl}
use Rattle.logtext.specs.Scans.{kind_of, seen_at, longer, next_line, between, before_text, stepped}
use Rattle.logtext.specs.Texts.{numbers_of, scan_over, is_well}
use Rattle.logtext.specs.Theorems.{Reads}

-- `1 0#c`, and a line of `3`, a tab, `200` and a carriage return
pub reads_behind : Reads before_text (49 ∷ 32 ∷ 48 ∷ 35 ∷ 99 ∷ 10 ∷ 51 ∷ 9 ∷ 50 ∷ 48 ∷ 48 ∷ 13 ∷ 10 ∷ []) (1 ∷ 0 ∷ 3 ∷ 200 ∷ []) (between 3)
unfolding kind_of seen_at longer next_line stepped numbers_of scan_over is_well
reads_behind = record { numbers = refl; well = refl; over = refl }

-- `# 12 x`, and a line of `007`
pub reads_comment : Reads before_text (35 ∷ 32 ∷ 49 ∷ 50 ∷ 32 ∷ 120 ∷ 10 ∷ 48 ∷ 48 ∷ 55 ∷ 10 ∷ []) (7 ∷ []) (between 3)
unfolding kind_of seen_at longer next_line stepped numbers_of scan_over is_well
reads_comment = record { numbers = refl; well = refl; over = refl }

-- `4294967295`, the largest number
pub reads_largest : Reads before_text (52 ∷ 50 ∷ 57 ∷ 52 ∷ 57 ∷ 54 ∷ 55 ∷ 50 ∷ 57 ∷ 53 ∷ 10 ∷ []) (4294967295 ∷ []) (between 2)
unfolding kind_of seen_at longer next_line stepped numbers_of scan_over is_well
reads_largest = record { numbers = refl; well = refl; over = refl }

-- `4294967296`, one past it
pub past_is_no_number : is_well before_text (52 ∷ 50 ∷ 57 ∷ 52 ∷ 57 ∷ 54 ∷ 55 ∷ 50 ∷ 57 ∷ 54 ∷ 10 ∷ []) ≡ false
unfolding kind_of seen_at longer next_line stepped is_well
past_is_no_number = refl

-- `99999999999999999999`, past 64 bits
pub long_is_no_number : is_well before_text (57 ∷ 57 ∷ 57 ∷ 57 ∷ 57 ∷ 57 ∷ 57 ∷ 57 ∷ 57 ∷ 57 ∷ 57 ∷ 57 ∷ 57 ∷ 57 ∷ 57 ∷ 57 ∷ 57 ∷ 57 ∷ 57 ∷ 57 ∷ 32 ∷ []) ≡ false
unfolding kind_of seen_at longer next_line stepped is_well
long_is_no_number = refl

-- `1x` and `-1`
pub letter_is_no_number : is_well before_text (49 ∷ 120 ∷ 10 ∷ []) ≡ false
unfolding kind_of seen_at longer next_line stepped is_well
letter_is_no_number = refl

pub sign_is_no_number : is_well before_text (45 ∷ 49 ∷ 10 ∷ []) ≡ false
unfolding kind_of seen_at longer next_line stepped is_well
sign_is_no_number = refl
