-- What is proved of numbers as words. Each statement stands here under a name; a comment names the law of proofs/ that proves it.
-- Assumes nothing.
use Rattle.std.specs.Prelude.{ℕ, ◌≡◌}
use Rattle.wording.specs.Numbers.{number_of, narrowed}
use Rattle.wording.specs.Decimal.{decimal}

-- the decimal digits of a number read back as that number, where it has 32 bits; past them, as a number that is too large: `decimal_reads`
abbrev pub DecimalReads : Type 0
DecimalReads = (n : ℕ) → number_of (decimal n) ≡ narrowed n

-- two numbers with the same digits are equal, of whatever size: `decimal_one`
abbrev pub DecimalOne : Type 0
DecimalOne = (n m : ℕ) → decimal n ≡ decimal m → n ≡ m
