-- Lines and what they say, by the definitions.
-- Assumes nothing.
use mathlib.Core.Path.{◌≡◌, refl}
use mathlib.Core.List.{[], ◌∷◌}
use Rattle.std.specs.Prelude.{None, Some, Ok, Err}
use Rattle.calls.specs.declared.Call.TheVariants.{Start, Arrive, Depart}
use Rattle.calls.specs.declared.LineError.TheVariants.{TooLarge, NotACall}
use Rattle.wording.specs.Words.{span, uncommented, begun, first, after, same}
use Rattle.wording.specs.Numbers.{number_from, number_of, only_in}
use Rattle.calls.specs.Lines.{arrive_in, call_in, said}

-- `arrive 7 2 500 # x`
pub says_arrival : said (97 ∷ 114 ∷ 114 ∷ 105 ∷ 118 ∷ 101 ∷ 32 ∷ 55 ∷ 32 ∷ 50 ∷ 32 ∷ 53 ∷ 48 ∷ 48 ∷ 32 ∷ 35 ∷ 32 ∷ 120 ∷ []) ≡ Ok (Some (Arrive 7 2 500))
unfolding said call_in only_in arrive_in uncommented begun first after span same number_from number_of
says_arrival = refl

-- `depart 4294967295`, the largest number
pub says_largest : said (100 ∷ 101 ∷ 112 ∷ 97 ∷ 114 ∷ 116 ∷ 32 ∷ 52 ∷ 50 ∷ 57 ∷ 52 ∷ 57 ∷ 54 ∷ 55 ∷ 50 ∷ 57 ∷ 53 ∷ []) ≡ Ok (Some (Depart 4294967295))
unfolding said call_in only_in arrive_in uncommented begun first after span same number_from number_of
says_largest = refl

-- `depart 4294967296`, one past it
pub says_past : said (100 ∷ 101 ∷ 112 ∷ 97 ∷ 114 ∷ 116 ∷ 32 ∷ 52 ∷ 50 ∷ 57 ∷ 52 ∷ 57 ∷ 54 ∷ 55 ∷ 50 ∷ 57 ∷ 54 ∷ []) ≡ Err TooLarge
unfolding said call_in only_in arrive_in uncommented begun first after span same number_from number_of
says_past = refl

-- `depart 99999999999999999999`, past 64 bits
pub says_past_long : said (100 ∷ 101 ∷ 112 ∷ 97 ∷ 114 ∷ 116 ∷ 32 ∷ 57 ∷ 57 ∷ 57 ∷ 57 ∷ 57 ∷ 57 ∷ 57 ∷ 57 ∷ 57 ∷ 57 ∷ 57 ∷ 57 ∷ 57 ∷ 57 ∷ 57 ∷ 57 ∷ 57 ∷ 57 ∷ 57 ∷ 57 ∷ []) ≡ Err TooLarge
unfolding said call_in only_in arrive_in uncommented begun first after span same number_from number_of
says_past_long = refl

-- `arrive 1 4294967296 3`
pub says_past_inside : said (97 ∷ 114 ∷ 114 ∷ 105 ∷ 118 ∷ 101 ∷ 32 ∷ 49 ∷ 32 ∷ 52 ∷ 50 ∷ 57 ∷ 52 ∷ 57 ∷ 54 ∷ 55 ∷ 50 ∷ 57 ∷ 54 ∷ 32 ∷ 51 ∷ []) ≡ Err TooLarge
unfolding said call_in only_in arrive_in uncommented begun first after span same number_from number_of
says_past_inside = refl

-- `arrive 4294967296 x 3`: the form is judged first
pub says_past_beside : said (97 ∷ 114 ∷ 114 ∷ 105 ∷ 118 ∷ 101 ∷ 32 ∷ 52 ∷ 50 ∷ 57 ∷ 52 ∷ 57 ∷ 54 ∷ 55 ∷ 50 ∷ 57 ∷ 54 ∷ 32 ∷ 120 ∷ 32 ∷ 51 ∷ []) ≡ Err NotACall
unfolding said call_in only_in arrive_in uncommented begun first after span same number_from number_of
says_past_beside = refl

-- `depart 4294967296 1`
pub says_past_extra : said (100 ∷ 101 ∷ 112 ∷ 97 ∷ 114 ∷ 116 ∷ 32 ∷ 52 ∷ 50 ∷ 57 ∷ 52 ∷ 57 ∷ 54 ∷ 55 ∷ 50 ∷ 57 ∷ 54 ∷ 32 ∷ 49 ∷ []) ≡ Err NotACall
unfolding said call_in only_in arrive_in uncommented begun first after span same number_from number_of
says_past_extra = refl

-- a tab, `start 007`, a space and a carriage return
pub says_zeros : said (9 ∷ 115 ∷ 116 ∷ 97 ∷ 114 ∷ 116 ∷ 32 ∷ 48 ∷ 48 ∷ 55 ∷ 32 ∷ 13 ∷ []) ≡ Ok (Some (Start 7))
unfolding said call_in only_in arrive_in uncommented begun first after span same number_from number_of
says_zeros = refl

-- ` # start 1`
pub says_comment : said (32 ∷ 35 ∷ 32 ∷ 115 ∷ 116 ∷ 97 ∷ 114 ∷ 116 ∷ 32 ∷ 49 ∷ []) ≡ Ok None
unfolding said call_in only_in arrive_in uncommented begun first after span same number_from number_of
says_comment = refl

-- `start`
pub says_missing : said (115 ∷ 116 ∷ 97 ∷ 114 ∷ 116 ∷ []) ≡ Err NotACall
unfolding said call_in only_in arrive_in uncommented begun first after span same number_from number_of
says_missing = refl

-- `start 1 2`
pub says_extra : said (115 ∷ 116 ∷ 97 ∷ 114 ∷ 116 ∷ 32 ∷ 49 ∷ 32 ∷ 50 ∷ []) ≡ Err NotACall
unfolding said call_in only_in arrive_in uncommented begun first after span same number_from number_of
says_extra = refl

-- `start -1`
pub says_sign : said (115 ∷ 116 ∷ 97 ∷ 114 ∷ 116 ∷ 32 ∷ 45 ∷ 49 ∷ []) ≡ Err NotACall
unfolding said call_in only_in arrive_in uncommented begun first after span same number_from number_of
says_sign = refl

-- an empty line
pub says_none : said ([]) ≡ Ok None
unfolding said call_in only_in arrive_in uncommented begun first after span same number_from number_of
says_none = refl
