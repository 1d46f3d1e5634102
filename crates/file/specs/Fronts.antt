-- Document 02, 1: a file by its first bytes and its length.
-- Assumes nothing.
use Rattle.std.specs.Prelude.{ℕ, ◌≤◌, min, ◌≡◌, List, ◌⊎◌, length, take}

-- "the 2,052 bytes of the longest right file"
abbrev pub most_file_bytes : ℕ
most_file_bytes = 2052

-- "a count of bytes seen, which stops at 2^32, one more than any total a file can state"
abbrev pub most_seen : ℕ
most_seen = 4294967296

abbrev pub stopped : ℕ → ℕ
stopped n = min n most_seen

-- so many bytes were counted of a file of this length; a count or a length past 2^32 stands for 2^32
abbrev pub Counts : ℕ → ℕ → Type 0
Counts given long = stopped given ≡ stopped long

-- bytes at hand and the number given, as they can be of a file: all its bytes, or at least as many as the longest right file has
abbrev pub AtHand : List ℕ → ℕ → Type 0
AtHand bytes given = (given ≡ length bytes) ⊎ ((most_file_bytes ≤ length bytes) × (length bytes ≤ given))

-- of this file
pub record Front (bytes : List ℕ) (given : ℕ) (file : List ℕ) : Type 0 where
  pub first : bytes ≡ take (length bytes) file
  pub enough : (bytes ≡ file) ⊎ (most_file_bytes ≤ length bytes)
  pub counted : Counts given (length file)

-- there is such a file
pub record FrontSome (bytes : List ℕ) (given : ℕ) : Type 0 where
  pub file : List ℕ
  pub front : Front bytes given file

-- what holds of every file of which these are the first bytes and the length
abbrev pub EveryFile : List ℕ → ℕ → (List ℕ → Type 0) → Type 0
EveryFile bytes given P = (file : List ℕ) → Front bytes given file → P file
