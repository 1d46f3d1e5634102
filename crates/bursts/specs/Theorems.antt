-- What is proved of a file that comes in bursts. Each statement stands here under a name; a comment names the law of proofs/ that proves it.
-- Assumes nothing.
use Rattle.std.specs.Prelude.{ℕ, ◌≡◌, List, [], ◌∷◌, ◌++◌, Some, length}
use Rattle.file.specs.Format.{ReadsAs, verdict_in, tree_in}
use Rattle.file.specs.Fronts.{most_file_bytes}
use Rattle.bursts.specs.declared.Seen.{Seen}
use Rattle.bursts.specs.declared.Taken.{Taken}
use Rattle.bursts.specs.Bursts.{Holds, Reading, Begun, Offered, Ended}

-- a file that some memory holds
pub record HoldsSome (kept : List ℕ) (count : ℕ) : Type 0 where
  pub file : List ℕ
  pub holds : Holds kept count file

-- whatever stands in the memory, it holds a file, so that no promise is empty: `holds_some`
abbrev pub AlwaysHolds : Type 0
AlwaysHolds = (kept : List ℕ) (count : ℕ) → length kept ≡ most_file_bytes → HoldsSome kept count

-- one burst after another
pub record Next (kept : List ℕ) (seen : Seen) (burst : List ℕ) (Rest : List ℕ → Seen → Type 0) : Type 0 where
  pub told : Taken
  pub new : List ℕ
  pub offered : Offered kept seen burst told new
  pub rest : Rest new told.seen

-- these bursts are offered, and then the end is told
abbrev pub Comes : List (List ℕ) → Taken → List ℕ → Seen → Type 0
Comes [] told kept seen = Ended kept seen told
Comes (burst ∷ bursts) told kept seen = Next kept seen burst (Comes bursts told)

-- all of it, from the beginning
pub record Came (bursts : List (List ℕ)) (told : Taken) : Type 0 where
  pub kept : List ℕ
  pub seen : Seen
  pub begun : Begun seen kept
  pub comes : Comes bursts told kept seen

-- the bursts as one file
abbrev pub together : List (List ℕ) → List ℕ
together [] = []
together (burst ∷ bursts) = burst ++ together bursts

-- a reading is told
pub record TellsReading (r : Reading) (told : Taken) : Type 0 where
  pub answer : told.answer ≡ Some r

-- "the one the whole-file reader of 01 gives, however the bytes were cut": `cut_reads`
abbrev pub CutReads : Type 0
CutReads = (bursts : List (List ℕ)) (told : Taken) (r : Reading) → Came bursts told → ReadsAs (together bursts) (verdict_in r) (tree_in r) → TellsReading r told

-- two answers that say the same
pub record SameAnswer (a b : Taken) : Type 0 where
  pub answer : a.answer ≡ b.answer

-- two ways to cut one file have one answer: `cuts_agree`
abbrev pub CutsAgree : Type 0
CutsAgree = (one other : List (List ℕ)) (a b : Taken) → together one ≡ together other → Came one a → Came other b → SameAnswer a b

-- "Bytes offered after the end was told change nothing and are answered with the same result": `offered_after`
abbrev pub OfferedAfter : Type 0
OfferedAfter =
    (kept : List ℕ) (seen : Seen) (told : Taken) (burst : List ℕ) (again : Taken) (new : List ℕ) → length kept ≡ most_file_bytes
    → Ended kept seen told → Offered kept told.seen burst again new → (again ≡ told) × (new ≡ kept)

-- nor does the end, told again: `ended_after`
abbrev pub EndedAfter : Type 0
EndedAfter = (kept : List ℕ) (seen : Seen) (told again : Taken) → length kept ≡ most_file_bytes → Ended kept seen told → Ended kept told.seen again → again ≡ told
