-- Document 02, 1: "a reader that takes each burst as it arrives and is told when the file ends."
-- Assumes nothing.
use Rattle.std.specs.Prelude.{ℕ, ◌+◌, ◌-◌, min, ◌≡◌, Bool, true, false, cond, List, ◌++◌, Option, Some, None, Result, length, take, replicate}
use Rattle.std.proofs.Math.Seq.{paste}
use Rattle.tree.specs.declared.Fault.{Fault}
use Rattle.tree.specs.declared.Tree.{Tree}
use Rattle.file.specs.Format.{ReadsAs, verdict_in, tree_in}
use Rattle.file.specs.Fronts.{most_file_bytes, stopped, Counts}
use Rattle.bursts.specs.declared.Seen.{Seen}
use Rattle.bursts.specs.declared.Taken.{Taken}

-- "It may keep no more than the 2,052 bytes of the longest right file plus a count of bytes seen, which stops at 2^32": the file that came so far. Every
-- content of the memory holds a file (`holds_some`), and where bytes came that are not kept, many.
pub record Holds (kept : List ℕ) (count : ℕ) (file : List ℕ) : Type 0 where
  pub first : take (length file) kept ≡ take most_file_bytes file
  pub counted : Counts count (length file)

-- before the first byte
pub record Begun (seen : Seen) (kept : List ℕ) : Type 0 where
  pub none : kept ≡ replicate most_file_bytes 0
  pub count : seen.count ≡ 0
  pub ended : seen.ended ≡ false

-- the kept bytes with a burst: as much of it as there is room for, after so many bytes that came before
abbrev pub kept_with : List ℕ → ℕ → List ℕ → List ℕ
kept_with kept count burst = paste kept count burst (min (length burst) (most_file_bytes - count))

-- "Bytes offered after the end was told change nothing": the kept bytes, what was seen, and the file, after a burst
abbrev pub kept_after : List ℕ → Seen → List ℕ → List ℕ
kept_after kept seen burst = cond seen.ended kept (kept_with kept seen.count burst)

abbrev pub seen_after : Seen → List ℕ → Seen
seen_after seen burst = cond seen.ended seen (record { count = stopped (seen.count + length burst); ended = false })

abbrev pub file_after : Seen → List ℕ → List ℕ → List ℕ
file_after seen file burst = cond seen.ended file (file ++ burst)

-- what a file reads as: its tree, or the refusal with the class
abbrev pub Reading : Type 0
Reading = Result Tree Fault

-- nothing yet, before the end was told; from then on what the whole file reads as
abbrev pub Answered : Type 0
Answered = Option Reading

-- the answer where the end was told: "Its tree, or its refusal number and class, must be the one the whole-file reader of 01 gives"
pub record Read (file : List ℕ) (answer : Answered) : Type 0 where
  pub reading : Reading
  pub told : answer ≡ Some reading
  pub reads : ReadsAs file (verdict_in reading) (tree_in reading)

-- and where it was not
pub record Unread (answer : Answered) : Type 0 where
  pub told : answer ≡ None

abbrev pub Answers : Bool → List ℕ → Answered → Type 0
Answers true file answer = Read file answer
Answers false file answer = Unread answer

-- a burst was offered: `new` is what is kept after it
pub record Offered (kept : List ℕ) (seen : Seen) (burst : List ℕ) (told : Taken) (new : List ℕ) : Type 0 where
  pub keeps : new ≡ kept_after kept seen burst
  pub notes : told.seen ≡ seen_after seen burst
  pub holds : (file : List ℕ) → Holds kept seen.count file → Holds new told.seen.count (file_after seen file burst)
  pub answers : (file : List ℕ) → Holds kept seen.count file → Answers seen.ended file told.answer

abbrev pub ended : Seen → Seen
ended seen = record { count = seen.count; ended = true }

-- the end was told; what is kept was only looked at
pub record Ended (kept : List ℕ) (seen : Seen) (told : Taken) : Type 0 where
  pub notes : told.seen ≡ ended seen
  pub answers : (file : List ℕ) → Holds kept seen.count file → Read file told.answer
