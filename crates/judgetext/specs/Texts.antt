-- How far the text of a log is judged, and what a byte of it changes.
-- Assumes nothing.
use Rattle.std.specs.Prelude.{◌≡◌, ℕ, ◌+◌, ◌%◌, ◌^◌, Bool, true, false, List, [], ◌∷◌, None, Some, Ok, Err}
use Rattle.rules.specs.Calls.{History}
use Rattle.records.specs.Records.{record_of}
use Rattle.judge.specs.Kinds.{Finding, Judgement, accepted}
use Rattle.judge.specs.declared.Rejection.TheVariants.{Malformed}
use Rattle.judge.specs.Judging.{RecordReplayed, judgement_at}
use Rattle.logtext.specs.Scans.{Seen, before_text, seen_at, stepped}
use Rattle.judgetext.specs.declared.Held.{Held}
use Rattle.judgetext.specs.declared.Held.TheVariants.{Nothing, Kind, Stamp, Class}
use Rattle.judgetext.specs.declared.Standing.{Standing}
use Rattle.judgetext.specs.declared.Standing.TheVariants.{Right, Wrong, NotANumber}
use Rattle.judgetext.specs.declared.Progress.{Progress}

-- before the first byte
abbrev pub before_log : Progress
before_log = record { scan = before_text; records = 0; held = Nothing; standing = Right }

abbrev pub is_right : Standing → Bool
is_right Right = true
is_right (Wrong f) = false
is_right (NotANumber line) = false

-- the numbers of a record that is begun
abbrev pub held_numbers : Held → List ℕ
held_numbers Nothing = []
held_numbers (Kind kind) = kind ∷ []
held_numbers (Stamp kind stamp) = kind ∷ stamp ∷ []
held_numbers (Class kind stamp class) = kind ∷ stamp ∷ class ∷ []

-- the scan goes on by a byte
abbrev pub moved : Progress → ℕ → Progress
moved at b = record { scan = stepped at.scan b; records = at.records; held = at.held; standing = at.standing }

-- a number more of a record, which is not its last
abbrev pub holding : Progress → Held → Progress
holding at held = record { scan = at.scan; records = at.records; held = held; standing = at.standing }

-- the records so far, and one more; no log has 2^64
abbrev pub one_more : ℕ → ℕ
one_more records = (records + 1) % 2 ^ 64

abbrev pub wrong_at : Progress → Finding → Progress
wrong_at at f = record { scan = at.scan; records = at.records; held = Nothing; standing = Wrong f }

-- a record is complete, and found to be that
abbrev pub completed : Progress → Finding → Progress
completed at (Ok _) = record { scan = at.scan; records = one_more at.records; held = Nothing; standing = Right }
completed at (Err flaw) = wrong_at at (Err flaw)

-- "A word that is no such number" is named by its line
abbrev pub stuck : Progress → ℕ → Progress
stuck at line = record { scan = at.scan; records = at.records; held = at.held; standing = NotANumber line }

-- the last number of a record: it is replayed
pub record Completes (h : History) (at : Progress) (kind stamp class bytes : ℕ) (after : Progress) (next : History) : Type 0 where
  pub found : Finding
  pub replayed : RecordReplayed h (record_of kind stamp class bytes) found next
  pub stands : after ≡ completed at found

-- a number more, after the history h, behind those of a record that is begun
abbrev pub TakesTo : History → Held → Progress → ℕ → Progress → History → Type 0
TakesTo h Nothing at n after next = (after ≡ holding at (Kind n)) × (next ≡ h)
TakesTo h (Kind kind) at n after next = (after ≡ holding at (Stamp kind n)) × (next ≡ h)
TakesTo h (Stamp kind stamp) at n after next = (after ≡ holding at (Class kind stamp n)) × (next ≡ h)
TakesTo h (Class kind stamp class) at n after next = Completes h at kind stamp class n after next

abbrev pub Takes : History → Progress → ℕ → Progress → History → Type 0
Takes h at n after next = TakesTo h at.held at n after next

-- a byte more, by what it shows
abbrev pub ReadsSeen : History → Seen → Progress → ℕ → Progress → History → Type 0
ReadsSeen h (Ok None) at b after next = (after ≡ moved at b) × (next ≡ h)
ReadsSeen h (Ok (Some n)) at b after next = Takes h (moved at b) n after next
ReadsSeen h (Err why) at b after next = (after ≡ stuck at at.scan.line) × (next ≡ h)

abbrev pub ReadsByte : History → Progress → ℕ → Progress → History → Type 0
ReadsByte h at b after next = ReadsSeen h (seen_at at.scan b) at b after next

-- more of a text, up to what is wrong in it
pub data TextFollows : History → Progress → List ℕ → Progress → History → Type 0 where
  ended : {h : History} {at : Progress} → TextFollows h at [] at h
  stopped : {h : History} {at : Progress} {b : ℕ} {text : List ℕ} → is_right at.standing ≡ false → TextFollows h at (b ∷ text) at h
  read : {h between next : History} {at mid after : Progress} {b : ℕ} {text : List ℕ}
      → is_right at.standing ≡ true → ReadsByte h at b mid between → TextFollows between mid text after next → TextFollows h at (b ∷ text) after next

-- what a text is judged as that ends there, where its words are numbers: "A list whose length isn't a multiple of four is malformed at its last, short record."
abbrev pub whole_or : Held → ℕ → Judgement
whole_or Nothing k = accepted
whole_or (Kind kind) k = Err (Malformed k)
whole_or (Stamp kind stamp) k = Err (Malformed k)
whole_or (Class kind stamp class) k = Err (Malformed k)

abbrev pub standing_as : Standing → Held → ℕ → Judgement
standing_as Right held k = whole_or held k
standing_as (Wrong f) held k = judgement_at k f
standing_as (NotANumber line) held k = whole_or held k

abbrev pub judgement_of : Progress → Judgement
judgement_of at = standing_as at.standing at.held at.records
