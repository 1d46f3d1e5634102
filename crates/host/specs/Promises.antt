-- What each exported call promises: the numbers that it gives are those of an answer that is right by document 01's definitions, and the arrays then show
-- the history after it.
-- Assumes nothing.
use Rattle.rules.specs.Kinds.{Arrival, Departure}
use Rattle.std.specs.Prelude.{ℕ, ◌≤◌, ◌≡◌, List, Option, length, take}
use Rattle.tree.specs.declared.Tree.{Tree}
use Rattle.tree.specs.Verdicts.{Verdict}
use Rattle.file.specs.Format.{ReadsAs}
use Rattle.file.specs.Writing.{Written, Writes}
use Rattle.file.specs.Theorems.{ReadsBack}
use Rattle.file.specs.Fronts.{most_file_bytes}
use Rattle.rules.specs.declared.Times.{Times}
use Rattle.rules.specs.Answers.{started}
use Rattle.state.specs.State.{Shows, Reached}
use Rattle.state.specs.Heads.{EveryHistory}
use Rattle.sched.specs.Asked.{HeadTimes}
use Rattle.sched.specs.Promises.{StartRight, ArriveRight, DepartRight}
use Rattle.host.specs.Numbers.{verdict_number, verdict_class, written_verdict, written_total, arrival_number, packet_number, times_numbers, departure_number, departure_numbers}

-- of a start with this tree and first stamp: `said` is what the call answers, `fault` what it writes
pub record StartTold (tree : Tree) (stamp said fault : ℕ) (m l : List ℕ) : Type 0 where
  pub answer : Verdict
  pub number : said ≡ verdict_number answer
  pub class : fault ≡ verdict_class answer
  pub right : StartRight tree stamp answer m l

-- of a start with a tree file: the answer is what the file reads as, and a refused file gives the state of no classes with the stamp kept
pub record StartFileTold (file : List ℕ) (stamp said fault : ℕ) (m l : List ℕ) : Type 0 where
  pub answer : Verdict
  pub tree : Tree
  pub reads : ReadsAs file answer tree
  pub number : said ≡ verdict_number answer
  pub class : fault ≡ verdict_class answer
  pub shows : Shows m l (started tree stamp answer)

-- of a tree written as a file: `said` is what the call answers, `total` and `fault` what it writes; `old` is the buffer before it, `new` the buffer after it
pub record WriteTold (tree : Tree) (old : List ℕ) (said total fault : ℕ) (new : List ℕ) : Type 0 where
  pub answer : Written
  pub number : said ≡ verdict_number (written_verdict answer)
  pub bytes : total ≡ written_total answer
  pub class : fault ≡ verdict_class (written_verdict answer)
  pub writes : Writes tree old answer new

-- of an arrival: `said` is what the call answers, `packet` what it writes; m₀ and l₀ are the arrays before it
pub record ArriveTold (m₀ l₀ : List ℕ) (stamp class bytes said packet : ℕ) (m l : List ℕ) : Type 0 where
  pub answer : Arrival
  pub number : said ≡ arrival_number answer
  pub written : packet ≡ packet_number answer
  pub right : EveryHistory m₀ l₀ (λ h. ArriveRight h stamp class bytes answer m l)

-- of a departure
pub record DepartTold (m₀ l₀ : List ℕ) (stamp said : ℕ) (out m l : List ℕ) : Type 0 where
  pub answer : Departure
  pub number : said ≡ departure_number answer
  pub written : out ≡ departure_numbers answer
  pub right : EveryHistory m₀ l₀ (λ h. DepartRight h stamp answer m l)

-- of the times of a leaf's head
pub record HeadTold (m l : List ℕ) (class : ℕ) (out : List ℕ) : Type 0 where
  pub times : Option Times
  pub written : out ≡ times_numbers times
  pub right : EveryHistory m l (λ h. HeadTimes h.tree h.calls class times)

-- "a refusal there gives back the same state": a call that answers the number of a refusal leaves both arrays as they were
abbrev pub ArriveToldRefused : Type 0
ArriveToldRefused =
    (m₀ l₀ : List ℕ) → Reached m₀ l₀ → (stamp class bytes said packet : ℕ) (m l : List ℕ) → ArriveTold m₀ l₀ stamp class bytes said packet m l → (said ≡ 0 → ⊥)
    → (m ≡ m₀) × (l ≡ l₀)

abbrev pub DepartToldRefused : Type 0
DepartToldRefused =
    (m₀ l₀ : List ℕ) → Reached m₀ l₀ → (stamp said : ℕ) (out m l : List ℕ) → DepartTold m₀ l₀ stamp said out m l → (said ≡ 0 → ⊥) → (m ≡ m₀) × (l ≡ l₀)

-- "on refusal none": where the call answers the number of a refusal the buffer is as it was, and no total is told
abbrev pub WriteToldRefused : Type 0
WriteToldRefused =
    (tree : Tree) (old : List ℕ) (said total fault : ℕ) (new : List ℕ) → WriteTold tree old said total fault new → (said ≡ 0 → ⊥) → (new ≡ old) × (total ≡ 0)

-- where it answers 0 the bytes that it tells of read back as the same tree
abbrev pub WriteToldReadsBack : Type 0
WriteToldReadsBack =
    (tree : Tree) (old : List ℕ) (said total fault : ℕ) (new : List ℕ) → WriteTold tree old said total fault new → said ≡ 0 → ReadsBack (take total new) tree

-- with room for the longest right file no tree is refused for its room
abbrev pub WriteToldRoom : Type 0
WriteToldRoom =
    (tree : Tree) (old : List ℕ) (said total fault : ℕ) (new : List ℕ) → most_file_bytes ≤ length old → WriteTold tree old said total fault new → said ≡ 17 → ⊥
