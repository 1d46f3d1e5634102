-- Request 4, "Judge the competitor's box from its log": a log replayed over document 01's definitions, record by record.
-- Assumes nothing.
use Rattle.rules.specs.Kinds.{Arrival, Departure}
use Rattle.std.specs.Prelude.{ℕ, ◌+◌, ◌<◌, ◌≡◌, Bool, true, false, ◌&&◌, List, [], ◌∷◌, eqb, length, Some, None, Ok, Err}
use Rattle.tree.specs.declared.Tree.{Tree}
use Rattle.tree.specs.declared.Refusal.{Refusal}
use Rattle.tree.specs.Verdicts.{all_right, refused as at_fault}
use Rattle.rules.specs.declared.Packet.{Packet}
use Rattle.rules.specs.Calls.{History}
use Rattle.rules.specs.Answers.{Starts, Arrives, Departs}
use Rattle.records.specs.declared.Record.{Record}
use Rattle.records.specs.declared.Record.TheVariants as record_of
use Rattle.records.specs.Records.{record_of}
use Rattle.judge.specs.Kinds.{Finding, no_flaw, Judgement, accepted}
use Rattle.judge.specs.declared.Flaw.{Flaw}
use Rattle.judge.specs.declared.Flaw.TheVariants.{Malformed, Refused, Another}
use Rattle.tree.specs.declared.Fault.{Fault}
use Rattle.judge.specs.declared.Rejection.{Rejection}
use Rattle.judge.specs.declared.Rejection.TheVariants.{TreeRefused, AnotherChoice}
use Rattle.judge.specs.declared.Rejection.TheVariants as rejection

-- a record that our rules refuse is "refused (with the number)"
abbrev pub refused_by : Refusal → Flaw
refused_by why = Refused why

-- "every arrival is accepted", or the record is "refused (with the number)"
abbrev pub arrival_finding : Arrival → Finding
arrival_finding (Ok number) = no_flaw
arrival_finding (Err why) = Err (refused_by why)

-- "every departure .. is the one our rules give, class and length both", or the record is "another choice"
abbrev pub same_or : Bool → Departure → Finding
same_or true ours = no_flaw
same_or false ours = Err (Another ours)

-- whether that packet is the one of the record
abbrev pub is_that : (class length : ℕ) → Packet → Bool
is_that class length packet = eqb packet.class class && eqb packet.length length

abbrev pub departure_finding : (class length : ℕ) → Departure → Finding
departure_finding class length (Ok (Some packet)) = same_or (is_that class length packet) (Ok (Some packet))
departure_finding class length (Ok None) = Err (Another (Ok None))
departure_finding class length (Err why) = Err (refused_by why)

-- "or empty answer is the one our rules give"
abbrev pub empty_finding : Departure → Finding
empty_finding (Ok (Some packet)) = Err (Another (Ok (Some packet)))
empty_finding (Ok None) = no_flaw
empty_finding (Err why) = Err (refused_by why)

-- a record replayed after the history h: the answer that document 01 gives, what the record is found to be by it, and the history then
pub record ArrivalReplayed (h : History) (stamp class bytes : ℕ) (finding : Finding) (next : History) : Type 0 where
  pub answer : Arrival
  pub arrives : Arrives h stamp class bytes answer next
  pub finds : finding ≡ arrival_finding answer

pub record DepartureReplayed (h : History) (stamp : ℕ) (findingOf : Departure → Finding) (finding : Finding) (next : History) : Type 0 where
  pub answer : Departure
  pub departs : Departs h stamp answer next
  pub finds : finding ≡ findingOf answer

-- "within one record malformed comes before refused, and refused before another choice": a malformed record makes no call, and one that is refused has no answer to compare
abbrev pub RecordReplayed : History → Record → Finding → History → Type 0
RecordReplayed h (record_of.Arrived stamp class bytes) finding next = ArrivalReplayed h stamp class bytes finding next
RecordReplayed h (record_of.Departed stamp class bytes) finding next = DepartureReplayed h stamp (departure_finding class bytes) finding next
RecordReplayed h (record_of.FoundEmpty stamp) finding next = DepartureReplayed h stamp empty_finding finding next
RecordReplayed h record_of.Malformed finding next = (finding ≡ Err Malformed) × (next ≡ h)

-- whether the record is right
abbrev pub holds : Finding → Bool
holds (Ok _) = true
holds (Err flaw) = false

-- "Otherwise name the first wrong record, and whether it was malformed, refused (with the number), or another choice"
abbrev pub judgement_at : ℕ → Finding → Judgement
judgement_at k (Ok _) = accepted
judgement_at k (Err Malformed) = Err (rejection.Malformed k)
judgement_at k (Err (Refused why)) = Err (rejection.Refused k why)
judgement_at k (Err (Another ours)) = Err (AnotherChoice k ours)

-- How the records of a log are judged after the history h, and the history then; the first of them has number k. "The log is judged in order, so an earlier fault is named first."
pub data Judges : History → (k : ℕ) → (log : List ℕ) → Judgement → History → Type 0 where
  -- "An empty log is accepted"; and so is one whose records all are right
  ended : {h : History} {k : ℕ} → Judges h k [] accepted h
  -- a right record: what comes after it decides
  right : {h after next : History} {k kind stamp class bytes : ℕ} {log : List ℕ} {verdict : Judgement}
      → RecordReplayed h (record_of kind stamp class bytes) no_flaw after → Judges after (k + 1) log verdict next → Judges h k (kind ∷ stamp ∷ class ∷ bytes ∷ log) verdict next
  -- the first wrong record
  wrong : {h next : History} {k kind stamp class bytes : ℕ} {log : List ℕ} (finding : Finding)
      → RecordReplayed h (record_of kind stamp class bytes) finding next → holds finding ≡ false → Judges h k (kind ∷ stamp ∷ class ∷ bytes ∷ log) (judgement_at k finding) next
  -- "A list whose length isn't a multiple of four is malformed at its last, short record."
  short : {h : History} {k : ℕ} {log : List ℕ} → 0 < length log → length log < 4 → Judges h k log (Err (rejection.Malformed k)) h

-- "answered with that refusal": of a tree, with the class at fault
abbrev pub tree_refused : Fault → Rejection
tree_refused fault = TreeRefused fault.why fault.class

-- "replayed from a given tree and first stamp"
pub data LogJudged (tree : Tree) (first : ℕ) (log : List ℕ) : Judgement → Type 0 where
  -- "A tree that start refuses is answered with that refusal before any record is read."
  refused : {why : Refusal} {class : ℕ} {start : History} → Starts tree first (at_fault why class) start → LogJudged tree first log (Err (TreeRefused why class))
  -- otherwise its records decide, numbered from 0
  replayed : {start next : History} {verdict : Judgement} → Starts tree first all_right start → Judges start 0 log verdict next → LogJudged tree first log verdict
