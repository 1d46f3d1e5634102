-- What is proved of judging. Each statement stands here under a name; a comment names the law of proofs/ that proves it.
-- Assumes nothing.
use Rattle.rules.specs.Kinds.{Arrival, Departure}
use Rattle.std.specs.Prelude.{ℕ, ◌+◌, ◌*◌, ◌≡◌, List, [], ◌++◌, length}
use Rattle.tree.specs.declared.Tree.{Tree}
use Rattle.tree.specs.Verdicts.{all_right}
use Rattle.rules.specs.Calls.{History}
use Rattle.sched.specs.Promises.{StartRight, ArriveRight, DepartRight}
use Rattle.records.specs.Records.{arrival_entry, departure_entry, entry_numbers}
use Rattle.judge.specs.Kinds.{Judgement, accepted}
use Rattle.judge.specs.Judging.{Judges, LogJudged}

-- The log of a run of our own calls: a start that is not refused, and then arrivals and departures, each as its promise says. A call leaves its record, and a refused one none.
pub data Logs (tree : Tree) (first : ℕ) : (log m l : List ℕ) → History → Type 0 where
  started : {m l : List ℕ} → (right : StartRight tree first all_right m l) → Logs tree first [] m l right.next
  arrived : {log m l m' l' : List ℕ} {h : History} {stamp class bytes : ℕ} {answer : Arrival}
      → Logs tree first log m l h → (right : ArriveRight h stamp class bytes answer m' l')
      → Logs tree first (log ++ entry_numbers (arrival_entry stamp class bytes answer)) m' l' right.next
  departed : {log m l m' l' : List ℕ} {h : History} {stamp : ℕ} {answer : Departure}
      → Logs tree first log m l h → (right : DepartRight h stamp answer m' l')
      → Logs tree first (log ++ entry_numbers (departure_entry stamp answer)) m' l' right.next

-- a log of our own calls is accepted: `own_log_accepted`
abbrev pub OwnLogAccepted : Type 0
OwnLogAccepted = (tree : Tree) (first : ℕ) (log m l : List ℕ) (h : History) → Logs tree first log m l h → LogJudged tree first log accepted

-- an accepted log cut after any record is accepted: `cut_accepted`
abbrev pub CutAccepted : Type 0
CutAccepted =
    (tree : Tree) (first records : ℕ) (front rest : List ℕ) → length front ≡ 4 * records → LogJudged tree first (front ++ rest) accepted → LogJudged tree first front accepted

-- A log cut at a record's end, judged in two parts, the second from where the first has come to. It is accepted exactly if both parts are: `parts_accepted` and `accepted_parts`.
pub record InParts (h : History) (k records : ℕ) (front rest : List ℕ) (verdict : Judgement) (next : History) : Type 0 where
  pub between : History
  pub first : Judges h k front accepted between
  pub second : Judges between (k + records) rest verdict next

abbrev pub PartsAccepted : Type 0
PartsAccepted =
    (h : History) (k records : ℕ) (front rest : List ℕ) (next : History) → length front ≡ 4 * records
    → InParts h k records front rest accepted next → Judges h k (front ++ rest) accepted next

abbrev pub AcceptedParts : Type 0
AcceptedParts =
    (h : History) (k records : ℕ) (front rest : List ℕ) (next : History) → length front ≡ 4 * records
    → Judges h k (front ++ rest) accepted next → InParts h k records front rest accepted next

-- and any judgement of a log is the second part's where the first is accepted, and the first part's where it is not: `parts_judged` and `first_part_judged`
abbrev pub PartsJudged : Type 0
PartsJudged =
    (h : History) (k records : ℕ) (front rest : List ℕ) (verdict : Judgement) (next : History) → length front ≡ 4 * records
    → InParts h k records front rest verdict next → Judges h k (front ++ rest) verdict next

abbrev pub FirstPartJudged : Type 0
FirstPartJudged =
    (h : History) (k records : ℕ) (front rest : List ℕ) (verdict : Judgement) (next : History) → length front ≡ 4 * records
    → (verdict ≡ accepted → ⊥) → Judges h k front verdict next → Judges h k (front ++ rest) verdict next
