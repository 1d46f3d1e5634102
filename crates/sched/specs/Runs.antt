-- Runs of the scheduler: a start, and then calls, each as its promise says.
-- Assumes nothing.
use Rattle.rules.specs.Kinds.{Arrival, Departure}
use Rattle.std.specs.Prelude.{ℕ, ◌<◌, ◌^◌, List}
use Rattle.tree.specs.declared.Tree.{Tree}
use Rattle.tree.specs.Verdicts.{Verdict}
use Rattle.rules.specs.Calls.{History}
use Rattle.rules.specs.Link.{Link}
use Rattle.rules.specs.Guarantee.{Guaranteed}
use Rattle.sched.specs.Promises.{StartRight, ArriveRight, DepartRight}

-- The arrays that a run of calls has come to, and its history: a start with a stamp of 32 bits, an arrival or a departure after a run, whatever it answered.
pub data Run : (m l : List ℕ) → History → Type 0 where
  started : {tree : Tree} {stamp : ℕ} {answer : Verdict} {m l : List ℕ} → stamp < 2 ^ 32 → (right : StartRight tree stamp answer m l) → Run m l right.next
  arrived : {m l m' l' : List ℕ} {h : History} {stamp class bytes : ℕ} {answer : Arrival}
      → Run m l h → (right : ArriveRight h stamp class bytes answer m' l') → Run m' l' right.next
  departed : {m l m' l' : List ℕ} {h : History} {stamp : ℕ} {answer : Departure}
      → Run m l h → (right : DepartRight h stamp answer m' l') → Run m' l' right.next

-- Demand 3, of the code: any run of start, arrive and depart that keeps to the link has the guarantee
abbrev pub RunsGuaranteed : Type 0
RunsGuaranteed = (m l : List ℕ) (h : History) (r : ℕ) → Run m l h → Link r h.calls → Guaranteed h.tree h.calls
