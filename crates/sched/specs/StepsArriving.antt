-- What the steps of an arrival make of the table: the small definitions that their promises cite.
-- Assumes nothing.
use Rattle.rules.specs.Kinds.{Arrival}
use Rattle.std.specs.Prelude.{ℕ, ◌≤◌, ◌<◌, ◌≡◌, List, ◌∷◌, length, Result, Ok, Err}
use Rattle.tree.specs.declared.Tree.{Tree}
use Rattle.tree.specs.declared.Refusal.{Refusal}
use Rattle.tree.specs.Numbers.{number_of}
use Rattle.rules.specs.Calls.{Call, came, History}
use Rattle.rules.specs.Queues.{next_number, accepted}
use Rattle.rules.specs.Checks.{outcome, passed, refused, leaf_checks}
use Rattle.rules.specs.Answers.{with_call}
use Rattle.state.specs.Table.{at, header_at, CLASSES, COLUMNS, CELLS, PLACES}
use Rattle.state.specs.Columns.{header_cells, CLOCK, STAMP, ACCEPTED, COUNT, times_from, fair_from}
use Rattle.state.specs.State.{ShowsTree, ShowsLeaf, ShowsFair, ShowsSlots, Shows, Reached}
use Rattle.state.specs.Steps.{tick_of, LeafTimed, BeforeTiming}

-- the verdict of an arrival's checks that look at the leaf
abbrev pub AdmissionRight : History → ℕ → ℕ → Result Unit Refusal → Type 0
AdmissionRight h j n (Ok tt) = outcome (leaf_checks h.tree h.calls j n) ≡ passed
AdmissionRight h j n (Err why) = outcome (leaf_checks h.tree h.calls j n) ≡ refused (number_of why)

-- a packet has come into an empty leaf, and was counted
pub record BeforeBegin (m : List ℕ) (tree : Tree) (cs : List Call) (j t n : ℕ) : Type 0 where
  pub timing : BeforeTiming m tree cs j t n
  pub fairs : (k : ℕ) → k < tree.count → ShowsFair m tree cs k

-- the leaf's piece and times are in place, and what the arrival turned active is active: every column but those of the counts is as it is after the call
pub record AfterBegin (m m' : List ℕ) (tree : Tree) (cs : List Call) (j t n : ℕ) : Type 0 where
  pub size : length m' ≡ CELLS
  pub columns : (k f : ℕ) → k < CLASSES → f < times_from → at m' k f ≡ at m k f
  pub others : (k f : ℕ) → k < CLASSES → f < fair_from → (k ≡ j → ⊥) → at m' k f ≡ at m k f
  pub rows : (k f : ℕ) → tree.count ≤ k → k < CLASSES → f < COLUMNS → at m' k f ≡ at m k f
  pub timed : LeafTimed m' tree (came t j n ∷ cs) j
  pub fairs : (k : ℕ) → k < tree.count → ShowsFair m' tree (came t j n ∷ cs) k

-- the arrays show the history, but for its clock and its last stamp
pub record ShowsButClock (m l : List ℕ) (h : History) : Type 0 where
  pub size : length m ≡ CELLS
  pub room : length l ≡ PLACES
  pub accepted : header_at m ACCEPTED ≡ accepted h.calls
  pub count : header_at m COUNT ≡ h.tree.count
  pub rest : (i : ℕ) → header_cells ≤ i → i < CLASSES → header_at m i ≡ 0
  pub trees : (i : ℕ) → i < h.tree.count → ShowsTree m h.tree i
  pub leaves : (i : ℕ) → i < h.tree.count → ShowsLeaf m h.tree h.calls i
  pub fairs : (i : ℕ) → i < h.tree.count → ShowsFair m h.tree h.calls i
  pub blank : (i f : ℕ) → h.tree.count ≤ i → i < CLASSES → 1 ≤ f → f < COLUMNS → at m i f ≡ 0
  pub slots : (i : ℕ) → i < CLASSES → ShowsSlots l h.calls i

-- a packet that the rules allow is put into its queue
pub record AcceptRight (h : History) (t j n number : ℕ) (m l : List ℕ) : Type 0 where
  pub numbered : number ≡ next_number h.calls j
  pub shows : ShowsButClock m l (with_call h (came t j n))

-- an arrival at a tick that some stamp gives the clock
pub record Receivable (m l : List ℕ) (t : ℕ) : Type 0 where
  pub reached : Reached m l
  pub stamp : ℕ
  pub ticked : Ok t ≡ tick_of (header_at m CLOCK) (header_at m STAMP) stamp

pub record ReceiveAccepted (h : History) (t j n number : ℕ) (m l : List ℕ) : Type 0 where
  pub checked : outcome (leaf_checks h.tree h.calls j n) ≡ passed
  pub right : AcceptRight h t j n number m l

-- "A refusal there gives back the same state"
pub record ReceiveRefused (h : History) (j n : ℕ) (why : Refusal) (m l : List ℕ) : Type 0 where
  pub checked : outcome (leaf_checks h.tree h.calls j n) ≡ refused (number_of why)
  pub shows : Shows m l h

abbrev pub ReceiveRight : History → (t j n : ℕ) → Arrival → (m l : List ℕ) → Type 0
ReceiveRight h t j n (Ok number) m l = ReceiveAccepted h t j n number m l
ReceiveRight h t j n (Err why) m l = ReceiveRefused h j n why m l
