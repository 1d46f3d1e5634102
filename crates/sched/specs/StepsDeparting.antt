-- What a departure makes of the arrays: the small definitions that its inner promises cite.
-- Assumes nothing.
use Rattle.std.specs.Prelude.{ℕ, ◌≤◌, ◌<◌, ◌≡◌, List, ◌∷◌, length}
use Rattle.tree.specs.declared.Tree.{Tree}
use Rattle.rules.specs.declared.Rule.{Rule}
use Rattle.rules.specs.declared.Packet.{Packet}
use Rattle.rules.specs.Calls.{Call, left, History}
use Rattle.rules.specs.Queues.{head_number, next_number}
use Rattle.rules.specs.Leaves.{sent_real_time}
use Rattle.rules.specs.Lawful.{Allowed}
use Rattle.rules.specs.Answers.{IsHead, with_call}
use Rattle.state.specs.Table.{at, CLASSES, COLUMNS, CELLS, PLACES}
use Rattle.state.specs.Columns.{NEXT_NUMBER, HEAD_NUMBER, SENT_REAL_TIME, ACTIVE, times_from, fair_from}
use Rattle.state.specs.State.{kept_for, activity, ShowsSlots}
use Rattle.state.specs.Steps.{kept_in, Planted, ShowsTimes}
use Rattle.sched.specs.StepsArriving.{ShowsButClock}

-- A departure. The head of leaf j leaves at tick t by rule r.

-- the head has left: it is counted and its slot is free, but the next head has no times yet, and all are as active as before
pub record BeforeSettle (m l : List ℕ) (tree : Tree) (cs : List Call) (j t : ℕ) (r : Rule) : Type 0 where
  pub planted : Planted m tree cs
  pub allowed : Allowed tree cs (left t j r)
  pub number : at m j HEAD_NUMBER ≡ head_number (left t j r ∷ cs) j
  pub next : at m j NEXT_NUMBER ≡ next_number (left t j r ∷ cs) j
  pub bytes : at m j SENT_REAL_TIME ≡ sent_real_time (left t j r ∷ cs) j
  pub kept : kept_in m j ≡ kept_for tree cs j
  pub times : ShowsTimes m tree cs j
  pub actives : (k : ℕ) → k < tree.count → at m k ACTIVE ≡ activity tree cs k
  pub room : length l ≡ PLACES
  pub slots : ShowsSlots l (left t j r ∷ cs) j

pub record AfterSettle (m m' : List ℕ) (tree : Tree) (cs : List Call) (j t : ℕ) (r : Rule) : Type 0 where
  pub size : length m' ≡ CELLS
  pub columns : (k f : ℕ) → k < CLASSES → f < times_from → at m' k f ≡ at m k f
  pub others : (k f : ℕ) → k < CLASSES → f < fair_from → (k ≡ j → ⊥) → at m' k f ≡ at m k f
  pub fairs : (k f : ℕ) → k < CLASSES → fair_from ≤ f → f < ACTIVE → at m' k f ≡ at m k f
  pub rows : (k f : ℕ) → tree.count ≤ k → k < CLASSES → f < COLUMNS → at m' k f ≡ at m k f
  pub kept : kept_in m' j ≡ kept_for tree (left t j r ∷ cs) j
  pub times : ShowsTimes m' tree (left t j r ∷ cs) j
  pub actives : (k : ℕ) → k < tree.count → at m' k ACTIVE ≡ activity tree (left t j r ∷ cs) k

-- the head of the leaf that the rules choose is taken
pub record TakeRight (h : History) (t j : ℕ) (r : Rule) (p : Packet) (m l : List ℕ) : Type 0 where
  pub class : p.class ≡ j
  pub rule : p.rule ≡ r
  pub head : IsHead h.tree h.calls p
  pub shows : ShowsButClock m l (with_call h (left t j r))
