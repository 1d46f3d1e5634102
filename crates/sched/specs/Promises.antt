-- What each call of the scheduler promises: its answer is the one by document 01's definitions, and the arrays then show the history after it.
-- Assumes nothing.
use Rattle.rules.specs.Kinds.{Arrival, Departure}
use Rattle.std.specs.Prelude.{ℕ, ◌≡◌, List, Err}
use Rattle.tree.specs.declared.Tree.{Tree}
use Rattle.tree.specs.declared.Refusal.{Refusal}
use Rattle.tree.specs.Verdicts.{Verdict}
use Rattle.rules.specs.Calls.{History}
use Rattle.rules.specs.Answers.{Starts, Arrives, Departs}
use Rattle.state.specs.State.{Shows, Reached}
use Rattle.state.specs.Heads.{EveryHistory}

-- of a start with this tree and first stamp
pub record StartRight (tree : Tree) (stamp : ℕ) (answer : Verdict) (m l : List ℕ) : Type 0 where
  pub next : History
  pub starts : Starts tree stamp answer next
  pub shows : Shows m l next

-- of an arrival after the history h, "a refusal there gives back the same state"
pub record ArriveRight (h : History) (stamp class bytes : ℕ) (answer : Arrival) (m l : List ℕ) : Type 0 where
  pub next : History
  pub arrives : Arrives h stamp class bytes answer next
  pub shows : Shows m l next

-- of a departure after the history h
pub record DepartRight (h : History) (stamp : ℕ) (answer : Departure) (m l : List ℕ) : Type 0 where
  pub next : History
  pub departs : Departs h stamp answer next
  pub shows : Shows m l next

-- "a refusal there gives back the same state": an arrival that is refused leaves both arrays as they were
abbrev pub ArriveRefused : Type 0
ArriveRefused =
    (m₀ l₀ : List ℕ) → Reached m₀ l₀ → (stamp class bytes : ℕ) (why : Refusal) (m l : List ℕ)
    → EveryHistory m₀ l₀ (λ h. ArriveRight h stamp class bytes (Err why) m l) → (m ≡ m₀) × (l ≡ l₀)

-- and so does a departure that is refused
abbrev pub DepartRefused : Type 0
DepartRefused =
    (m₀ l₀ : List ℕ) → Reached m₀ l₀ → (stamp : ℕ) (why : Refusal) (m l : List ℕ)
    → EveryHistory m₀ l₀ (λ h. DepartRight h stamp (Err why) m l) → (m ≡ m₀) × (l ≡ l₀)
