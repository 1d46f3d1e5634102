-- What the steps upward after a departure make of the table, from a class on: the definitions that their promises cite.
-- Assumes nothing.
use Rattle.std.specs.Prelude.{ℕ, ◌<◌, ◌≡◌, Bool, true, false, ◌&&◌, List, ◌∷◌, length, ltb}
use Rattle.tree.specs.declared.Tree.{Tree}
use Rattle.tree.specs.Trees.{parent_of}
use Rattle.rules.specs.declared.Rule.{Rule}
use Rattle.rules.specs.Limits.{weigh}
use Rattle.rules.specs.Calls.{Call, left}
use Rattle.rules.specs.Queues.{waits, head_length}
use Rattle.rules.specs.Classes.{is_within, sent, active}
use Rattle.rules.specs.Fair.{virtual_time_of}
use Rattle.state.specs.Table.{at, CLASSES, CELLS}
use Rattle.state.specs.Columns.{SENT, FAIR_START, FAIR_SENT, VIRTUAL, ACTIVE}
use Rattle.state.specs.State.{activity, fair_kept}
use Rattle.state.specs.Steps.{Planted}

-- class k lies above class i
abbrev pub is_above : Tree → ℕ → ℕ → Bool
is_above tree k i = ltb 0 i && is_within tree k (parent_of tree i)

-- leaf j's last packet has left, and with it class i, in which j lies, has turned passive; the classes above i still have the counts from before
pub record BeforePassing (m : List ℕ) (tree : Tree) (cs : List Call) (j i : ℕ) : Type 0 where
  pub planted : Planted m tree cs
  pub waiting : waits cs j ≡ true
  pub line : is_within tree i j ≡ true
  pub passive : (t : ℕ) (r : Rule) → active tree (left t j r ∷ cs) i ≡ false
  pub actives : (k : ℕ) → is_above tree k i ≡ true → at m k ACTIVE ≡ activity tree cs k

-- now they have the counts from after it, and nothing else is changed
pub record AfterPassing (m m' : List ℕ) (tree : Tree) (cs : List Call) (j i : ℕ) : Type 0 where
  pub size : length m' ≡ CELLS
  pub actives : (t : ℕ) (r : Rule) (k : ℕ) → is_above tree k i ≡ true → at m' k ACTIVE ≡ activity tree (left t j r ∷ cs) k
  pub elsewhere : (k f : ℕ) → k < CLASSES → is_above tree k i ≡ false → at m' k f ≡ at m k f
  pub others : (k f : ℕ) → k < CLASSES → (f ≡ ACTIVE → ⊥) → at m' k f ≡ at m k f

-- the head of leaf j, of that many bytes, has left; class i, in which j lies, and the classes above it still have the counts from before
pub record BeforeLifting (m : List ℕ) (tree : Tree) (cs : List Call) (j bytes i : ℕ) : Type 0 where
  pub planted : Planted m tree cs
  pub waiting : waits cs j ≡ true
  pub head : bytes ≡ weigh (head_length cs j)
  pub line : is_within tree i j ≡ true
  pub sents : (k : ℕ) → is_within tree k i ≡ true → at m k SENT ≡ sent tree cs k
  pub starts : (k : ℕ) → is_within tree k i ≡ true → at m k FAIR_START ≡ (fair_kept tree cs k).start
  pub fair_sents : (k : ℕ) → is_within tree k i ≡ true → at m k FAIR_SENT ≡ (fair_kept tree cs k).sent
  pub root : at m 0 VIRTUAL ≡ 0

-- now they have the counts and virtual times from after it, and nothing else is changed
pub record AfterLifting (m m' : List ℕ) (tree : Tree) (cs : List Call) (j i : ℕ) : Type 0 where
  pub size : length m' ≡ CELLS
  pub sents : (t : ℕ) (r : Rule) (k : ℕ) → is_within tree k i ≡ true → at m' k SENT ≡ sent tree (left t j r ∷ cs) k
  pub virtuals : (t : ℕ) (r : Rule) (k : ℕ) → is_within tree k i ≡ true → at m' k VIRTUAL ≡ virtual_time_of tree (left t j r ∷ cs) k
  pub elsewhere : (k f : ℕ) → k < CLASSES → is_within tree k i ≡ false → at m' k f ≡ at m k f
  pub others : (k f : ℕ) → k < CLASSES → (f ≡ SENT → ⊥) → (f ≡ VIRTUAL → ⊥) → at m' k f ≡ at m k f
