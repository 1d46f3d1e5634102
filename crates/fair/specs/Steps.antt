-- What the steps of a class among its parent's children make of the table, as the calls see them: the definitions that their promises cite.
-- Assumes nothing.
use Rattle.std.specs.Prelude.{ℕ, ◌≤◌, ◌<◌, ◌≡◌, true, false, List, ◌∷◌, length}
use Rattle.curve.specs.declared.Piece.{Piece}
use Rattle.tree.specs.declared.Tree.{Tree}
use Rattle.tree.specs.Trees.{is_leaf}
use Rattle.rules.specs.declared.Rule.{Rule}
use Rattle.rules.specs.Limits.{weigh}
use Rattle.rules.specs.Calls.{Call, came, left}
use Rattle.rules.specs.Queues.{queue, waits, head_length}
use Rattle.rules.specs.Classes.{sent}
use Rattle.rules.specs.Fair.{virtual_time_of}
use Rattle.state.specs.Table.{at, CLASSES, COLUMNS, CELLS}
use Rattle.state.specs.Columns.{SENT, VIRTUAL, ACTIVE, FAIR_START, FAIR_SENT, fair_from}
use Rattle.state.specs.State.{ShowsFair, activity}
use Rattle.state.specs.Steps.{Planted}

-- the fair piece that a class's columns have
abbrev pub fair_in : List ℕ → ℕ → Piece
fair_in m i = record { start = at m i FAIR_START; sent = at m i FAIR_SENT }

-- The steps of a class among its parent's children. The columns from `fair_from` on are theirs; the others stay as they are.

-- the columns before those, and the rows of no class, are as they were
pub record KeepsOthers (m m' : List ℕ) (tree : Tree) : Type 0 where
  pub size : length m' ≡ CELLS
  pub columns : (k f : ℕ) → k < CLASSES → f < fair_from → at m' k f ≡ at m k f
  pub rows : (k f : ℕ) → tree.count ≤ k → k < CLASSES → f < COLUMNS → at m' k f ≡ at m k f

-- an empty leaf is about to turn active
pub record BeforeWaking (m : List ℕ) (tree : Tree) (cs : List Call) (j : ℕ) : Type 0 where
  pub planted : Planted m tree cs
  pub leaf : is_leaf tree j ≡ true
  pub empty : waits cs j ≡ false
  pub fairs : (k : ℕ) → k < tree.count → ShowsFair m tree cs k

pub record AfterWaking (m m' : List ℕ) (tree : Tree) (cs : List Call) (j : ℕ) : Type 0 where
  pub alone : KeepsOthers m m' tree
  pub fairs : (t n k : ℕ) → k < tree.count → ShowsFair m' tree (came t j n ∷ cs) k

-- the head of a waiting leaf, of that many bytes, has left
pub record BeforeRaise (m : List ℕ) (tree : Tree) (cs : List Call) (j bytes : ℕ) : Type 0 where
  pub planted : Planted m tree cs
  pub waiting : waits cs j ≡ true
  pub head : bytes ≡ weigh (head_length cs j)
  pub fairs : (k : ℕ) → k < tree.count → ShowsFair m tree cs k

pub record AfterRaise (m m' : List ℕ) (tree : Tree) (cs : List Call) (j : ℕ) : Type 0 where
  pub alone : KeepsOthers m m' tree
  pub sents : (t : ℕ) (r : Rule) (k : ℕ) → k < tree.count → at m' k SENT ≡ sent tree (left t j r ∷ cs) k
  pub virtuals : (t : ℕ) (r : Rule) (k : ℕ) → k < tree.count → at m' k VIRTUAL ≡ virtual_time_of tree (left t j r ∷ cs) k
  pub others : (k f : ℕ) → k < CLASSES → f < COLUMNS → (f ≡ SENT → ⊥) → (f ≡ VIRTUAL → ⊥) → at m' k f ≡ at m k f

-- the last packet of a leaf has left
pub record BeforeRest (m : List ℕ) (tree : Tree) (cs : List Call) (j : ℕ) : Type 0 where
  pub planted : Planted m tree cs
  pub waiting : waits cs j ≡ true
  pub last : length (queue cs j) ≡ 1
  pub actives : (k : ℕ) → k < tree.count → at m k ACTIVE ≡ activity tree cs k

pub record AfterRest (m m' : List ℕ) (tree : Tree) (cs : List Call) (j : ℕ) : Type 0 where
  pub alone : KeepsOthers m m' tree
  pub actives : (t : ℕ) (r : Rule) (k : ℕ) → k < tree.count → at m' k ACTIVE ≡ activity tree (left t j r ∷ cs) k
  pub others : (k f : ℕ) → k < CLASSES → f < COLUMNS → (f ≡ ACTIVE → ⊥) → at m' k f ≡ at m k f
