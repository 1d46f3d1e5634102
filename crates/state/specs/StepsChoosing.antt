-- What the choice reads off the table: the small definitions that its inner promises cite.
-- Assumes nothing.
use Rattle.std.specs.Prelude.{ℕ, ◌+◌, ◌≤◌, ◌<◌, ◌≡◌, true, false, List, length, Option, Some, None}
use Rattle.tree.specs.declared.Tree.{Tree}
use Rattle.tree.specs.Trees.{deepest, is_leaf, depth}
use Rattle.rules.specs.Calls.{Call}
use Rattle.rules.specs.Classes.{active}
use Rattle.rules.specs.Fair.{virtual_time_of}
use Rattle.rules.specs.Choice.{Choice, First, Contends, RealTimeRule, ActiveChild, NothingWaits}
use Rattle.rules.specs.Lawful.{LawfulCalls, Grown}
use Rattle.state.specs.declared.choice.Sender.{Sender}
use Rattle.state.specs.Table.{at, header_at, CLASSES, COLUMNS, CELLS}
use Rattle.state.specs.Columns.{COUNT}
use Rattle.state.specs.State.{ShowsTree, ShowsLeaf, ShowsFair}

-- the table tells of a tree and the calls so far: every column but the header's
pub record Told (m : List ℕ) (tree : Tree) (cs : List Call) : Type 0 where
  pub size : length m ≡ CELLS
  pub grown : Grown tree
  pub lawful : LawfulCalls tree cs
  pub count : header_at m COUNT ≡ tree.count
  pub trees : (i : ℕ) → i < tree.count → ShowsTree m tree i
  pub leaves : (i : ℕ) → i < tree.count → ShowsLeaf m tree cs i
  pub fairs : (i : ℕ) → i < tree.count → ShowsFair m tree cs i
  pub blank : (i f : ℕ) → tree.count ≤ i → i < CLASSES → 1 ≤ f → f < COLUMNS → at m i f ≡ 0

-- the real-time rule's leaf, or nothing exactly where no leaf contends
abbrev pub Soonest : Tree → List Call → ℕ → Option ℕ → Type 0
Soonest tree cs tick (Some j) = RealTimeRule tree cs tick j
Soonest tree cs tick None = (k d : ℕ) → Contends tree cs tick k d → ⊥

-- an active class with children: the fair rule goes to one of them
pub record Stepping (m : List ℕ) (tree : Tree) (cs : List Call) (i : ℕ) : Type 0 where
  pub told : Told m tree cs
  pub class : i < tree.count
  pub inner : is_leaf tree i ≡ false
  pub is_active : active tree cs i ≡ true

abbrev pub Lightest : Tree → List Call → ℕ → ℕ → Type 0
Lightest tree cs i k = First (ActiveChild tree cs i) k (virtual_time_of tree cs k)

-- an active class, and so many steps left that the deepest class is reached
pub record Descending (m : List ℕ) (tree : Tree) (cs : List Call) (i steps : ℕ) : Type 0 where
  pub told : Told m tree cs
  pub class : i < tree.count
  pub is_active : active tree cs i ≡ true
  pub enough : deepest ≤ depth tree i + steps

-- what the rules choose, or nothing exactly where nothing waits
abbrev pub Chosen : Tree → List Call → ℕ → Option Sender → Type 0
Chosen tree cs tick (Some sender) = Choice tree cs tick sender.class sender.rule
Chosen tree cs tick None = NothingWaits cs
