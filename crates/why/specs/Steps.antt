-- What the sheet's inner steps read off the table: the small definitions that their promises cite.
-- Assumes nothing.
use Rattle.std.specs.Prelude.{ℕ, ◌*◌, ◌≤◌, ◌<◌, ◌≡◌, true, List, length, get_or, Option}
use Rattle.tree.specs.declared.Tree.{Tree}
use Rattle.tree.specs.Trees.{is_leaf}
use Rattle.rules.specs.Limits.{last_tick}
use Rattle.rules.specs.Calls.{Call}
use Rattle.rules.specs.Queues.{waits}
use Rattle.rules.specs.Choice.{RealTimeRule, FairRule}
use Rattle.state.specs.declared.choice.Sender.{Sender}
use Rattle.state.specs.StepsChoosing.{Told, Chosen}
use Rattle.reason.specs.Reasons.{numbers}
use Rattle.why.specs.Promises.{line_number, line_count, LineFor}

-- two leaves
pub record Apart (m : List ℕ) (tree : Tree) (cs : List Call) (i chosen : ℕ) : Type 0 where
  pub told : Told m tree cs
  pub leaf : is_leaf tree i ≡ true
  pub other : is_leaf tree chosen ≡ true
  pub apart : i ≡ chosen → ⊥

-- a leaf in which a packet waits, where the real-time rule chose
pub record AskedRealTime (m : List ℕ) (tree : Tree) (cs : List Call) (tick chosen i : ℕ) : Type 0 where
  pub told : Told m tree cs
  pub waiting : waits cs i ≡ true
  pub rule : RealTimeRule tree cs tick chosen

-- and where the fair rule chose
pub record AskedFair (m : List ℕ) (tree : Tree) (cs : List Call) (tick chosen i : ℕ) : Type 0 where
  pub told : Told m tree cs
  pub waiting : waits cs i ≡ true
  pub rule : FairRule tree cs tick chosen

-- a leaf, where this is what the rules choose
pub record Asked (m : List ℕ) (tree : Tree) (cs : List Call) (tick : ℕ) (sender : Option Sender) (i : ℕ) : Type 0 where
  pub told : Told m tree cs
  pub leaf : is_leaf tree i ≡ true
  pub chosen : Chosen tree cs tick sender

-- a sheet with room for all lines
pub record Fillable (m : List ℕ) (tree : Tree) (cs : List Call) (tick : ℕ) (sheet : List ℕ) : Type 0 where
  pub told : Told m tree cs
  pub in_time : tick ≤ last_tick
  pub room : numbers * line_count tree ≤ length sheet

-- the sheet has a line for every leaf below n, and the rest is as it was
pub record Filled (tree : Tree) (cs : List Call) (tick n : ℕ) (old new : List ℕ) : Type 0 where
  pub size : length new ≡ length old
  pub filled : (i : ℕ) → i < n → is_leaf tree i ≡ true → LineFor tree cs tick i new (numbers * line_number tree i)
  pub rest : (k : ℕ) → numbers * line_number tree n ≤ k → get_or new k 0 ≡ get_or old k 0
