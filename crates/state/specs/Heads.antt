-- What the heads of many functions say: that there is something of which they hold, and that they hold of everything that the arrays show.
-- Assumes nothing.
use Rattle.std.specs.Prelude.{ℕ, List}
use Rattle.tree.specs.declared.Tree.{Tree}
use Rattle.rules.specs.Calls.{Call, History}
use Rattle.rules.specs.Lawful.{Lawful}
use Rattle.state.specs.State.{Shows}

-- there is one of which P holds
pub record Some {A : Type 0} (P : A → Type 0) : Type 0 where
  pub it : A
  pub holds : P it

-- there are a tree and calls of which P holds
pub record SomeCalls (P : Tree → List Call → Type 0) : Type 0 where
  pub tree : Tree
  pub calls : List Call
  pub holds : P tree calls

-- the arrays show a lawful history of which P holds
pub record SomeHistory (m l : List ℕ) (P : History → Type 0) : Type 0 where
  pub history : History
  pub lawful : Lawful history
  pub shows : Shows m l history
  pub holds : P history

-- of every tree and calls of which P holds, Q holds
abbrev pub EveryCalls : (P Q : Tree → List Call → Type 0) → Type 0
EveryCalls P Q = (tree : Tree) (cs : List Call) → P tree cs → Q tree cs

-- P holds of every lawful history that the arrays show
abbrev pub EveryHistory : (m l : List ℕ) → (History → Type 0) → Type 0
EveryHistory m l P = (h : History) → Lawful h → Shows m l h → P h
