-- The histories that document 01 allows: "A state comes only from start or an earlier call". (The theorems `lawful_made` and `made_lawful`, whose types
-- stand in specs/Made, say that they are those that a start and calls make.)
-- Assumes nothing.
use Rattle.std.specs.Prelude.{◌≡◌, ℕ, ◌+◌, ◌<◌, List, [], ◌∷◌}
use Rattle.tree.specs.declared.Tree.{Tree}
use Rattle.tree.specs.Trees.{empty_tree}
use Rattle.tree.specs.Rules.{RightTree}
use Rattle.rules.specs.Limits.{wheel}
use Rattle.rules.specs.Calls.{Call, came, left, idle, History}
use Rattle.rules.specs.Clock.{clock}
use Rattle.rules.specs.Choice.{Choice, NothingWaits}
use Rattle.rules.specs.Checks.{Check, passed, outcome, departure_checks, arrival_checks}

-- the checks of a call, after the calls before it and as many elapsed ticks
abbrev pub checks_of : Tree → List Call → Call → (elapsed : ℕ) → List Check
checks_of tree cs (came at j n) elapsed = arrival_checks tree cs elapsed j n
checks_of tree cs (left at j r) elapsed = departure_checks cs elapsed
checks_of tree cs (idle at) elapsed = departure_checks cs elapsed

-- what a departure finds: the packet that the rules choose, or that none waits
abbrev pub Finds : Tree → List Call → Call → Type 0
Finds tree cs (came at j n) = Unit {0}
Finds tree cs (left at j r) = Choice tree cs at j r
Finds tree cs (idle at) = NothingWaits cs

-- a call is one that the rules allow after the calls before it: the elapsed ticks take the clock to its tick, all of its checks are passed, and a
-- departure answers what it finds
pub record Allowed (tree : Tree) (cs : List Call) (c : Call) : Type 0 where
  pub elapsed : ℕ
  pub is_tick : clock (c ∷ cs) ≡ clock cs + elapsed
  pub checked : outcome (checks_of tree cs c elapsed) ≡ passed
  pub finds : Finds tree cs c

unfoldable pub LawfulCalls : Tree → List Call → Type 0
LawfulCalls tree [] = Unit {0}
LawfulCalls tree (c ∷ cs) = Allowed tree cs c × LawfulCalls tree cs

-- a tree that a start kept, or the tree of no classes that "a refused start gives"
pub data Grown (tree : Tree) : Type 0 where
  right : RightTree tree → Grown tree
  none : tree ≡ empty_tree → Grown tree

pub record Lawful (h : History) : Type 0 where
  pub grown : Grown h.tree
  pub stamp : h.first < wheel
  pub lawful : LawfulCalls h.tree h.calls
