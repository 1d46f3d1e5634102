-- The history that document 01's definitions speak of: the tree, the first stamp, and the calls that were not refused.
-- Assumes nothing.
use Rattle.std.specs.Prelude.{ℕ, List}
use Rattle.tree.specs.declared.Tree.{Tree}
use Rattle.rules.specs.declared.Rule.{Rule}

-- A call that was kept. `at` is the clock after it.
--   came at leaf length  an arrival that was accepted: a packet of that length, into that leaf
--   left at leaf rule    a departure that answered the head packet of that leaf, by that rule
--   idle at              a departure that answered "none waits": it "moves the clock and nothing else"
-- "A refusal there gives back the same state", so that a refused call is no part of a history.
pub data Call : Type 0 where
  came : (at leaf length : ℕ) → Call
  left : (at leaf : ℕ) → (rule : Rule) → Call
  idle : (at : ℕ) → Call

-- The newest call stands first.
pub record History : Type 0 where
  pub tree : Tree
  pub first : ℕ
  pub calls : List Call
