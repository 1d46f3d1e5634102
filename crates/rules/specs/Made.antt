-- "A state comes only from start or an earlier call": the histories that a start and calls make, which are the lawful ones.
-- Assumes nothing.
use Rattle.rules.specs.Kinds.{Arrival, Departure}
use Rattle.std.specs.Prelude.{ℕ, ◌<◌}
use Rattle.tree.specs.declared.Tree.{Tree}
use Rattle.tree.specs.Verdicts.{Verdict}
use Rattle.rules.specs.Limits.{wheel}
use Rattle.rules.specs.Calls.{History}
use Rattle.rules.specs.Lawful.{Lawful}
use Rattle.rules.specs.Answers.{Arrives, Departs, Starts}

-- A start with any tree and an arrival or a departure, each with a stamp of 32 bits and whatever it answers.
pub data Made : History → Type 0 where
  by_start : (tree : Tree) (stamp : ℕ) (verdict : Verdict) {h : History} → stamp < wheel → Starts tree stamp verdict h → Made h
  by_arrival : (stamp j n : ℕ) (answer : Arrival) {h next : History} → Made h → stamp < wheel → Arrives h stamp j n answer next → Made next
  by_departure : (stamp : ℕ) (answer : Departure) {h next : History} → Made h → stamp < wheel → Departs h stamp answer next → Made next

-- the theorems `lawful_made` and `made_lawful`
abbrev pub LawfulMade : Type 0
LawfulMade = (h : History) → Lawful h → Made h

abbrev pub MadeLawful : Type 0
MadeLawful = (h : History) → Made h → Lawful h
