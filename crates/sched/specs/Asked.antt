-- What a host may ask of a state, where the answer is no number that the rules name already.
-- Assumes nothing.
use Rattle.std.specs.Prelude.{ℕ, ◌≡◌, true, false, List, Some, None, Option}
use Rattle.tree.specs.declared.Tree.{Tree}
use Rattle.rules.specs.declared.Times.{Times}
use Rattle.rules.specs.Calls.{Call}
use Rattle.rules.specs.Leaves.{DeadlineOf, EligibleOf}
use Rattle.state.specs.State.{has_times}

pub record HeadTimed (tree : Tree) (cs : List Call) (j eligible deadline : ℕ) : Type 0 where
  pub timed : has_times tree cs j ≡ true
  pub is_eligible : EligibleOf tree cs j eligible
  pub is_deadline : DeadlineOf tree cs j deadline

-- "for a leaf with a real-time curve eligible time and deadline" of the head packet; untimed where no packet waits or the class has no real-time curve
abbrev pub HeadTimes : Tree → List Call → ℕ → Option Times → Type 0
HeadTimes tree cs j None = has_times tree cs j ≡ false
HeadTimes tree cs j (Some times) = HeadTimed tree cs j times.eligible times.deadline
