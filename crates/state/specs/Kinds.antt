-- What a step of the scheduler answers, where it is not a number.
-- Assumes nothing.
use Rattle.std.specs.Prelude.{ℕ, Result}
use Rattle.tree.specs.declared.Refusal.{Refusal}

-- the clock after a call, or a refusal
abbrev pub NextClock : Type 0
NextClock = Result ℕ Refusal
