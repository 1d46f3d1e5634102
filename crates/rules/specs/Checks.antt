-- Document 01, "Numbers of refusal": the checks of a call of the scheduler, one table.
-- Assumes nothing.
use Rattle.std.specs.Prelude.{ℕ, ◌+◌, Bool, cond, not, ◌&&◌, List, [], ◌∷◌, ◌++◌, length, nat_le, nat_lt}
use Rattle.tree.specs.declared.Tree.{Tree}
use Rattle.tree.specs.Trees.{is_leaf}
use Rattle.rules.specs.Limits.{longest, room, last_tick, most_bytes_accepted, too_far, weigh}
use Rattle.rules.specs.Calls.{Call}
use Rattle.rules.specs.Clock.{clock}
use Rattle.rules.specs.Queues.{queue, accepted}

-- a row of the table of refusals: its number, and whether the call is refused for it
pub record Check : Type 0 where
  pub number : ℕ
  pub fails : Bool

pub data Outcome : Type 0 where
  passed : Outcome
  refused : (number : ℕ) → Outcome

-- checks are made in their order: the first that fails gives the number of the refusal
unfoldable pub outcome : List Check → Outcome
outcome [] = passed
outcome (c ∷ cs) = cond c.fails (refused c.number) (outcome cs)

-- "a departure 14, 15", after the calls so far and as many elapsed ticks
--   14: "elapsed ticks are 2^31 or more"
--   15: "clock would pass 2^40"
abbrev pub departure_checks : List Call → (elapsed : ℕ) → List Check
departure_checks cs elapsed =
    record { number = 14; fails = nat_le too_far elapsed }
    ∷ record { number = 15; fails = nat_lt last_tick (clock cs + elapsed) }
    ∷ []

-- the checks of a packet of length n and of the leaf j that it is for
--   11: "class number absent, or not a leaf"
--   12: "packet length outside 1 to 9,000"
--   13: "64 already wait in that leaf"
--   16: "accepted bytes would pass 2^40", where bytes are what packets count for (document 02, request 2); 12 stays with n
abbrev pub leaf_checks : Tree → List Call → (j n : ℕ) → List Check
leaf_checks tree cs j n =
    record { number = 11; fails = not (is_leaf tree j) }
    ∷ record { number = 12; fails = not (nat_le 1 n && nat_le n longest) }
    ∷ record { number = 13; fails = nat_le room (length (queue cs j)) }
    ∷ record { number = 16; fails = nat_lt most_bytes_accepted (accepted cs + weigh n) }
    ∷ []

-- "An arrival checks 14, 15, 11, 12, 13, 16": a departure's, and then the leaf's
abbrev pub arrival_checks : Tree → List Call → (elapsed j n : ℕ) → List Check
arrival_checks tree cs elapsed j n = departure_checks cs elapsed ++ leaf_checks tree cs j n
