-- Document 01, "Units and limits": the clock and the line card's stamps.
-- Assumes nothing.
use Rattle.std.specs.Prelude.{ℕ, ◌+◌, ◌-◌, ◌%◌, List, [], ◌∷◌}
use Rattle.rules.specs.Limits.{wheel}
use Rattle.rules.specs.Calls.{Call, came, left, idle}

-- the clock: "Start takes a first stamp, which is time 0", and each kept call moves it on
unfoldable pub clock : List Call → ℕ
clock [] = 0
clock (came at j n ∷ cs) = at
clock (left at j r ∷ cs) = at
clock (idle at ∷ cs) = at

-- "the last kept stamp": that of the last call that was not refused, or the first (`StampKept` and `FirstKept` of specs/Sentences)
unfoldable pub last_stamp : ℕ → List Call → ℕ
last_stamp first cs = (first + clock cs) % wheel

-- "Each later call's elapsed ticks are its stamp less the last kept stamp, modulo 2^32"
unfoldable pub elapsed_ticks : ℕ → ℕ → ℕ
elapsed_ticks stamp last = (stamp + (wheel - last)) % wheel
