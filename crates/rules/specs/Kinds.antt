-- Document 01, "One departure" and "What the definitions say": the kinds of an answer to a departure and to an arrival.
-- Assumes nothing.
use Rattle.std.specs.Prelude.{ℕ, Option, Result}
use Rattle.tree.specs.declared.Refusal.{Refusal}
use Rattle.rules.specs.declared.Packet.{Packet}

-- the accepted packet's number, or a refusal
abbrev pub Arrival : Type 0
Arrival = Result ℕ Refusal

-- a packet, or none where none waits, or a refusal
abbrev pub Departure : Type 0
Departure = Result (Option Packet) Refusal
