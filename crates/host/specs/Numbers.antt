-- The scheduler's answers as numbers. A call answers the number of its refusal, 0 where it is not refused; what else there is to say is written into
-- lent memory, with 0 wherever there is nothing to say.
-- Assumes nothing.
use Rattle.rules.specs.Kinds.{Arrival, Departure}
use Rattle.std.specs.Prelude.{ℕ, List, [], ◌∷◌, Option, Some, None, Result, Ok, Err}
use Rattle.tree.specs.declared.Fault.{Fault}
use Rattle.tree.specs.declared.Refusal.{Refusal}
use Rattle.tree.specs.Numbers.{number_of}
use Rattle.tree.specs.Verdicts.{Verdict, all_right}
use Rattle.file.specs.Writing.{Written}
use Rattle.rules.specs.declared.Rule.{Rule}
use Rattle.rules.specs.declared.Rule.TheVariants.{RealTime, Fair}
use Rattle.rules.specs.declared.Times.{Times}
use Rattle.rules.specs.declared.Packet.{Packet}

-- of a start, or of a file that is read: the number of the refusal, and the class that it names
abbrev pub verdict_number : Verdict → ℕ
verdict_number (Ok _) = 0
verdict_number (Err fault) = number_of fault.why

abbrev pub verdict_class : Verdict → ℕ
verdict_class (Ok _) = 0
verdict_class (Err fault) = fault.class

-- the verdict in an answer that is a value or a fault
abbrev pub verdict_of : {A : Type 0} → Result A Fault → Verdict
verdict_of (Ok value) = all_right
verdict_of (Err fault) = Err fault

-- of a tree that is written as a file: the verdict, which is told as above, and the total bytes
abbrev pub written_verdict : Written → Verdict
written_verdict = verdict_of

abbrev pub written_total : Written → ℕ
written_total (Ok total) = total
written_total (Err fault) = 0

-- of a call that answers a value or a refusal: the number of the refusal
abbrev pub refusal_number : {A : Type 0} → Result A Refusal → ℕ
refusal_number (Ok value) = 0
refusal_number (Err why) = number_of why

-- of an arrival: the number of the refusal, and the packet's number within its leaf
abbrev pub arrival_number : Arrival → ℕ
arrival_number = refusal_number

abbrev pub packet_number : Arrival → ℕ
packet_number (Ok number) = number
packet_number (Err why) = 0

abbrev pub rule_number : Rule → ℕ
rule_number RealTime = 1
rule_number Fair = 2

-- whether there are times, eligible time, deadline
abbrev pub times_numbers : Option Times → List ℕ
times_numbers None = 0 ∷ 0 ∷ 0 ∷ []
times_numbers (Some times) = 1 ∷ times.eligible ∷ times.deadline ∷ []

-- 1, "class, its number within the leaf from 0, length, rule, and for a leaf with a real-time curve eligible time and deadline"
abbrev pub packet_numbers : Packet → List ℕ
packet_numbers p = 1 ∷ p.class ∷ p.number ∷ p.length ∷ rule_number p.rule ∷ times_numbers p.times

-- of a departure: the number of the refusal, and the packet that leaves, if one does
abbrev pub departure_number : Departure → ℕ
departure_number = refusal_number

abbrev pub no_packet : List ℕ
no_packet = 0 ∷ 0 ∷ 0 ∷ 0 ∷ 0 ∷ 0 ∷ 0 ∷ 0 ∷ []

abbrev pub departure_numbers : Departure → List ℕ
departure_numbers (Ok (Some packet)) = packet_numbers packet
departure_numbers (Ok None) = no_packet
departure_numbers (Err why) = no_packet
