-- The numbers of an answer tell it: two answers with the same numbers are equal.
-- Assumes nothing.
use Rattle.std.specs.Prelude.{Option, Some, None, Ok, Err}
use Rattle.rules.specs.Kinds.{Arrival, Departure}
use Prim.Native.Nat.{ℕ, ◌<◌}
use mathlib.Core.Path.{◌≡◌, refl, ap}
use mathlib.Core.List.{List}
use native.Mathlib.Omega.{arith}
use lib.ListN.{get_or, drop}
use Rattle.tree.specs.Numbers.{number_of}
use Rattle.tree.specs.declared.Refusal.{Refusal}
use Rattle.tree.specs.declared.Refusal.TheVariants.{ShortFile, NoMark, OtherVersion, WrongCount, WrongTotal, WrongPlace, WrongBody, TooDeep, CurveAboveChildren, CurvesDontFit, NoSuchLeaf, WrongLength, LeafFull, StampTooFar, ClockFull, BytesFull, SmallBuffer}
use Rattle.tree.specs.declared.Fault.{Fault}
use Rattle.tree.specs.Verdicts.{Verdict}
use Rattle.tree.proofs.Numbers.{refusal_by_number}
use Rattle.file.specs.Writing.{Written}
use Rattle.rules.specs.declared.Rule.{Rule}
use Rattle.rules.specs.declared.Rule.TheVariants.{RealTime, Fair}
use Rattle.rules.specs.declared.Times.{Times}
use Rattle.rules.specs.declared.Packet.{Packet}
use Rattle.host.specs.Numbers.{verdict_number, verdict_class, written_verdict, written_total, arrival_number, packet_number, rule_number, times_numbers, packet_numbers, departure_number, departure_numbers}

-- no refusal has the number 0
pub number_some : (why : Refusal) → 0 < number_of why
number_some ShortFile = omega arith
number_some NoMark = omega arith
number_some OtherVersion = omega arith
number_some WrongCount = omega arith
number_some WrongTotal = omega arith
number_some WrongPlace = omega arith
number_some WrongBody = omega arith
number_some TooDeep = omega arith
number_some CurveAboveChildren = omega arith
number_some CurvesDontFit = omega arith
number_some NoSuchLeaf = omega arith
number_some WrongLength = omega arith
number_some LeafFull = omega arith
number_some StampTooFar = omega arith
number_some ClockFull = omega arith
number_some BytesFull = omega arith
number_some SmallBuffer = omega arith

fault_told : (a b : Fault) → number_of a.why ≡ number_of b.why → a.class ≡ b.class → a ≡ b
fault_told a b e f =
    let same = refusal_by_number a.why b.why e in
    λ i. record { why = same i; class = f i }

pub verdict_told : (v w : Verdict) → verdict_number v ≡ verdict_number w → verdict_class v ≡ verdict_class w → v ≡ w
verdict_told (Ok _) (Ok _) e f = refl
verdict_told (Ok _) (Err fault) e f = absurd (omega (arith, number_some fault.why))
verdict_told (Err fault) (Ok _) e f = absurd (omega (arith, number_some fault.why))
verdict_told (Err fault) (Err fault') e f = ap Err (fault_told fault fault' e f)

written_by_verdict : (a b : Written) → written_verdict a ≡ written_verdict b → written_total a ≡ written_total b → a ≡ b
written_by_verdict (Ok total) (Ok total') e f = ap Ok f
written_by_verdict (Ok total) (Err fault) e f = absurd (let z = ap verdict_number e in omega (arith, number_some fault.why))
written_by_verdict (Err fault) (Ok total) e f = absurd (let z = ap verdict_number e in omega (arith, number_some fault.why))
written_by_verdict (Err fault) (Err fault') e f = ap Err (fault_told fault fault' (ap verdict_number e) (ap verdict_class e))

pub written_told : (a b : Written)
    → verdict_number (written_verdict a) ≡ verdict_number (written_verdict b) → verdict_class (written_verdict a) ≡ verdict_class (written_verdict b)
    → written_total a ≡ written_total b → a ≡ b
written_told a b e f = written_by_verdict a b (verdict_told (written_verdict a) (written_verdict b) e f)

pub arrival_told : (a b : Arrival) → arrival_number a ≡ arrival_number b → packet_number a ≡ packet_number b → a ≡ b
arrival_told (Ok number) (Ok number') e f = ap Ok f
arrival_told (Ok number) (Err why) e f = absurd (omega (arith, number_some why))
arrival_told (Err why) (Ok number) e f = absurd (omega (arith, number_some why))
arrival_told (Err why) (Err why') e f = ap Err (refusal_by_number why why' e)

rule_told : (a b : Rule) → rule_number a ≡ rule_number b → a ≡ b
rule_told RealTime RealTime e = refl
rule_told RealTime Fair e = absurd (omega arith)
rule_told Fair RealTime e = absurd (omega arith)
rule_told Fair Fair e = refl

-- the number at a place
at : {k l : List ℕ} (i : ℕ) → k ≡ l → get_or k i 0 ≡ get_or l i 0
at i e = ap (λ (n : List ℕ). get_or n i 0) e

pub times_told : (a b : Option Times) → times_numbers a ≡ times_numbers b → a ≡ b
times_told None None e = refl
times_told None (Some b) e = absurd (let z : ◌≡◌ {A = ℕ} 0 1 = at 0 e in omega arith)
times_told (Some a) None e = absurd (let z : ◌≡◌ {A = ℕ} 1 0 = at 0 e in omega arith)
times_told (Some a) (Some b) e = λ i. Some (record { eligible = at 1 e i; deadline = at 2 e i })

packet_told : (p q : Packet) → packet_numbers p ≡ packet_numbers q → p ≡ q
packet_told p q e =
    let rule = rule_told p.rule q.rule (at 4 e) in
    let times = times_told p.times q.times (ap (drop 5) e) in
    λ i. record { class = at 1 e i; number = at 2 e i; length = at 3 e i; rule = rule i; times = times i }

pub departure_told : (a b : Departure) → departure_number a ≡ departure_number b → departure_numbers a ≡ departure_numbers b → a ≡ b
departure_told (Ok (Some p)) (Ok (Some q)) e f = ap (λ (x : Packet). Ok (Some x)) (packet_told p q f)
departure_told (Ok (Some p)) (Ok None) e f = absurd (let z : ◌≡◌ {A = ℕ} 1 0 = at 0 f in omega arith)
departure_told (Ok (Some p)) (Err why) e f = absurd (omega (arith, number_some why))
departure_told (Ok None) (Ok (Some q)) e f = absurd (let z : ◌≡◌ {A = ℕ} 0 1 = at 0 f in omega arith)
departure_told (Ok None) (Ok None) e f = refl
departure_told (Ok None) (Err why) e f = absurd (omega (arith, number_some why))
departure_told (Err why) (Ok (Some q)) e f = absurd (omega (arith, number_some why))
departure_told (Err why) (Ok None) e f = absurd (omega (arith, number_some why))
departure_told (Err why) (Err why') e f = ap Err (refusal_by_number why why' e)
