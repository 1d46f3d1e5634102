-- Document 01, "One departure" and "Numbers of refusal": what each call answers, and the history after it.
-- Assumes nothing.
use Rattle.rules.specs.Kinds.{Arrival, Departure}
use Rattle.std.specs.Prelude.{◌≡◌, ℕ, ◌+◌, true, false, List, [], ◌∷◌, Some, None, Ok, Err, Option}
use Rattle.tree.specs.declared.Tree.{Tree}
use Rattle.tree.specs.declared.Refusal.{Refusal}
use Rattle.tree.specs.Numbers.{number_of}
use Rattle.tree.specs.Verdicts.{Verdict, all_right}
use Rattle.tree.specs.Rules.{Judged}
use Rattle.tree.specs.Trees.{empty_tree, curve_of}
use Rattle.rules.specs.declared.Times.{Times}
use Rattle.rules.specs.declared.Packet.{Packet}
use Rattle.rules.specs.Calls.{Call, came, left, idle, History}
use Rattle.rules.specs.Clock.{clock, last_stamp, elapsed_ticks}
use Rattle.rules.specs.Queues.{head_length, next_number, head_number}
use Rattle.rules.specs.Leaves.{DeadlineOf, EligibleOf}
use Rattle.rules.specs.Choice.{has_curve, Choice, NothingWaits}
pub use Rattle.rules.specs.Checks.{Check, Outcome, passed, refused, departure_checks, leaf_checks, arrival_checks}
unfoldable pub use Rattle.rules.specs.Checks.{outcome}

-- the elapsed ticks of a call with this stamp, and the clock after it
abbrev pub ticks : History → ℕ → ℕ
ticks h stamp = elapsed_ticks stamp (last_stamp h.first h.calls)

abbrev pub next_clock : History → ℕ → ℕ
next_clock h stamp = clock h.calls + ticks h stamp

-- the history with one call more
abbrev pub with_call : History → Call → History
with_call h c = record { tree = h.tree; first = h.first; calls = c ∷ h.calls }

-- the refusal whose number the checks give; "A refusal there gives back the same state."
pub record IsRefused (checks : List Check) (why : Refusal) (h next : History) : Type 0 where
  pub checked : outcome checks ≡ refused (number_of why)
  pub after : next ≡ h

-- "An accepted arrival answers the packet's number within its leaf."
pub record IsAccepted (h : History) (stamp j n number : ℕ) (next : History) : Type 0 where
  pub checked : outcome (arrival_checks h.tree h.calls (ticks h stamp) j n) ≡ passed
  pub numbered : number ≡ next_number h.calls j
  pub after : next ≡ with_call h (came (next_clock h stamp) j n)

-- an arrival's answer, and the history after it
abbrev pub Arrives : History → (stamp j n : ℕ) → Arrival → History → Type 0
Arrives h stamp j n (Ok number) next = IsAccepted h stamp j n number next
Arrives h stamp j n (Err why) next = IsRefused (arrival_checks h.tree h.calls (ticks h stamp) j n) why h next

-- "for a leaf with a real-time curve eligible time and deadline", as they stood before the packet left
pub record IsTimed (tree : Tree) (cs : List Call) (j eligible deadline : ℕ) : Type 0 where
  pub curved : has_curve (curve_of tree j) ≡ true
  pub is_eligible : EligibleOf tree cs j eligible
  pub is_deadline : DeadlineOf tree cs j deadline

abbrev pub TimesOf : Tree → List Call → ℕ → Option Times → Type 0
TimesOf tree cs j None = has_curve (curve_of tree j) ≡ false
TimesOf tree cs j (Some times) = IsTimed tree cs j times.eligible times.deadline

-- "a packet (class, its number within the leaf from 0, length, rule, and for a leaf with a real-time curve eligible time and deadline)"
pub record IsHead (tree : Tree) (cs : List Call) (p : Packet) : Type 0 where
  pub number : p.number ≡ head_number cs p.class
  pub length : p.length ≡ head_length cs p.class
  pub times : TimesOf tree cs p.class p.times

-- a packet leaves: the one that the rules choose
pub record IsSent (h : History) (stamp : ℕ) (p : Packet) (next : History) : Type 0 where
  pub checked : outcome (departure_checks h.calls (ticks h stamp)) ≡ passed
  pub chosen : Choice h.tree h.calls (next_clock h stamp) p.class p.rule
  pub head : IsHead h.tree h.calls p
  pub after : next ≡ with_call h (left (next_clock h stamp) p.class p.rule)

-- "'None waits' moves the clock and nothing else."
pub record FindsNone (h : History) (stamp : ℕ) (next : History) : Type 0 where
  pub checked : outcome (departure_checks h.calls (ticks h stamp)) ≡ passed
  pub nothing : NothingWaits h.calls
  pub after : next ≡ with_call h (idle (next_clock h stamp))

-- a departure's answer, and the history after it: "either a packet (..) or 'none waits'"
abbrev pub Departs : History → (stamp : ℕ) → Departure → History → Type 0
Departs h stamp (Ok (Some p)) next = IsSent h stamp p next
Departs h stamp (Ok None) next = FindsNone h stamp next
Departs h stamp (Err why) next = IsRefused (departure_checks h.calls (ticks h stamp)) why h next

-- "Start takes a first stamp, which is time 0." "A refused start gives a state of no classes at time 0 with the first stamp kept":
-- there no class is a leaf, so that arrivals that pass 14 and 15 get 11, and nothing waits (`NoClassesArrive` and `NoClassesDepart` of specs/Sentences).
abbrev pub started : Tree → ℕ → Verdict → History
started tree stamp (Ok _) = record { tree = tree; first = stamp; calls = [] }
started tree stamp (Err _) = record { tree = empty_tree; first = stamp; calls = [] }

-- "Starting checks 4, 7, 8, 9, 10": a start's answer is the tree layer's verdict, and this is the history after it
pub record Starts (tree : Tree) (stamp : ℕ) (verdict : Verdict) (next : History) : Type 0 where
  pub judged : Judged tree verdict
  pub history : next ≡ started tree stamp verdict
