-- Document 01's sentences that a definition does not say word for word. Each is a theorem of proofs/, of the name that stands with it here.
-- Assumes nothing.
use Rattle.rules.specs.Kinds.{Arrival, Departure}
use Rattle.std.specs.Prelude.{◌≡◌, ℕ, ◌+◌, ◌<◌, ◌≤◌, max, true, false, ◌&&◌, List, [], ◌∷◌, length, nat_le, nat_lt, None, Ok, Err}
use Rattle.curve.specs.Pieces.{VirtualTime}
use Rattle.tree.specs.declared.Tree.{Tree}
use Rattle.tree.specs.declared.Refusal.TheVariants.{NoSuchLeaf}
use Rattle.tree.specs.Verdicts.{Verdict}
use Rattle.tree.specs.Trees.{parent_of, share_of, is_child, is_leaf}
use Rattle.rules.specs.Limits.{longest, room, last_tick, most_bytes_accepted, wheel, too_far}
use Rattle.rules.specs.Calls.{Call, came, idle, History}
use Rattle.rules.specs.Clock.{clock, last_stamp}
use Rattle.rules.specs.Queues.{queue, waits, head_length, head_number, next_number, accepted}
use Rattle.rules.specs.Over.{any_of}
use Rattle.rules.specs.Classes.{sent, active, turns_active}
use Rattle.rules.specs.Fair.{mark_by_children, mark, fair_pieces, virtual_when_passive, virtual_time_of}
use Rattle.rules.specs.Lawful.{LawfulCalls, Grown, Lawful}
use Rattle.rules.specs.Answers.{ticks, next_clock, with_call, Arrives, Departs, Starts}

-- "clock, and total bytes accepted: each at most 2^40": `clock_most` and `accepted_most`
abbrev pub ClockMost : Type 0
ClockMost = (tree : Tree) (cs : List Call) → LawfulCalls tree cs → clock cs ≤ last_tick

abbrev pub AcceptedMost : Type 0
AcceptedMost = (tree : Tree) (cs : List Call) → LawfulCalls tree cs → accepted cs ≤ most_bytes_accepted

-- "packets waiting in a leaf: at most 64": `queue_room`
abbrev pub QueueRoom : Type 0
QueueRoom = (tree : Tree) (cs : List Call) → LawfulCalls tree cs → (j : ℕ) → length (queue cs j) ≤ room

-- "packet: 1 to 9,000 bytes": `head_length_lem`
abbrev pub HeadLength : Type 0
HeadLength =
    (tree : Tree) (cs : List Call) → LawfulCalls tree cs → (j : ℕ) → waits cs j ≡ true
    → (1 ≤ head_length cs j) × (head_length cs j ≤ longest)

-- "the last kept stamp": that of the last call that was kept, `stamp_kept`, or the first, `first_kept`
abbrev pub StampKept : Type 0
StampKept =
    (h : History) (stamp : ℕ) (c : Call) → stamp < wheel → clock (c ∷ h.calls) ≡ next_clock h stamp → last_stamp h.first (c ∷ h.calls) ≡ stamp

abbrev pub FirstKept : Type 0
FirstKept = (first : ℕ) → first < wheel → last_stamp first [] ≡ first

-- "its number within the leaf from 0": those that wait are numbered on from the head's number, up to the next to be accepted, `numbers`
abbrev pub Numbers : Type 0
Numbers =
    (tree : Tree) → Grown tree → (cs : List Call) → LawfulCalls tree cs → (j : ℕ)
    → head_number cs j + length (queue cs j) ≡ next_number cs j

-- "A leaf is active while a packet waits in it": `leaf_active`
abbrev pub LeafActive : Type 0
LeafActive = (tree : Tree) → Grown tree → (cs : List Call) (i : ℕ) → is_leaf tree i ≡ true → active tree cs i ≡ waits cs i

-- "an interior class while a child is active": `interior_active`
abbrev pub InteriorActive : Type 0
InteriorActive =
    (tree : Tree) → Grown tree → (cs : List Call) → LawfulCalls tree cs → (i : ℕ) → is_leaf tree i ≡ false
    → active tree cs i ≡ any_of tree.count (λ k. is_child tree i k && active tree cs k)

-- "When a child turns active, its parent's mark becomes the larger of its old mark (0 at first) and" what the children's virtual times give: `mark_becomes`
abbrev pub MarkBecomes : Type 0
MarkBecomes =
    (tree : Tree) → Grown tree → (at j n : ℕ) (cs : List Call) (i : ℕ) → i < tree.count → j < tree.count → turns_active tree cs j i ≡ true
    → mark tree (came at j n ∷ cs) (parent_of tree i)
    ≡ max (mark tree cs (parent_of tree i)) (mark_by_children tree cs (λ k. virtual_time_of tree cs k) (λ k. virtual_when_passive tree cs k) i)

-- "The child starts at that mark, with a fair piece: 65,536·w then, plus share·(v − mark)": `starts_at_mark`
abbrev pub StartsAtMark : Type 0
StartsAtMark =
    (tree : Tree) → Grown tree → (at j n : ℕ) (cs : List Call) (i : ℕ) → i < tree.count → j < tree.count → turns_active tree cs j i ≡ true
    → fair_pieces tree (came at j n ∷ cs) i
    ≡ record { start = mark tree (came at j n ∷ cs) (parent_of tree i); sent = sent tree cs i } ∷ fair_pieces tree cs i

-- "Its virtual time is the least whole v, not before its latest start, at which every fair piece of its history is at least 65,536·w":
-- `virtual_time_least`
abbrev pub VirtualTimeLeast : Type 0
VirtualTimeLeast =
    (tree : Tree) → Grown tree → (cs : List Call) (i : ℕ) → i < tree.count
    → VirtualTime (share_of tree i) (fair_pieces tree cs i) (sent tree cs i) (virtual_time_of tree cs i)

-- the "virtual time that" a class "had when it last turned passive" is the one that it has while it is passive: `when_passive_is_virtual`
abbrev pub WhenPassiveIsVirtual : Type 0
WhenPassiveIsVirtual =
    (tree : Tree) → Grown tree → (cs : List Call) → LawfulCalls tree cs → (i : ℕ) → active tree cs i ≡ false
    → virtual_when_passive tree cs i ≡ virtual_time_of tree cs i

-- "For every input a public function's promise names one answer": so do the rules, for a start, an arrival and a departure; and there always is one.
-- `starts_one`, `arrives_one`, `departs_one`, and `starts_some`, `arrives_some`, `departs_some`
abbrev pub StartsOne : Type 0
StartsOne = (tree : Tree) (stamp : ℕ) (v w : Verdict) (h k : History) → Starts tree stamp v h → Starts tree stamp w k → (v ≡ w) × (h ≡ k)

abbrev pub ArrivesOne : Type 0
ArrivesOne =
    (h : History) (stamp j n : ℕ) (a b : Arrival) (x y : History) → Arrives h stamp j n a x → Arrives h stamp j n b y → (a ≡ b) × (x ≡ y)

abbrev pub DepartsOne : Type 0
DepartsOne =
    (h : History) → Lawful h → (stamp : ℕ) (a b : Departure) (x y : History) → Departs h stamp a x → Departs h stamp b y → (a ≡ b) × (x ≡ y)

abbrev pub StartsSome : Type 0
StartsSome = (tree : Tree) (stamp : ℕ) → (v : Verdict) × (h : History) × Starts tree stamp v h

abbrev pub ArrivesSome : Type 0
ArrivesSome = (h : History) (stamp j n : ℕ) → (a : Arrival) × (x : History) × Arrives h stamp j n a x

abbrev pub DepartsSome : Type 0
DepartsSome = (h : History) → Lawful h → (stamp : ℕ) → (a : Departure) × (x : History) × Departs h stamp a x

-- "a state of no classes .., where arrivals that pass 14 and 15 get 11": `no_classes_arrive`
abbrev pub NoClassesArrive : Type 0
NoClassesArrive =
    (h : History) (stamp j n : ℕ) → h.tree.count ≡ 0 → nat_le too_far (ticks h stamp) ≡ false → nat_lt last_tick (next_clock h stamp) ≡ false
    → Arrives h stamp j n (Err NoSuchLeaf) h

-- "and departures that pass them find none waiting": `no_classes_depart`
abbrev pub NoClassesDepart : Type 0
NoClassesDepart =
    (h : History) → Lawful h → (stamp : ℕ) → h.tree.count ≡ 0 → nat_le too_far (ticks h stamp) ≡ false → nat_lt last_tick (next_clock h stamp) ≡ false
    → Departs h stamp (Ok None) (with_call h (idle (next_clock h stamp)))
