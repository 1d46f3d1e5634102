-- What the scheduler's inner steps make of the table: the small definitions that their promises cite.
-- Assumes nothing.
use Rattle.state.specs.Kinds.{NextClock}
use Rattle.std.specs.Prelude.{ℕ, ◌+◌, ◌≤◌, ◌<◌, ◌^◌, ◌≡◌, Bool, true, false, List, ◌∷◌, length, leb, ltb, eqb, Some, None, Ok, Err, Option}
use Rattle.curve.specs.Answers.{Least}
use Rattle.curve.specs.Codec.{kind_curve}
use Rattle.curve.specs.declared.Curve.{Curve}
use Rattle.curve.specs.declared.Kept.{Kept}
use Rattle.curve.specs.Curves.{Rising}
use Rattle.curve.specs.Keeping.{most_start, BothStand, early}
use Rattle.tree.specs.declared.Tree.{Tree}
use Rattle.tree.specs.declared.Refusal.TheVariants.{StampTooFar, ClockFull}
use Rattle.tree.specs.Trees.{curve_of}
use Rattle.tree.specs.Rules.{RightTree}
use Rattle.rules.specs.declared.Rule.{Rule}
use Rattle.rules.specs.declared.Rule.TheVariants.{RealTime, Fair}
use Rattle.rules.specs.declared.Times.{Times}
use Rattle.rules.specs.Limits.{last_tick, most_bytes_accepted, longest, too_far, weigh}
use Rattle.rules.specs.Calls.{Call, came}
use Rattle.rules.specs.Clock.{elapsed_ticks}
use Rattle.rules.specs.Queues.{waits}
use Rattle.rules.specs.Leaves.{sent_real_time, DeadlineOf, EligibleOf}
use Rattle.rules.specs.Choice.{has_curve}
use Rattle.rules.specs.Lawful.{LawfulCalls, Allowed}
use Rattle.state.specs.Table.{at, with, CLASSES, COLUMNS, CELLS}
use Rattle.state.specs.Columns.{KIND, FIRST, SECOND, THIRD, SENT_REAL_TIME, STEEP_START, STEEP_SENT, FLAT_START, FLAT_SENT, ELIGIBLE, DEADLINE, NEVER, times_from, fair_from}
use Rattle.state.specs.State.{kept_for, has_times, ShowsTree}

abbrev pub pick_clock : Bool → NextClock → NextClock → NextClock
pick_clock true a b = a
pick_clock false a b = b

-- the clock after a call, or its refusal: 14, then 15
unfoldable pub tick_of : ℕ → ℕ → ℕ → NextClock
tick_of clock last stamp =
    pick_clock (leb too_far (elapsed_ticks stamp last)) (Err StampTooFar)
    (pick_clock (ltb last_tick (clock + elapsed_ticks stamp last)) (Err ClockFull)
    (Ok (clock + elapsed_ticks stamp last)))

-- the curve that a class's columns say by their code
abbrev pub curve_in : List ℕ → ℕ → Curve
curve_in m i = kind_curve (at m i KIND) (at m i FIRST) (at m i SECOND) (at m i THIRD)

-- the kept pieces that a leaf's columns have, and the table with others there
abbrev pub kept_in : List ℕ → ℕ → Kept
kept_in m i =
    record {
      steep = record { start = at m i STEEP_START; sent = at m i STEEP_SENT };
      flat = record { start = at m i FLAT_START; sent = at m i FLAT_SENT };
    }

unfoldable pub with_kept : List ℕ → ℕ → Kept → List ℕ
with_kept m i k =
    with (with (with (with m i STEEP_START k.steep.start) i STEEP_SENT k.steep.sent) i FLAT_START k.flat.start) i FLAT_SENT k.flat.sent

-- the table with an eligible time and a deadline of a leaf's head
abbrev pub with_times : List ℕ → ℕ → (eligible deadline : ℕ) → List ℕ
with_times m i eligible deadline = with (with m i ELIGIBLE eligible) i DEADLINE deadline

-- the eligible time of a leaf's head, by its columns
abbrev pub RipeTick : List ℕ → ℕ → ℕ → Type 0
RipeTick m i eligible = Least (BothStand (early (curve_in m i)) (kept_in m i) (at m i SENT_REAL_TIME)) eligible

-- the deadline of a head of this length, by its columns
abbrev pub DueTick : List ℕ → ℕ → (length deadline : ℕ) → Type 0
DueTick m i length deadline = Least (BothStand (curve_in m i) (kept_in m i) (at m i SENT_REAL_TIME + weigh length)) deadline

-- the bytes sent by the real-time rule were due at the deadline that the leaf's columns have: that of the head that left last by it
abbrev pub SentIsDue : List ℕ → ℕ → Type 0
SentIsDue m i = Least (BothStand (curve_in m i) (kept_in m i) (at m i SENT_REAL_TIME)) (at m i DEADLINE)

-- the code of a class's curve has 32 bits a number
pub record NarrowCode (m : List ℕ) (i : ℕ) : Type 0 where
  pub kind : at m i KIND < 2 ^ 32
  pub first : at m i FIRST < 2 ^ 32
  pub second : at m i SECOND < 2 ^ 32
  pub third : at m i THIRD < 2 ^ 32

-- a leaf's kept pieces start at ticks that the clock can have
pub record KeptSoon (m : List ℕ) (i : ℕ) : Type 0 where
  pub steep : at m i STEEP_START ≤ most_start
  pub flat : at m i FLAT_START ≤ most_start

-- of the columns of pieces and times, only those of leaf j were stored to; the others stay as they are
pub record LeafOnly (m m' : List ℕ) (j : ℕ) : Type 0 where
  pub size : length m' ≡ CELLS
  pub columns : (k f : ℕ) → k < CLASSES → f < times_from → at m' k f ≡ at m k f
  pub fairs : (k f : ℕ) → k < CLASSES → fair_from ≤ f → f < COLUMNS → at m' k f ≡ at m k f
  pub others : (k f : ℕ) → k < CLASSES → f < COLUMNS → (k ≡ j → ⊥) → at m' k f ≡ at m k f

-- a table with the tree's columns, for a right tree and calls that the rules allow
pub record Planted (m : List ℕ) (tree : Tree) (cs : List Call) : Type 0 where
  pub size : length m ≡ CELLS
  pub right : RightTree tree
  pub lawful : LawfulCalls tree cs
  pub trees : (k : ℕ) → k < tree.count → ShowsTree m tree k

-- the pieces and times of leaf j, in which a packet waits, as they are after the calls
pub record LeafTimed (m : List ℕ) (tree : Tree) (cs : List Call) (j : ℕ) : Type 0 where
  pub kept : kept_in m j ≡ kept_for tree cs j
  pub eligible : has_curve (curve_of tree j) ≡ true → EligibleOf tree cs j (at m j ELIGIBLE)
  pub deadline : has_curve (curve_of tree j) ≡ true → DeadlineOf tree cs j (at m j DEADLINE)
  pub never : has_curve (curve_of tree j) ≡ false → at m j ELIGIBLE ≡ NEVER
  pub no_deadline : has_curve (curve_of tree j) ≡ false → at m j DEADLINE ≡ 0

-- a packet has come into an empty leaf, and was counted
pub record BeforeTiming (m : List ℕ) (tree : Tree) (cs : List Call) (j t n : ℕ) : Type 0 where
  pub planted : Planted m tree cs
  pub allowed : Allowed tree cs (came t j n)
  pub empty : waits cs j ≡ false
  pub bytes : at m j SENT_REAL_TIME ≡ sent_real_time cs j
  pub kept : kept_in m j ≡ kept_for tree cs j
  pub never : at m j ELIGIBLE ≡ NEVER
  pub no_deadline : at m j DEADLINE ≡ 0

-- the leaf's piece and the times of its head are in place
pub record AfterTiming (m m' : List ℕ) (tree : Tree) (cs : List Call) (j t n : ℕ) : Type 0 where
  pub only : LeafOnly m m' j
  pub timed : LeafTimed m' tree (came t j n ∷ cs) j

-- the bytes sent by the real-time rule, counted
unfoldable pub counted : List ℕ → ℕ → Rule → ℕ → List ℕ
counted m i RealTime bytes = with m i SENT_REAL_TIME (at m i SENT_REAL_TIME + bytes)
counted m i Fair bytes = m

-- the times that a leaf's columns have
abbrev pub pick_times : Bool → Option Times → Option Times → Option Times
pick_times true a b = a
pick_times false a b = b

unfoldable pub times_in : List ℕ → ℕ → Option Times
times_in m i = pick_times (eqb (at m i KIND) 0) None (Some (record { eligible = (at m i ELIGIBLE); deadline = (at m i DEADLINE) }))

-- what it takes to work out the times of a head of that length
pub record Timable (m : List ℕ) (i n : ℕ) : Type 0 where
  pub narrow : NarrowCode m i
  pub rising : Rising (curve_in m i)
  pub bytes : at m i SENT_REAL_TIME ≤ most_bytes_accepted
  pub kept : KeptSoon m i
  pub short : n ≤ longest

-- the eligible time of the next head: anew after a departure by the real-time rule, else as it was
abbrev pub NextRipe : Rule → List ℕ → ℕ → ℕ → Type 0
NextRipe RealTime m i eligible = RipeTick m i eligible
NextRipe Fair m i eligible = eligible ≡ at m i ELIGIBLE

-- the times of the next head, where the leaf has a curve
pub data NextTimed (m m' : List ℕ) (i n : ℕ) (r : Rule) : Type 0 where
  untimed : at m i KIND ≡ 0 → m' ≡ m → NextTimed m m' i n r
  timed : (at m i KIND ≡ 0 → ⊥) → (eligible deadline : ℕ) → NextRipe r m i eligible → DueTick m i n deadline → m' ≡ with_times m i eligible deadline
      → NextTimed m m' i n r

-- the columns of the times of a leaf's head
pub record ShowsTimes (m : List ℕ) (tree : Tree) (cs : List Call) (i : ℕ) : Type 0 where
  pub eligible : has_times tree cs i ≡ true → EligibleOf tree cs i (at m i ELIGIBLE)
  pub deadline : has_times tree cs i ≡ true → DeadlineOf tree cs i (at m i DEADLINE)
  pub never : has_times tree cs i ≡ false → at m i ELIGIBLE ≡ NEVER
  pub no_deadline : has_times tree cs i ≡ false → at m i DEADLINE ≡ 0
