-- Runs that meet every premise of the guarantee: one of the example tree of document 01, and one in which a packet leaves in full exactly `heaviest`
-- ticks after its deadline, so that no smaller number would do.
-- Assumes nothing.
use Rattle.std.specs.Prelude.{ℕ, ◌+◌, ◌≤◌, List, [], ◌∷◌}
use Rattle.curve.specs.declared.Curve.TheVariants.{None, Straight}
use Rattle.tree.specs.declared.Tree.{Tree}
use Rattle.rules.specs.declared.Rule.TheVariants.{RealTime, Fair}
use Rattle.rules.specs.Limits.{longest, weigh}
use Rattle.rules.specs.Calls.{Call, came, left, idle, History}
use Rattle.rules.specs.Clock.{clock}
use Rattle.rules.specs.Lawful.{Lawful}
use Rattle.rules.specs.Made.{Made}
use Rattle.rules.specs.Rows.{tree_a, two_leaves}
use Rattle.rules.specs.Link.{heaviest, Link}
use Rattle.rules.specs.Guarantee.{Moment, Head, LeftBy, NoneLater}

-- all that the guarantee asks for, of one packet: a lawful history that the link kept, a moment at which the packet is a head, and a clock that reaches
-- its deadline + `heaviest`
pub record Premises (h : History) (j number n deadline : ℕ) : Type 0 where
  pub lawful : Lawful h
  pub link : Link 0 h.calls
  pub past : List Call
  pub moment : Moment past h.calls
  pub head : Head h.tree past j number n deadline
  pub clock_reaches : deadline + heaviest ≤ clock h.calls

-- Tree A. Four packets come to leaf 1 and three to leaf 2. At 3,600 neither leaf is eligible, and the fair rule takes leaf 2. Later leaf 2 is filled again.
abbrev pub run_a : List Call
run_a =
    idle 20000
    ∷ left 5240 2 RealTime
    ∷ came 5240 2 700
    ∷ left 4620 1 RealTime
    ∷ left 3600 2 Fair
    ∷ left 3080 1 RealTime
    ∷ left 2060 2 RealTime
    ∷ left 1540 1 RealTime
    ∷ left 520 2 RealTime
    ∷ left 0 1 RealTime
    ∷ came 0 2 1000
    ∷ came 0 2 1000
    ∷ came 0 2 1000
    ∷ came 0 1 500
    ∷ came 0 1 500
    ∷ came 0 1 500
    ∷ came 0 1 500
    ∷ []

abbrev pub history_a : History
history_a = record { tree = tree_a; first = 0; calls = run_a }

-- A leaf with no curve sends a longest packet at 0; in the same tick a packet comes to a leaf with the whole link's rate, and is due as soon as it could be sent.
abbrev pub late_tree : Tree
late_tree = two_leaves 32768 None 32768 (Straight 65536)

abbrev pub late_run : List Call
late_run = idle (weigh 1500 + heaviest) ∷ left heaviest 2 RealTime ∷ came 0 2 1500 ∷ left 0 1 Fair ∷ came 0 1 longest ∷ []

abbrev pub late_history : History
late_history = record { tree = late_tree; first = 0; calls = late_run }

-- a packet leaves in full exactly `heaviest` ticks after its deadline: by then it has left, and by no earlier tick
pub record Attained (h : History) (j number n deadline : ℕ) : Type 0 where
  pub premises : Premises h j number n deadline
  pub leaves : LeftBy h.calls j number n (deadline + heaviest)
  pub no_sooner : (tick : ℕ) → LeftBy h.calls j number n tick → deadline + heaviest ≤ tick

-- what the two runs show: a start and calls make them, and they meet the premises
pub record RunsShow : Type 0 where
  pub made : Made history_a
  pub made_late : Made late_history
  pub first : Premises history_a 1 0 500 1040
  pub second : Premises history_a 2 0 1000 4040
  pub last : Premises history_a 2 3 700 8680
  pub exact : Attained late_history 2 0 1500 (weigh 1500)

-- no smaller number would do
abbrev pub Sharp : Type 0
Sharp = (late : ℕ) → ((h : History) → Lawful h → Link 0 h.calls → NoneLater late h.tree h.calls) → heaviest ≤ late
