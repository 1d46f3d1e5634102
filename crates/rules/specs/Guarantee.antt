-- The guarantee, in the customer's words: no packet of a leaf with a real-time curve is later than 9,020 ticks after its deadline, by document 02,
-- request 2; in the definitions that number is `heaviest`.
-- Assumes nothing.
use Rattle.std.specs.Prelude.{◌≡◌, ℕ, ◌+◌, ◌<◌, ◌≤◌, true, List, ◌∷◌}
use Rattle.curve.specs.Curves.{Rising}
use Rattle.curve.specs.Fit.{CurvesFit}
use Rattle.tree.specs.declared.Tree.{Tree}
use Rattle.tree.specs.Trees.{most_classes, curve_of, curves_of}
use Rattle.tree.specs.Rules.{RightTree}
use Rattle.rules.specs.declared.Rule.{Rule}
use Rattle.rules.specs.Limits.{weigh}
use Rattle.rules.specs.Calls.{Call, left, History}
use Rattle.rules.specs.Clock.{clock}
use Rattle.rules.specs.Queues.{waits, head_length, head_number}
use Rattle.rules.specs.Leaves.{DeadlineOf}
use Rattle.rules.specs.Choice.{has_curve}
use Rattle.rules.specs.Lawful.{Lawful, LawfulCalls}
use Rattle.rules.specs.Link.{heaviest, Link}

-- "any moment": the calls up to some call of the history
pub data Moment (past : List Call) : List Call → Type 0 where
  now : Moment past past
  after : {c : Call} {cs : List Call} → Moment past cs → Moment past (c ∷ cs)

-- "any packet then at the head of a leaf with a real-time curve, and the deadline that the definitions give it"
pub record Head (tree : Tree) (cs : List Call) (j number n deadline : ℕ) : Type 0 where
  pub curved : has_curve (curve_of tree j) ≡ true
  pub waiting : waits cs j ≡ true
  pub is_number : head_number cs j ≡ number
  pub is_length : head_length cs j ≡ n
  pub is_deadline : DeadlineOf tree cs j deadline

-- "that packet has left, in full no later than" a tick: it left at some tick `at`, as the head of its leaf, and holds the link no longer than
-- until then
pub record LeftBy (cs : List Call) (j number n tick : ℕ) : Type 0 where
  pub at : ℕ
  pub rule : Rule
  pub before : List Call
  pub call : Moment (left at j rule ∷ before) cs
  pub is_number : head_number before j ≡ number
  pub is_length : head_length before j ≡ n
  pub full : at + weigh n ≤ tick

-- "if the history's clock reaches deadline + 9,020, that packet has left, in full no later than that tick", with `late` for 9,020
abbrev pub NoneLater : ℕ → Tree → List Call → Type 0
NoneLater late tree cs =
    (past : List Call) → Moment past cs
    → (j number n deadline : ℕ) → Head tree past j number n deadline
    → deadline + late ≤ clock cs → LeftBy cs j number n (deadline + late)

-- at every moment there is still time to send the head in full
abbrev pub TimeLeft : ℕ → Tree → List Call → Type 0
TimeLeft late tree cs =
    (past : List Call) → Moment past cs
    → (j number n deadline : ℕ) → Head tree past j number n deadline
    → clock past + weigh n ≤ deadline + late

-- "started from a tree whose curves fit": what the guarantee needs of a tree. A start keeps no other (`RightSound`).
pub record Sound (tree : Tree) : Type 0 where
  pub few : tree.count ≤ most_classes
  pub rising : (j : ℕ) → j < tree.count → has_curve (curve_of tree j) ≡ true → Rising (curve_of tree j)
  pub fit : CurvesFit (curves_of tree)

-- a start keeps no other: the theorem `right_sound`
abbrev pub RightSound : Type 0
RightSound = (tree : Tree) → RightTree tree → Sound tree

-- The guarantee, over the calls of a history: whatever the other classes send
pub record Guaranteed (tree : Tree) (cs : List Call) : Type 0 where
  pub none_later : NoneLater heaviest tree cs
  pub time_left : TimeLeft heaviest tree cs

-- "over a lawful history that the link kept", from a tree whose curves fit
abbrev pub FromFit : Type 0
FromFit = (r : ℕ) (tree : Tree) (cs : List Call) → Sound tree → LawfulCalls tree cs → Link r cs → Guaranteed tree cs

-- the same of every history that start and the calls can make
abbrev pub Guarantee : Type 0
Guarantee = (r : ℕ) (h : History) → Lawful h → Link r h.calls → Guaranteed h.tree h.calls

-- The guarantee is about every packet that waits first in a leaf with a real-time curve: each has a deadline.
abbrev pub HeadsThere : Type 0
HeadsThere =
    (h : History) → Lawful h → (past : List Call) → Moment past h.calls
    → (j : ℕ) → has_curve (curve_of h.tree j) ≡ true → waits past j ≡ true
    → (deadline : ℕ) × Head h.tree past j (head_number past j) (head_length past j) deadline
