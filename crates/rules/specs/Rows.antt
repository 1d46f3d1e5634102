-- Document 01, "Example tree and its numbers": the rows marked P, all twelve, as one table, and what a row says. Document 02, request 2: "The worked rows of 01
-- are to be worked again by hand." Each row has 01's words with its numbers worked again; docs/DEFINITIONS.md has 01's numbers beside them.
-- Assumes nothing.
use Rattle.std.specs.Prelude.{◌≡◌, ℕ, List, [], ◌∷◌, replicate}
use Rattle.curve.specs.Fit.{CurvesFit}
use Rattle.curve.specs.declared.Curve.{Curve}
use Rattle.curve.specs.declared.Curve.TheVariants.{None, Straight, FrontLoaded, Delayed}
use Rattle.tree.specs.declared.Tree.{Tree}
use Rattle.tree.specs.Trees.{no_class}
use Rattle.tree.specs.declared.Refusal.{Refusal}
use Rattle.tree.specs.Verdicts.{all_right, refused}
use Rattle.tree.specs.Numbers.{number_of}
use Rattle.tree.specs.Rules.{Judged}
use Rattle.rules.specs.declared.Rule.{Rule}
use Rattle.rules.specs.declared.Rule.TheVariants.{RealTime, Fair}
use Rattle.rules.specs.Calls.{Call, came, left}
use Rattle.rules.specs.Leaves.{DeadlineOf, EligibleOf}
use Rattle.rules.specs.Fair.{virtual_time_of}
use Rattle.rules.specs.Choice.{Choice}
use Rattle.rules.specs.Lawful.{Lawful}

-- a tree of two leaves, with their shares and curves
abbrev pub two_leaves : ℕ → Curve → ℕ → Curve → Tree
two_leaves share₁ S₁ share₂ S₂ =
    record {
      count = 3;
      classes =
          record { parent = 0; share = 65536; curve = None }
          ∷ record { parent = 0; share = share₁; curve = S₁ }
          ∷ record { parent = 0; share = share₂; curve = S₂ }
          ∷ replicate 61 no_class;
    }

-- "Tree A: leaf 1, share 16,384, front-loaded 32,768 / 2,000 / 16,384; leaf 2, share 49,152, delayed 2,000 / 32,768."
abbrev pub tree_a : Tree
tree_a = two_leaves 16384 (FrontLoaded 32768 2000 16384) 49152 (Delayed 2000 32768)

-- What a row's result says of a history of tree A: the eligible time or the deadline of the head packet of a leaf, the virtual time of a class, or the
-- leaf whose head packet leaves at a tick, and the rule.
pub data Result : Type 0 where
  eligible : (leaf tick : ℕ) → Result
  deadline : (leaf tick : ℕ) → Result
  virtual : (class v : ℕ) → Result
  leaves : (tick leaf : ℕ) → Rule → Result

abbrev pub ResultHolds : List Call → Result → Type 0
ResultHolds cs (eligible leaf tick) = EligibleOf tree_a cs leaf tick
ResultHolds cs (deadline leaf tick) = DeadlineOf tree_a cs leaf tick
ResultHolds cs (virtual class v) = virtual_time_of tree_a cs class ≡ v
ResultHolds cs (leaves tick leaf rule) = Choice tree_a cs tick leaf rule

abbrev pub EveryResult : List Call → List Result → Type 0
EveryResult cs [] = Unit {0}
EveryResult cs (r ∷ rs) = ResultHolds cs r × EveryResult cs rs

-- "The real-time curves fit if at every whole t from 0 the sum of all S(t) is at most 65,536·t"
abbrev pub Fit : List Curve → Type 0
Fit Ss = CurvesFit Ss

-- What a row of curves answers: "fit", or the number of a refusal.
pub data Answer : Type 0 where
  fit : Answer
  refusal : (number : ℕ) → Answer

-- a tree of two leaves with these curves is right, or it is refused with that number, which names class 0
abbrev pub AnswerHolds : Tree → Answer → Type 0
AnswerHolds tree fit = Judged tree all_right
AnswerHolds tree (refusal number) = (why : Refusal) × (number_of why ≡ number) × Judged tree (refused why 0)

-- and the curves fit or not
abbrev pub FitHolds : List Curve → Answer → Type 0
FitHolds Ss fit = Fit Ss
FitHolds Ss (refusal number) = Fit Ss → ⊥

-- A row: a situation of tree A, the calls so far with the newest first, and its results; or the curves of two leaves, and the answer.
pub data Row : Type 0 where
  situation : List Call → List Result → Row
  curves : (S₁ S₂ : Curve) → Answer → Row

-- What a row says: the calls are ones that the rules make and allow, in this order, and each result holds after them; or the curves fit or not, and a
-- start with them answers so.
abbrev pub RowHolds : Row → Type 0
RowHolds (situation cs rs) = Lawful (record { tree = tree_a; first = 0; calls = cs }) × EveryResult cs rs
RowHolds (curves S₁ S₂ answer) = FitHolds (S₁ ∷ S₂ ∷ []) answer × AnswerHolds (two_leaves 32768 S₁ 32768 S₂) answer

-- "both wait; departures at 0 and 520: 1 then 2, real-time". 520 is the first tick at which the link is free again.
abbrev pub both_left : List Call
both_left = left 520 2 RealTime ∷ left 0 1 RealTime ∷ came 0 2 1000 ∷ came 0 1 500 ∷ []

abbrev pub rows : List Row
rows =
    -- "leaf 1, first packet 500 at 0: eligible 0, deadline 1,040"
    situation (came 0 1 500 ∷ []) (eligible 1 0 ∷ deadline 1 1040 ∷ [])
    -- "leaf 2, first packet 1,000 at 0: eligible 0, deadline 4,040"
    ∷ situation (came 0 2 1000 ∷ []) (eligible 2 0 ∷ deadline 2 4040 ∷ [])
    -- "both wait; departures at 0 and 520: 1 then 2, real-time; virtual times 2,080 and 1,360"
    ∷ situation both_left (virtual 1 2080 ∷ virtual 2 1360 ∷ [])
    -- "then leaf 1 gets 500 at 5,000: eligible 5,000, deadline 6,040"
    ∷ situation (came 5000 1 500 ∷ both_left) (eligible 1 5000 ∷ deadline 1 6040 ∷ [])
    -- "instead leaf 1 gets 500 at 600: eligible 1,040, deadline 2,160"
    ∷ situation (came 600 1 500 ∷ both_left) (eligible 1 1040 ∷ deadline 1 2160 ∷ [])
    -- "leaf 2 first waits at 0, sent 1,000 by the real-time rule; gets 1,000 at 1,000: eligible 2,040, deadline 6,080"
    ∷ situation (came 1000 2 1000 ∷ left 0 2 RealTime ∷ came 0 2 1000 ∷ []) (eligible 2 2040 ∷ deadline 2 6080 ∷ [])
    -- "leaf 1 alone, three of 500 at 0; departures 0, 520, 1,040: real-time, fair, real-time; third's deadline 2,160"
    ∷ situation
    (left 520 1 Fair ∷ left 0 1 RealTime ∷ came 0 1 500 ∷ came 0 1 500 ∷ came 0 1 500 ∷ [])
    (leaves 1040 1 RealTime ∷ deadline 1 2160 ∷ [])
    -- "both passive at 2,080 and 1,360; leaf 2 then leaf 1 turn active: both at 2,080"
    ∷ situation (came 2000 1 500 ∷ came 2000 2 500 ∷ both_left) (virtual 1 2080 ∷ virtual 2 2080 ∷ [])
    -- "straight 32,768 and 32,768: fit"
    ∷ curves (Straight 32768) (Straight 32768) fit
    -- "straight 32,769 and 32,768: 10"
    ∷ curves (Straight 32769) (Straight 32768) (refusal 10)
    -- "front-loaded 65,535 / 1 / 1 with straight 1: fit"
    ∷ curves (FrontLoaded 65535 1 1) (Straight 1) fit
    -- "front-loaded 65,536 / 1 / 1 with straight 1: 10"
    ∷ curves (FrontLoaded 65536 1 1) (Straight 1) (refusal 10)
    ∷ []

abbrev pub EveryRow : List Row → Type 0
EveryRow [] = Unit {0}
EveryRow (row ∷ rest) = RowHolds row × EveryRow rest
