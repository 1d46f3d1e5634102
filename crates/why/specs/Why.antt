-- Request 5, "Tell the studio why its packet waited": for a leaf "one reason why a departure now would or wouldn't take from it", each "true by 01's definitions".
-- Assumes nothing.
use Rattle.std.specs.Prelude.{ℕ, ◌<◌, ◌≡◌, true, false, List}
use Rattle.tree.specs.declared.Tree.{Tree}
use Rattle.tree.specs.Trees.{curve_of, is_child}
use Rattle.rules.specs.Calls.{Call}
use Rattle.rules.specs.Queues.{waits}
use Rattle.rules.specs.Leaves.{EligibleOf}
use Rattle.rules.specs.Classes.{is_within}
use Rattle.rules.specs.Choice.{has_curve, First, Contends, RealTimeRule, ActiveChild, FairRule}
use Rattle.reason.specs.declared.Reason.{Reason}
use Rattle.reason.specs.declared.Reason.TheVariants.{NothingWaits, ChosenByDeadline, NoCurve, NotEligible, LaterDeadline, HigherNumber, ChosenByShare, PassedOver}

-- "when the real-time rule decides": it has a leaf to take
pub record RealTimeDecides (tree : Tree) (cs : List Call) (now : ℕ) : Type 0 where
  pub chosen : ℕ
  pub rule : RealTimeRule tree cs now chosen

-- "When the fair rule decides": it has a leaf to take, and the real-time rule none
pub record FairDecides (tree : Tree) (cs : List Call) (now : ℕ) : Type 0 where
  pub chosen : ℕ
  pub rule : FairRule tree cs now chosen

-- "has no real-time curve"
pub record HasNoCurve (tree : Tree) (cs : List Call) (now i : ℕ) : Type 0 where
  pub decides : RealTimeDecides tree cs now
  pub waiting : waits cs i ≡ true
  pub curveless : has_curve (curve_of tree i) ≡ false

-- "not eligible until a named tick": its eligible time, which is later than now
pub record IsNotEligible (tree : Tree) (cs : List Call) (now i until : ℕ) : Type 0 where
  pub decides : RealTimeDecides tree cs now
  pub waiting : waits cs i ≡ true
  pub curved : has_curve (curve_of tree i) ≡ true
  pub is_eligible : EligibleOf tree cs i until
  pub later : now < until

-- "eligible but behind the chosen leaf, which is named, by a later deadline". That the real-time rule decides is in `first`: it takes that leaf.
pub record HasLaterDeadline (tree : Tree) (cs : List Call) (now i chosen : ℕ) : Type 0 where
  pub smallest : ℕ
  pub first : First (Contends tree cs now) chosen smallest
  pub deadline : ℕ
  pub contends : Contends tree cs now i deadline
  pub later : smallest < deadline

-- "or by an equal one and a higher number"
pub record HasHigherNumber (tree : Tree) (cs : List Call) (now i chosen : ℕ) : Type 0 where
  pub deadline : ℕ
  pub first : First (Contends tree cs now) chosen deadline
  pub contends : Contends tree cs now i deadline
  pub higher : chosen < i

-- From a class on, the choice's way down leaves leaf i's ancestors: at the first class where it takes a child that is neither one of them nor leaf i (`here`),
-- or further down (`below`). It names the class, the child and its virtual time.
pub data LeavesWay (tree : Tree) (cs : List Call) (i : ℕ) : (from class child time : ℕ) → Type 0 where
  here : {p k v : ℕ} → First (ActiveChild tree cs p) k v → is_within tree k i ≡ false → LeavesWay tree cs i p p k v
  below : {p k v class child time : ℕ} → First (ActiveChild tree cs p) k v → is_within tree k i ≡ true → LeavesWay tree cs i k class child time
      → LeavesWay tree cs i p class child time

-- "passed over at a named class, the first on the way down where the choice leaves this leaf's ancestors, for a named child and its virtual time"
pub record IsPassedOver (tree : Tree) (cs : List Call) (now i class child time : ℕ) : Type 0 where
  pub decides : FairDecides tree cs now
  pub waiting : waits cs i ≡ true
  pub leaves : LeavesWay tree cs i 0 class child time

-- the reason of leaf i, at the tick `now`
abbrev pub Holds : Tree → List Call → (now i : ℕ) → Reason → Type 0
-- "A leaf with no packet always reads: nothing waits."
Holds tree cs now i NothingWaits = waits cs i ≡ false
-- "For the others, when the real-time rule decides: chosen by deadline; has no real-time curve; not eligible until a named tick; or eligible but behind
-- the chosen leaf, which is named, by a later deadline or by an equal one and a higher number."
Holds tree cs now i ChosenByDeadline = RealTimeRule tree cs now i
Holds tree cs now i NoCurve = HasNoCurve tree cs now i
Holds tree cs now i (NotEligible until) = IsNotEligible tree cs now i until
Holds tree cs now i (LaterDeadline chosen) = HasLaterDeadline tree cs now i chosen
Holds tree cs now i (HigherNumber chosen) = HasHigherNumber tree cs now i chosen
-- "When the fair rule decides: chosen by share; or passed over at a named class"
Holds tree cs now i ChosenByShare = FairRule tree cs now i
Holds tree cs now i (PassedOver class child time) = IsPassedOver tree cs now i class child time

-- the last class common to leaf i's way up and the chosen leaf's, and its child that is on the chosen leaf's way and not on leaf i's
pub record LastCommon (tree : Tree) (i chosen class child : ℕ) : Type 0 where
  pub leafs : is_within tree class i ≡ true
  pub choices : is_within tree class chosen ≡ true
  pub last : (d : ℕ) → is_within tree d i ≡ true → is_within tree d chosen ≡ true → is_within tree d class ≡ true
  pub below : is_child tree class child ≡ true
  pub taken : is_within tree child chosen ≡ true
  pub left : is_within tree child i ≡ false
