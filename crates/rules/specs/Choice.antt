-- Document 01, "One departure": the real-time rule and the fair rule.
-- Assumes nothing.
use Rattle.std.specs.Prelude.{◌≡◌, ℕ, ◌≤◌, Bool, true, false, List}
use Rattle.curve.specs.declared.Curve.{Curve}
use Rattle.curve.specs.declared.Curve.TheVariants.{None, Straight, FrontLoaded, Delayed}
use Rattle.tree.specs.declared.Tree.{Tree}
use Rattle.tree.specs.Trees.{curve_of, is_child, is_leaf}
use Rattle.rules.specs.declared.Rule.{Rule}
use Rattle.rules.specs.declared.Rule.TheVariants.{RealTime, Fair}
use Rattle.rules.specs.Calls.{Call}
use Rattle.rules.specs.Queues.{waits}
use Rattle.rules.specs.Leaves.{DeadlineOf, EligibleOf}
use Rattle.rules.specs.Classes.{active}
use Rattle.rules.specs.Fair.{virtual_time_of}

-- "a leaf with a real-time curve"
abbrev pub has_curve : Curve → Bool
has_curve None = false
has_curve (Straight m) = true
has_curve (FrontLoaded m₁ d m₂) = true
has_curve (Delayed d m) = true

-- "the smallest .., then the lowest class number": of all classes and values that are meant, class j with value x
pub record First (Meant : ℕ → ℕ → Type 0) (j x : ℕ) : Type 0 where
  pub meant : Meant j x
  pub smallest : (k y : ℕ) → Meant k y → x ≤ y
  pub lowest : (k : ℕ) → Meant k x → j ≤ k

-- "Among waiting leaves with a real-time curve whose eligible time is not later than now": leaf j is one of them, with its deadline
pub record Contends (tree : Tree) (cs : List Call) (now j deadline : ℕ) : Type 0 where
  pub leaf : is_leaf tree j ≡ true
  pub waiting : waits cs j ≡ true
  pub curved : has_curve (curve_of tree j) ≡ true
  pub eligible : ℕ
  pub is_eligible : EligibleOf tree cs j eligible
  pub ripe : eligible ≤ now
  pub is_deadline : DeadlineOf tree cs j deadline

-- "take the smallest deadline, then the lowest class number. This is the real-time rule."
pub record RealTimeRule (tree : Tree) (cs : List Call) (now j : ℕ) : Type 0 where
  pub deadline : ℕ
  pub first : First (Contends tree cs now) j deadline

-- class k is an "active child" of class i, with its virtual time
pub record ActiveChild (tree : Tree) (cs : List Call) (i k v : ℕ) : Type 0 where
  pub child : is_child tree i k ≡ true
  pub is_active : active tree cs k ≡ true
  pub virtual : virtual_time_of tree cs k ≡ v

-- from class i "the choice goes down .. until it reaches a leaf", j, "at each class to the active child of smallest virtual time, then lowest number"
pub data GoesDown (tree : Tree) (cs : List Call) (j : ℕ) : ℕ → Type 0 where
  reached : is_leaf tree j ≡ true → GoesDown tree cs j j
  down : {i k v : ℕ} → First (ActiveChild tree cs i) k v → GoesDown tree cs j k → GoesDown tree cs j i

-- "If there is none, the choice goes down from class 0 .. This is the fair rule."
pub record FairRule (tree : Tree) (cs : List Call) (now j : ℕ) : Type 0 where
  pub none : (k d : ℕ) → Contends tree cs now k d → ⊥
  pub goes_down : GoesDown tree cs j 0

-- the leaf whose head packet leaves at `now`, and the rule
abbrev pub Choice : Tree → List Call → ℕ → ℕ → Rule → Type 0
Choice tree cs now j RealTime = RealTimeRule tree cs now j
Choice tree cs now j Fair = FairRule tree cs now j

-- "none waits"
abbrev pub NothingWaits : List Call → Type 0
NothingWaits cs = (j : ℕ) → waits cs j ≡ false
