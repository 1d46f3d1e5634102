-- Document 01, "Numbers of refusal": the rules 4, 7, 8, 9 and 10 that a tree is held to, and the one verdict that they give it. The first four are about
-- its shape, the last about its curves together.
-- Assumes nothing.
use Rattle.std.specs.Prelude.{ℕ, zero, suc, ◌≤◌, ◌<◌, ◌≡◌, true, Option, Some, None}
use Rattle.curve.specs.Curves.{whole, Within, RightRate, RightCurve}
use Rattle.curve.specs.Fit.{CurvesFit}
use Rattle.curve.specs.declared.Curve.{Curve}
use Rattle.tree.specs.Numbers.{number_of}
use Rattle.tree.specs.Trees.{most_classes, deepest, class_at, curve_of, has_child, depth, curves_of}
use Rattle.tree.specs.declared.Class.{Class}
use Rattle.tree.specs.declared.Tree.{Tree}
use Rattle.tree.specs.declared.Refusal.{Refusal}
use Rattle.tree.specs.Verdicts.{Verdict, all_right, refused}

-- 4, "count outside 2 to 64": what is kept
abbrev pub RightCount : Tree → Type 0
RightCount t = Within 2 most_classes t.count

-- 7, "parent, share or curve number breaks a rule above". "Class 0 is the root: parent 0, share 65,536, kind 0."
pub record RightRoot (c : Class) : Type 0 where
  pub parent : c.parent ≡ 0
  pub share : c.share ≡ whole
  pub curve : c.curve ≡ Curve.None

-- "Any other class has a parent of lower number"; "rate or share: 1 to 65,536"; and a curve's numbers
pub record RightOther (c : Class) (i : ℕ) : Type 0 where
  pub parent : c.parent < i
  pub share : RightRate c.share
  pub curve : RightCurve c.curve

unfoldable pub RightClass : Class → ℕ → Type 0
RightClass c zero = RightRoot c
RightClass c (suc i) = RightOther c (suc i)

abbrev pub RightBody : Tree → ℕ → Type 0
RightBody t i = RightClass (class_at t i) i

-- 8, "depth over 8"
abbrev pub RightDepth : Tree → ℕ → Type 0
RightDepth t i = depth t i ≤ deepest

-- 9, "real-time curve on a class with children"
abbrev pub RightPlace : Tree → ℕ → Type 0
RightPlace t i = has_child t i ≡ true → curve_of t i ≡ Curve.None

-- every class below n is right
abbrev pub EveryClass : (ℕ → Type 0) → ℕ → Type 0
EveryClass Good n = (i : ℕ) → i < n → Good i

-- "names the lowest class at fault": class i is at fault, and none below it is
pub record LowestFault (Good : ℕ → Type 0) (n i : ℕ) : Type 0 where
  pub class : i < n
  pub fault : Good i → ⊥
  pub lowest : EveryClass Good i

-- what a search for a fault must find
abbrev pub Found : (ℕ → Type 0) → ℕ → Option ℕ → Type 0
Found Good n (Some i) = LowestFault Good n i
Found Good n None = EveryClass Good n

-- a tree that keeps the rules of shape, 4, 7, 8 and 9
pub record RightShape (t : Tree) : Type 0 where
  pub count : RightCount t
  pub bodies : EveryClass (RightBody t) t.count
  pub depths : EveryClass (RightDepth t) t.count
  pub places : EveryClass (RightPlace t) t.count

-- a tree that keeps all the rules
pub record RightTree (t : Tree) : Type 0 where
  pub shape : RightShape t
  pub fit : CurvesFit (curves_of t)

-- The check of one rule, by its number in 01's table: where the rule is broken the verdict is that refusal, and names the class; where it is kept the
-- checks after it decide.
pub data Checking (number : ℕ) (Kept : Type 0) (BrokenAt : ℕ → Type 0) (Next : Verdict → Type 0) : Verdict → Type 0 where
  broken : {why : Refusal} {i : ℕ} → number_of why ≡ number → BrokenAt i → Checking number Kept BrokenAt Next (refused why i)
  kept : {v : Verdict} → Kept → Next v → Checking number Kept BrokenAt Next v

-- a rule of the tree as a whole: "0 for 1 to 5 and 10"
pub record BrokenWhole (Good : Type 0) (i : ℕ) : Type 0 where
  pub zero : i ≡ 0
  pub fault : Good → ⊥

abbrev pub OfTree : ℕ → Type 0 → (Verdict → Type 0) → Verdict → Type 0
OfTree number Good Next = Checking number Good (BrokenWhole Good) Next

-- a rule of each class, "over all classes before the next"
abbrev pub OfClasses : ℕ → ℕ → (ℕ → Type 0) → (Verdict → Type 0) → Verdict → Type 0
OfClasses number n Good Next = Checking number (EveryClass Good n) (LowestFault Good n) Next

-- the checks of shape, 4, 7, 8 and 9, and then what comes after them
unfoldable pub ShapeChecked : Tree → (Verdict → Type 0) → Verdict → Type 0
ShapeChecked t Next =
    OfTree 4 (RightCount t)
    (OfClasses 7 t.count (RightBody t)
    (OfClasses 8 t.count (RightDepth t)
    (OfClasses 9 t.count (RightPlace t)
    Next)))

-- check 10, and then what comes after it
abbrev pub FitChecked : Tree → (Verdict → Type 0) → Verdict → Type 0
FitChecked t Next = OfTree 10 (CurvesFit (curves_of t)) Next

-- "checks 4, 7, 8, 9, 10", and then what comes after them
abbrev pub Checked : Tree → (Verdict → Type 0) → Verdict → Type 0
Checked t Next = ShapeChecked t (FitChecked t Next)

-- the verdict of a tree by its shape alone
abbrev pub ShapeJudged : Tree → Verdict → Type 0
ShapeJudged t = ShapeChecked t (λ v. v ≡ all_right)

-- the verdict of a tree
abbrev pub Judged : Tree → Verdict → Type 0
Judged t = Checked t (λ v. v ≡ all_right)
