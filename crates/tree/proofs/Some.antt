-- Every tree has a verdict, and one by its shape: each rule can be tested, and the first that is broken, or none, decides.
-- Assumes nothing.
use Prim.Native.Nat.{ℕ, zero, suc, ◌≤◌}
use mathlib.Core.Bool.{Bool, true, false, true≢false}
use mathlib.Core.List.{List}
use mathlib.Core.Logic.{◌⊎◌, inl, inr, ⊎_elim}
use mathlib.Core.Path.{◌≡◌, refl, sym}
use native.Mathlib.Decide.{dec_le, ℕ_discrete, map_dec}
use native.Mathlib.Nat.{not-suc-le-zero, eq-or-lt_of_le, le_of_suc-le-suc}
use native.Mathlib.Omega.{arith}
use lib.ListN.{length, get_or}
use Rattle.curve.specs.Curves.{whole, in_parts, bend_of}
use Rattle.curve.specs.Fit.{CurvesFit, total, slopes}
use Rattle.curve.specs.declared.Curve.{Curve}
use Rattle.curve.specs.declared.Curve.TheVariants.{None, Straight, FrontLoaded, Delayed}
use Rattle.curve.proofs.Laws.Limits.{both_decided, within_decided, rate_decided, right_decided}
use Rattle.curve.proofs.Laws.Fit.{bends_enough, slopes_needed, fit_at, every_bend}
use Rattle.tree.specs.Numbers.{number_of}
use Rattle.tree.specs.Rules.{RightClass, RightBody, RightDepth, RightPlace, RightShape, EveryClass, LowestFault, broken, kept, OfTree, OfClasses, ShapeChecked, ShapeJudged, Judged}
use Rattle.tree.specs.Trees.{most_classes, deepest, class_at, curve_of, has_child, depth, curves_of}
use Rattle.tree.specs.declared.Class.{Class}
use Rattle.tree.specs.declared.Refusal.{Refusal}
use Rattle.tree.specs.declared.Refusal.TheVariants.{WrongCount, WrongBody, TooDeep, CurveAboveChildren, CurvesDontFit}
use Rattle.tree.specs.declared.Tree.{Tree}
use Rattle.tree.specs.Verdicts.{Verdict, all_right, refused}

-- ---- what can be tested
none_dec : (S : Curve) → Dec (S ≡ None)
none_dec None = yes refl
none_dec (Straight m) = no (λ e. let z : ◌≡◌ {A = ℕ} 0 1 = cc in omega arith)
none_dec (FrontLoaded m₁ d m₂) = no (λ e. let z : ◌≡◌ {A = ℕ} 0 1 = cc in omega arith)
none_dec (Delayed d m) = no (λ e. let z : ◌≡◌ {A = ℕ} 0 1 = cc in omega arith)

class_dec : (c : Class) (i : ℕ) → Dec (RightClass c i)
unfolding RightClass
class_dec c zero =
    map_dec (λ p. record { parent = p.0; share = p.1.0; curve = p.1.1 }) (λ r. (r.parent, (r.share, r.curve)))
    (both_decided (ℕ_discrete c.parent 0) (both_decided (ℕ_discrete c.share whole) (none_dec c.curve)))
class_dec c (suc i) =
    map_dec (λ p. record { parent = p.0; share = p.1.0; curve = p.1.1 }) (λ r. (r.parent, (r.share, r.curve)))
    (both_decided (dec_le (suc c.parent) (suc i)) (both_decided (rate_decided c.share) (right_decided c.curve)))

place_dec : (b : Bool) (S : Curve) → Dec (b ≡ true → S ≡ None)
place_dec true S = map_dec (λ e has. e) (λ good. good refl) (none_dec S)
place_dec false S = yes (λ has. absurd (true≢false (sym has)))

-- ---- the lowest class at fault, or none
lowest_or_every : (Good : ℕ → Type 0) → ((i : ℕ) → Dec (Good i)) → (n : ℕ) → EveryClass Good n ⊎ ((i : ℕ) × LowestFault Good n i)
lowest_or_every Good test zero = inl (λ i l. absurd (not-suc-le-zero l))
lowest_or_every Good test (suc n) = ⊎_elim at_last (λ found. inr (found.0, higher found.1)) (lowest_or_every Good test n)
  where
    higher : {i : ℕ} → LowestFault Good n i → LowestFault Good (suc n) i
    higher low = record { class = omega arith; fault = low.fault; lowest = low.lowest }

    more : EveryClass Good n → Good n → EveryClass Good (suc n)
    more every good i l = ⊎_elim (λ e. rw e good) (λ l'. every i l') (eq-or-lt_of_le (le_of_suc-le-suc l))

    at_last : EveryClass Good n → EveryClass Good (suc n) ⊎ ((i : ℕ) × LowestFault Good (suc n) i)
    at_last every = elim (test n) [ yes good ↦ inl (more every good) | no bad ↦ inr (n, record { class = omega arith; fault = bad; lowest = every }) ]

fit_dec : (Ss : List Curve) → Dec (CurvesFit Ss)
fit_dec Ss =
    ⊎_elim
    (λ every. map_dec (λ slow. bends_enough Ss (every_bend (λ b. total Ss b ≤ in_parts b) Ss every) slow) (slopes_needed Ss) (dec_le (slopes Ss) whole))
    (λ found. no (λ fit. found.1.fault (fit_at Ss fit (bend_of (get_or Ss found.0 None)))))
    (lowest_or_every (λ k. total Ss (bend_of (get_or Ss k None)) ≤ in_parts (bend_of (get_or Ss k None)))
    (λ k. dec_le (total Ss (bend_of (get_or Ss k None))) (in_parts (bend_of (get_or Ss k None)))) (length Ss))

-- ---- a verdict of one rule, and of all
abbrev Some : (Verdict → Type 0) → Type 0
Some Next = (v : Verdict) × Next v

of_tree_some : (why : Refusal) {Good : Type 0} {Next : Verdict → Type 0} → Dec Good → (Good → Some Next) → Some (OfTree (number_of why) Good Next)
of_tree_some why (yes good) next = let after = next good in (after.0, kept good after.1)
of_tree_some why (no bad) next = (refused why 0, broken refl (record { zero = refl; fault = bad }))

of_classes_some : (why : Refusal) (n : ℕ) (Good : ℕ → Type 0) {Next : Verdict → Type 0} → ((i : ℕ) → Dec (Good i)) →
    (EveryClass Good n → Some Next) → Some (OfClasses (number_of why) n Good Next)
of_classes_some why n Good test next =
    ⊎_elim (λ every. let after = next every in (after.0, kept every after.1)) (λ found. (refused why found.0, broken refl found.1))
    (lowest_or_every Good test n)

pub shape_checked_some : (t : Tree) {Next : Verdict → Type 0} → (RightShape t → Some Next) → Some (ShapeChecked t Next)
unfolding ShapeChecked
shape_checked_some t next =
    of_tree_some WrongCount (within_decided 2 most_classes t.count)
    (λ count. of_classes_some WrongBody t.count (RightBody t) (λ i. class_dec (class_at t i) i)
    (λ bodies. of_classes_some TooDeep t.count (RightDepth t) (λ i. dec_le (depth t i) deepest)
    (λ depths. of_classes_some CurveAboveChildren t.count (RightPlace t) (λ i. place_dec (has_child t i) (curve_of t i))
    (λ places. next (record { count = count; bodies = bodies; depths = depths; places = places })))))

pub shape_some : (t : Tree) → (v : Verdict) × ShapeJudged t v
shape_some t = shape_checked_some t (λ shape. (all_right, refl))

pub check_some : (t : Tree) → (v : Verdict) × Judged t v
check_some t = shape_checked_some t (λ shape. of_tree_some CurvesDontFit (fit_dec (curves_of t)) (λ fit. (all_right, refl)))
