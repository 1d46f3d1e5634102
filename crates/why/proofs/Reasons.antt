-- For every leaf exactly one reason holds, and the one that reads chosen departs.
-- Assumes nothing.
use Prim.Native.Nat.{ℕ, ◌+◌, ◌≤◌, ◌<◌}
use mathlib.Core.Path.{◌≡◌, refl, sym, ◌∙◌, ap, subst}
use mathlib.Core.Bool.{true, false}
use mathlib.Core.List.{List}
use mathlib.Core.Logic.{⊎_elim}
use native.Mathlib.Omega.{arith}
use native.Mathlib.Nat.{le_antisymm}
use Rattle.curve.proofs.Laws.Answers.{least_one}
use Rattle.curve.proofs.Laws.Order.{le_or_lt}
use Rattle.curve.proofs.Laws.Times.{deadline_exists, eligible_exists}
use Rattle.tree.specs.declared.Tree.{Tree}
use Rattle.tree.specs.Trees.{curve_of, is_leaf}
use Rattle.rules.specs.declared.Rule.{Rule}
use Rattle.rules.specs.declared.Rule.TheVariants.{RealTime, Fair}
use Rattle.rules.specs.Limits.{weigh}
use Rattle.rules.specs.Calls.{Call}
use Rattle.rules.specs.Queues.{waits, head_length}
use Rattle.rules.specs.Leaves.{pieces, sent_real_time}
use Rattle.rules.specs.Choice.{has_curve, First, Contends, RealTimeRule, FairRule, Choice}
use Rattle.rules.specs.Lawful.{Grown, LawfulCalls}
use Rattle.rules.specs.Answers.{next_clock}
use Rattle.rules.proofs.Tests.{never, decided, equal_or_not}
use Rattle.rules.proofs.Trees.{leaf_class, curve_rising, within_top}
use Rattle.rules.proofs.Queues.{waits_leaf}
use Rattle.rules.proofs.Active.{choice_waits, choice_leaf}
use Rattle.rules.proofs.Choice.{first_one, choice_one, choice_exists}
use Rattle.reason.specs.declared.Reason.{Reason}
use Rattle.reason.specs.declared.Reason.TheVariants.{NothingWaits, ChosenByDeadline, NoCurve, NotEligible, LaterDeadline, HigherNumber, ChosenByShare, PassedOver}
use Rattle.why.specs.Why.{Holds, RealTimeDecides, FairDecides, HasNoCurve, IsNotEligible, HasLaterDeadline, HasHigherNumber, IsPassedOver}
use Rattle.why.specs.Theorems.{ReasonOne, ReasonSome, chosen_by, ChosenIsSent, NoneReadsNothing, PassedAtLastCommon}
use Rattle.why.proofs.Ways.{reached_stays, leaves_one, leaves_some, leaves_common}

-- At most one.

-- what sets the reasons apart: nothing waits; the leaf contends, has no curve or is not eligible yet, where the real-time rule decides; or the fair rule decides
data Side : Type 0 where
  empty : Side
  contending : Side
  bare : Side
  early : Side
  shared : Side

module _ (tree : Tree) (cs : List Call) (grown : Grown tree) (law : LawfulCalls tree cs) (now i : ℕ) where
  data Contending : Reason → Type 0 where
    chosen : RealTimeRule tree cs now i → Contending ChosenByDeadline
    later : {j : ℕ} → HasLaterDeadline tree cs now i j → Contending (LaterDeadline j)
    higher : {j : ℕ} → HasHigherNumber tree cs now i j → Contending (HigherNumber j)

  data Shared : Reason → Type 0 where
    chosen : FairRule tree cs now i → Shared ChosenByShare
    passed : {p k v : ℕ} → IsPassedOver tree cs now i p k v → Shared (PassedOver p k v)

  abbrev Sided : Side → Reason → Type 0
  Sided empty r = (waits cs i ≡ false) × (r ≡ NothingWaits)
  Sided contending r = Contending r
  Sided bare r = HasNoCurve tree cs now i × (r ≡ NoCurve)
  Sided early r = (e : ℕ) × IsNotEligible tree cs now i e × (r ≡ NotEligible e)
  Sided shared r = Shared r

  sided : (r : Reason) → Holds tree cs now i r → (a : Side) × Sided a r
  sided NothingWaits h = (empty, (h, refl))
  sided ChosenByDeadline h = (contending, chosen h)
  sided NoCurve h = (bare, (h, refl))
  sided (NotEligible until) h = (early, (until, h, refl))
  sided (LaterDeadline j) h = (contending, later h)
  sided (HigherNumber j) h = (contending, higher h)
  sided ChosenByShare h = (shared, chosen h)
  sided (PassedOver p k v) h = (shared, passed h)

  contends : (r : Reason) → Contending r → (d : ℕ) × Contends tree cs now i d
  contends r (chosen h) = (h.deadline, h.first.meant)
  contends r (later h) = (h.deadline, h.contends)
  contends r (higher h) = (h.deadline, h.contends)

  decides : (r : Reason) → Contending r → RealTimeDecides tree cs now
  decides r (chosen h) = record { chosen = i; rule = h }
  decides r (later {j = j} h) = record { chosen = j; rule = record { deadline = h.smallest; first = h.first } }
  decides r (higher {j = j} h) = record { chosen = j; rule = record { deadline = h.deadline; first = h.first } }

  shares : (r : Reason) → Shared r → FairDecides tree cs now
  shares r (chosen h) = record { chosen = i; rule = h }
  shares r (passed h) = h.decides

  shared_waits : (r : Reason) → Shared r → waits cs i ≡ true
  shared_waits r (chosen h) = choice_waits tree grown cs now i Fair h
  shared_waits r (passed h) = h.waiting

  -- the two rules do not both decide
  not_both : {A : Type 0} → RealTimeDecides tree cs now → FairDecides tree cs now → A
  not_both d f = absurd (f.rule.none d.chosen d.rule.deadline d.rule.first.meant)

  too_early : {A : Type 0} {d e : ℕ} → Contends tree cs now i d → IsNotEligible tree cs now i e → A
  too_early c h = absurd (omega (arith, least_one c.is_eligible h.is_eligible, c.ripe, h.later))

  one_side : (a b : Side) (r s : Reason) → Sided a r → Sided b s → a ≡ b
  one_side empty empty r s p q = refl
  one_side empty contending r s p q = never (contends s q).1.waiting p.0
  one_side empty bare r s p q = never q.0.waiting p.0
  one_side empty early r s p q = never q.1.waiting p.0
  one_side empty shared r s p q = never (shared_waits s q) p.0
  one_side contending empty r s p q = never (contends r p).1.waiting q.0
  one_side contending contending r s p q = refl
  one_side contending bare r s p q = never (contends r p).1.curved q.0.curveless
  one_side contending early r s p q = too_early (contends r p).1 q.1
  one_side contending shared r s p q = not_both (decides r p) (shares s q)
  one_side bare empty r s p q = never p.0.waiting q.0
  one_side bare contending r s p q = never (contends s q).1.curved p.0.curveless
  one_side bare bare r s p q = refl
  one_side bare early r s p q = never q.1.curved p.0.curveless
  one_side bare shared r s p q = not_both p.0.decides (shares s q)
  one_side early empty r s p q = never p.1.waiting q.0
  one_side early contending r s p q = too_early (contends s q).1 p.1
  one_side early bare r s p q = never p.1.curved q.0.curveless
  one_side early early r s p q = refl
  one_side early shared r s p q = not_both p.1.decides (shares s q)
  one_side shared empty r s p q = never (shared_waits r p) q.0
  one_side shared contending r s p q = not_both (decides s q) (shares r p)
  one_side shared bare r s p q = not_both q.0.decides (shares r p)
  one_side shared early r s p q = not_both q.1.decides (shares r p)
  one_side shared shared r s p q = refl

  -- the leaf that contends leads, or comes after one leaf by a later deadline, or by its number
  not_later : {A : Type 0} {d j : ℕ} → First (Contends tree cs now) j d → Contends tree cs now i d → HasLaterDeadline tree cs now i j → A
  not_later f c h = absurd (omega (arith, (first_one f h.first).1, least_one c.is_deadline h.contends.is_deadline, h.later))

  contending_one : (r s : Reason) → Contending r → Contending s → r ≡ s
  contending_one r s (chosen p) (chosen q) = refl
  contending_one r s (chosen p) (later q) = not_later (subst (λ (j : ℕ). First (Contends tree cs now) j p.deadline) (first_one p.first q.first).0 p.first) p.first.meant q
  contending_one r s (chosen p) (higher q) = absurd (omega (arith, (first_one p.first q.first).0, q.higher))
  contending_one r s (later p) (chosen q) = not_later (subst (λ (j : ℕ). First (Contends tree cs now) j q.deadline) (first_one q.first p.first).0 q.first) q.first.meant p
  contending_one r s (later p) (later q) = ap LaterDeadline (first_one p.first q.first).0
  contending_one r s (later p) (higher q) = not_later (subst (λ (j : ℕ). First (Contends tree cs now) j q.deadline) (first_one q.first p.first).0 q.first) q.contends p
  contending_one r s (higher p) (chosen q) = absurd (omega (arith, (first_one q.first p.first).0, p.higher))
  contending_one r s (higher p) (later q) = not_later (subst (λ (j : ℕ). First (Contends tree cs now) j p.deadline) (first_one p.first q.first).0 p.first) p.contends q
  contending_one r s (higher p) (higher q) = ap HigherNumber (first_one p.first q.first).0

  small : waits cs i ≡ true → i < tree.count
  small w = leaf_class tree i (waits_leaf tree cs law i w)

  -- a leaf that the fair rule chose is not passed over
  not_passed : {A : Type 0} {p k v : ℕ} → FairRule tree cs now i → IsPassedOver tree cs now i p k v → A
  not_passed {p = p} {k = k} {v = v} f h = absurd (reached_stays tree grown cs i 0 p k v (small h.waiting) f.goes_down h.leaves)

  shared_one : (r s : Reason) → Shared r → Shared s → r ≡ s
  shared_one r s (chosen p) (chosen q) = refl
  shared_one r s (chosen p) (passed q) = not_passed p q
  shared_one r s (passed p) (chosen q) = not_passed q p
  shared_one r s (passed {p = a} {k = b} {v = u} p) (passed {p = c} {k = d} {v = v} q) =
      let same = leaves_one tree grown cs i 0 a b u c d v p.leaves q.leaves in
      λ j. PassedOver (same.0 j) (same.1 j) (same.2 j)

  on_side : (a : Side) (r s : Reason) → Sided a r → Sided a s → r ≡ s
  on_side empty r s p q = p.1 ∙ sym q.1
  on_side contending r s p q = contending_one r s p q
  on_side bare r s p q = p.1 ∙ sym q.1
  on_side early r s p q = p.2 ∙ ap NotEligible (least_one p.1.is_eligible q.1.is_eligible) ∙ sym q.2
  on_side shared r s p q = shared_one r s p q

  one_reason : (r s : Reason) → Holds tree cs now i r → Holds tree cs now i s → r ≡ s
  one_reason r s p q =
      let (a, x) = sided r p in
      let (b, y) = sided s q in
      on_side b r s (subst (λ (side : Side). Sided side r) (one_side a b r s x y) x) y

  -- At least one.

  module _ (leaf : is_leaf tree i ≡ true) (waiting : waits cs i ≡ true) where
    real_time_some : (j : ℕ) → RealTimeRule tree cs now j → (r : Reason) × Holds tree cs now i r
    real_time_some j rule = ⊎_elim (λ (c : has_curve (curve_of tree i) ≡ true). curved c) (λ (c : has_curve (curve_of tree i) ≡ false). (NoCurve, record { decides = here; waiting = waiting; curveless = c })) (decided (has_curve (curve_of tree i)))
      where
        here : RealTimeDecides tree cs now
        here = record { chosen = j; rule = rule }

        behind : (d : ℕ) → Contends tree cs now i d → (r : Reason) × Holds tree cs now i r
        behind d c =
            ⊎_elim
            (λ (h : d ≤ rule.deadline).
            let same : d ≡ rule.deadline = le_antisymm h (rule.first.smallest i d c) in
            let c' = subst (Contends tree cs now i) same c in
            ⊎_elim (λ (e : j ≡ i). (ChosenByDeadline, subst (RealTimeRule tree cs now) e rule))
            (λ (apart : j ≡ i → ⊥). (HigherNumber j, record { deadline = rule.deadline; first = rule.first; contends = c'; higher = omega (arith, rule.first.lowest i c', apart) }))
            (equal_or_not j i))
            (λ (h : rule.deadline < d). (LaterDeadline j, record { smallest = rule.deadline; first = rule.first; deadline = d; contends = c; later = h })) (le_or_lt d rule.deadline)

        curved : has_curve (curve_of tree i) ≡ true → (r : Reason) × Holds tree cs now i r
        curved c =
            let rising = curve_rising tree grown i (leaf_class tree i leaf) c in
            let e = eligible_exists (curve_of tree i) rising (pieces cs i) (sent_real_time cs i) in
            let d = deadline_exists (curve_of tree i) rising (pieces cs i) (sent_real_time cs i + weigh (head_length cs i)) in
            ⊎_elim
            (λ (h : e.0 ≤ now).
            behind d.0 (record { leaf = leaf; waiting = waiting; curved = c; eligible = e.0; is_eligible = e.1; ripe = h; is_deadline = d.1 }))
            (λ (h : now < e.0). (NotEligible e.0, record { decides = here; waiting = waiting; curved = c; is_eligible = e.1; later = h })) (le_or_lt e.0 now)

    fair_some : (j : ℕ) → FairRule tree cs now j → (r : Reason) × Holds tree cs now i r
    fair_some j rule =
        ⊎_elim (λ (e : i ≡ j). (ChosenByShare, subst (FairRule tree cs now) (sym e) rule))
        (λ (apart : i ≡ j → ⊥).
        let (p, k, v, leaves) = leaves_some tree grown cs i j (choice_leaf tree grown cs now j Fair rule) (leaf_class tree i leaf) apart rule.goes_down in
        (PassedOver p k v, record { decides = record { chosen = j; rule = rule }; waiting = waiting; leaves = leaves })) (equal_or_not i j)

    by_rule : (j : ℕ) (r : Rule) → Choice tree cs now j r → (s : Reason) × Holds tree cs now i s
    by_rule j RealTime c = real_time_some j c
    by_rule j Fair c = fair_some j c

  some_reason : is_leaf tree i ≡ true → (r : Reason) × Holds tree cs now i r
  some_reason leaf =
      ⊎_elim (λ (w : waits cs i ≡ true). let (j, r, c) = choice_exists tree grown cs law now i w in by_rule leaf w j r c) (λ (w : waits cs i ≡ false). (NothingWaits, w)) (decided (waits cs i))

pub reason_one : ReasonOne
reason_one tree cs grown law now i r s p q = one_reason tree cs grown law now i r s p q

pub reason_some : ReasonSome
reason_some tree cs grown law now i leaf = some_reason tree cs grown law now i leaf

-- The one that reads chosen departs.

reads_chosen : (tree : Tree) (cs : List Call) (now j : ℕ) (r : Rule) → Choice tree cs now j r → Holds tree cs now j (chosen_by r)
reads_chosen tree cs now j RealTime c = c
reads_chosen tree cs now j Fair c = c

chosen_reads : (tree : Tree) (cs : List Call) (now j : ℕ) (r : Rule) → Holds tree cs now j (chosen_by r) → Choice tree cs now j r
chosen_reads tree cs now j RealTime c = c
chosen_reads tree cs now j Fair c = c

pub chosen_departs : ChosenIsSent
chosen_departs h stamp p next d =
    record {
      reads = reads_chosen h.tree h.calls (next_clock h stamp) p.class p.rule d.chosen;
      only = λ i r q.
          choice_one h.tree h.calls (next_clock h stamp) i p.class r p.rule (chosen_reads h.tree h.calls (next_clock h stamp) i r q) d.chosen;
    }

pub none_reads_nothing : NoneReadsNothing
none_reads_nothing h law stamp next d i r q = reason_one h.tree h.calls law.grown law.lawful (next_clock h stamp) i r NothingWaits q (d.nothing i)

pub passed_at_last_common : PassedAtLastCommon
passed_at_last_common tree cs grown law now i j class child time rule h =
    let small = leaf_class tree i (waits_leaf tree cs law i h.waiting) in
    let apart : i ≡ j → ⊥ = λ e. reached_stays tree grown cs i 0 class child time small (subst (FairRule tree cs now) (sym e) rule).goes_down h.leaves in
    leaves_common tree grown cs i j (choice_leaf tree grown cs now j Fair rule) small apart 0 class child time h.leaves rule.goes_down (within_top tree grown i small)
