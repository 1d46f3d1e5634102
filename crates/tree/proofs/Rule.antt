-- The check of one rule: at most one verdict, at least one where the rule can be tested, and the same verdict for the same facts.
-- Assumes nothing.
use Prim.Native.Nat.{ℕ, ◌≤◌, ◌<◌}
use mathlib.Core.Path.{◌≡◌, sym, ap₂, ◌∙◌}
use mathlib.Core.Logic.{⊎_elim}
use native.Mathlib.Nat.{le_antisymm}
use native.Mathlib.Omega.{arith}
use Rattle.curve.proofs.Laws.Order.{le_or_lt}
use Rattle.tree.specs.Rules.{EveryClass, LowestFault, Checking, broken, kept, BrokenWhole}
use Rattle.tree.specs.Verdicts.{Verdict, refused}
use Rattle.tree.proofs.Numbers.{refusal_by_number}

-- a relation that names at most one verdict
abbrev pub AtMostOne : (Verdict → Type 0) → Type 0
AtMostOne Next = (v w : Verdict) → Next v → Next w → v ≡ w

-- there is one lowest class at fault at most, and none where every class is right
not_below : {Good : ℕ → Type 0} {n i j : ℕ} → LowestFault Good n i → LowestFault Good n j → i ≤ j
not_below {Good} {n} {i} {j} a b = ⊎_elim (λ l. l) (λ l. absurd (b.fault (a.lowest j l))) (le_or_lt i j)

pub lowest_one : {Good : ℕ → Type 0} {n i j : ℕ} → LowestFault Good n i → LowestFault Good n j → i ≡ j
lowest_one a b = le_antisymm (not_below a b) (not_below b a)

pub lowest_none : {Good : ℕ → Type 0} {n i : ℕ} → EveryClass Good n → LowestFault Good n i → ⊥
lowest_none {Good} {n} {i} every a = a.fault (every i a.class)

-- and so for a rule of the tree as a whole
pub whole_one : {Good : Type 0} {i j : ℕ} → BrokenWhole Good i → BrokenWhole Good j → i ≡ j
whole_one a b = a.zero ∙ sym b.zero

pub whole_none : {Good : Type 0} {i : ℕ} → Good → BrokenWhole Good i → ⊥
whole_none good a = a.fault good

module _ {number : ℕ} {Kept : Type 0} {BrokenAt : ℕ → Type 0} {Next : Verdict → Type 0} where
  pub rule_one : ((i : ℕ) → Kept → BrokenAt i → ⊥) → ((i j : ℕ) → BrokenAt i → BrokenAt j → i ≡ j) → AtMostOne Next →
      AtMostOne (Checking number Kept BrokenAt Next)
  rule_one apart one next v w (broken {why = a} {i = i} e b) (broken {why = a'} {i = i'} e' b') = ap₂ refused (refusal_by_number a a' (e ∙ sym e')) (one i i' b b')
  rule_one apart one next v w (broken {i = i} e b) (kept k n) = absurd (apart i k b)
  rule_one apart one next v w (kept k n) (broken {i = i} e b) = absurd (apart i k b)
  rule_one apart one next v w (kept k n) (kept k' n') = next v w n n'

-- the same facts give the same verdict; what is kept may help to show that the checks after it agree
module _ {number : ℕ} {Kept Kept' : Type 0} {BrokenAt BrokenAt' : ℕ → Type 0} {Next Next' : Verdict → Type 0} where
  pub rule_map : {v : Verdict} → (Kept → Kept') → ((i : ℕ) → BrokenAt i → BrokenAt' i) → (Kept → Next v → Next' v) →
      Checking number Kept BrokenAt Next v → Checking number Kept' BrokenAt' Next' v
  rule_map keep brk next (broken {i = i} e b) = broken e (brk i b)
  rule_map keep brk next (kept k n) = kept (keep k) (next k n)

-- two rules that hold of the same classes below n
pub record SameBelow (Good Good' : ℕ → Type 0) (n : ℕ) : Type 0 where
  pub to : (i : ℕ) → i < n → Good i → Good' i
  pub from : (i : ℕ) → i < n → Good' i → Good i

module _ {Good Good' : ℕ → Type 0} {n m : ℕ} (counts : n ≡ m) (same : SameBelow Good Good' n) where
  pub every_map : EveryClass Good n → EveryClass Good' m
  every_map every i l = let class : i < n = omega arith in same.to i class (every i class)

  pub lowest_map : (i : ℕ) → LowestFault Good n i → LowestFault Good' m i
  lowest_map i low =
      record {
        class = rw (sym counts) low.class;
        fault = λ good. low.fault (same.from i low.class good);
        lowest = λ j l. same.to j (omega (arith, low.class)) (low.lowest j l);
      }

pub whole_map : {Good Good' : Type 0} → (Good' → Good) → (i : ℕ) → BrokenWhole Good i → BrokenWhole Good' i
whole_map from i b = record { zero = b.zero; fault = λ good. b.fault (from good) }
