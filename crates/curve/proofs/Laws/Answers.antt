-- What a test's answer tells, that a least number is one number, and the least number of two things.
-- Assumes nothing.
use Prim.Native.Nat.{ℕ, ◌≤◌, max}
use mathlib.Core.Path.{◌≡◌, refl, sym, subst}
use mathlib.Core.Bool.{Bool, true, false, not}
use native.Mathlib.Nat.{le_antisymm}
use native.Mathlib.Omega.{arith}
use lib.Dec.{leb}
use borrow.Author.Tests.{le-leb, leb-true, leb-false}
use Rattle.curve.specs.Answers.{Least, Exactly}

-- the answer was true, or false
pub told_yes : (b : Bool) {P : Type 0} → Exactly b P → b ≡ true → P
told_yes b {P} h e = subst (λ x. Exactly x P) e h

pub told_no : (b : Bool) {P : Type 0} → Exactly b P → b ≡ false → P → ⊥
told_no b {P} h e = subst (λ x. Exactly x P) e h

-- the same where the code tests the negated answer
pub untold_no : (b : Bool) {P : Type 0} → Exactly b P → not b ≡ true → P → ⊥
untold_no true h e = let z : ◌≡◌ {A = ℕ} 0 1 = cc in absurd (omega arith)
untold_no false h e = h

pub untold_yes : (b : Bool) {P : Type 0} → Exactly b P → not b ≡ false → P
untold_yes true h e = h
untold_yes false h e = let z : ◌≡◌ {A = ℕ} 0 1 = cc in absurd (omega arith)

-- an answer that says exactly whether P holds is one answer
pub exactly_one : (a b : Bool) (P : Type 0) → Exactly a P → Exactly b P → a ≡ b
exactly_one true true P h k = refl
exactly_one true false P h k = absurd (k h)
exactly_one false true P h k = absurd (h k)
exactly_one false false P h k = refl

-- it says the same of what holds just where P does
pub exactly_iff : (b : Bool) {P Q : Type 0} → (P → Q) → (Q → P) → Exactly b P → Exactly b Q
exactly_iff true f g h = f h
exactly_iff false f g h = λ q. h (g q)

-- a comparison that holds answers what holds
pub tells_yes : (a b : ℕ) {P : Type 0} → a ≤ b → P → Exactly (leb a b) P
tells_yes a b {P} h p = subst (λ t. Exactly t P) (sym (le-leb a b h)) p

-- a comparison's answer says exactly whether it holds
pub leb_exactly : (a : ℕ) {b x : ℕ} → b ≡ x → Exactly (leb a b) (a ≤ x)
leb_exactly a {b} {x} q = by (leb a b) refl
  where
    by : (t : Bool) → leb a b ≡ t → Exactly t (a ≤ x)
    by true e = omega (arith, leb-true a b e)
    by false e = λ h. omega (arith, leb-false a b e)

-- a least number is one number
pub least_one : {P : ℕ → Type 0} {t u : ℕ} → Least P t → Least P u → t ≡ u
least_one {t = t} {u = u} h k = le_antisymm (h.least u k.holds) (k.least t h.holds)

-- it is the least of what holds just where P does
pub least_iff : {P Q : ℕ → Type 0} {t : ℕ} → ((u : ℕ) → P u → Q u) → ((u : ℕ) → Q u → P u) → Least P t → Least Q t
least_iff {t = t} f g h = record { holds = f t h.holds; least = λ u q. h.least u (g u q) }

-- the least at which two things hold that, once they do, hold ever after: the later of the two
pub least_both : {P Q R : ℕ → Type 0} {a b : ℕ} → ((u v : ℕ) → u ≤ v → P u → P v) → ((u v : ℕ) → u ≤ v → Q u → Q v)
    → ((t : ℕ) → P t → Q t → R t) → ((t : ℕ) → R t → P t) → ((t : ℕ) → R t → Q t) → Least P a → Least Q b → Least R (max a b)
least_both {a = a} {b = b} on-first on-second both first second h k =
    record {
      holds = both (max a b) (on-first a (max a b) (omega arith) h.holds) (on-second b (max a b) (omega arith) k.holds);
      least = λ u r. omega (arith, h.least u (first u r), k.least u (second u r));
    }
