-- Who is whose child, and which classes are leaves: the tests of specs/ as facts.
-- Assumes nothing.
use Prim.Native.Nat.{ℕ, zero, suc, ◌<◌}
use mathlib.Core.Bool.{Bool, true, false, not, ◌&&◌, ◌||◌, true≢false, and-eq-true_iff}
use mathlib.Core.Path.{◌≡◌, refl, sym, ap, ◌∙◌}
use mathlib.Core.Logic.{◌⊎◌, inl, inr, ⊎_elim}
use native.Mathlib.Nat.{not-suc-le-zero, eq-or-lt_of_le, le_of_suc-le-suc}
use native.Mathlib.Omega.{arith}
use lib.Dec.{ltb, eqb}
use borrow.Author.Tests.{ltb-true, eqb-true, lt-ltb, eq-eqb}
use Rattle.tree.specs.Trees.{parent_of, is_child, child_below, has_child, is_leaf}
use Rattle.tree.specs.declared.Tree.{Tree}

-- what `is_child` tests
pub record ChildOf (t : Tree) (p i : ℕ) : Type 0 where
  pub above : 0 < i
  pub class : i < t.count
  pub parent : parent_of t i ≡ p

left_or : (a b : Bool) → a ≡ true → a || b ≡ true
left_or true b e = refl
left_or false b e = absurd (true≢false (sym e))

right_or : (a b : Bool) → b ≡ true → a || b ≡ true
right_or true b e = refl
right_or false b e = e

either : (a b : Bool) → a || b ≡ true → (a ≡ true) ⊎ (b ≡ true)
either true b e = inl refl
either false b e = inr e

pub is_false : (b : Bool) → (b ≡ true → ⊥) → b ≡ false
is_false true n = absurd (n refl)
is_false false n = refl

never : (b : Bool) → b ≡ true → b ≡ false → ⊥
never b yes-b no-b = true≢false (sym yes-b ∙ no-b)

module _ (t : Tree) (p : ℕ) where
  pub child_of : (i : ℕ) → is_child t p i ≡ true → ChildOf t p i
  unfolding is_child
  child_of i e =
      let outer = (and-eq-true_iff (ltb 0 i) (ltb i t.count && eqb (parent_of t i) p)).0 e in
      let inner = (and-eq-true_iff (ltb i t.count) (eqb (parent_of t i) p)).0 outer.1 in
      record { above = ltb-true 0 i outer.0; class = ltb-true i t.count inner.0; parent = eqb-true (parent_of t i) p inner.1 }

  pub is_child_lem : (i : ℕ) → ChildOf t p i → is_child t p i ≡ true
  unfolding is_child
  is_child_lem i h = rw (lt-ltb 0 i h.above, lt-ltb i t.count h.class, eq-eqb (parent_of t i) p h.parent)

  pub no_child : (i : ℕ) → (ChildOf t p i → ⊥) → is_child t p i ≡ false
  no_child i n = is_false (is_child t p i) (λ e. n (child_of i e))

  below_child : (n i : ℕ) → i < n → is_child t p i ≡ true → child_below t p n ≡ true
  unfolding child_below
  below_child zero i l e = absurd (not-suc-le-zero l)
  below_child (suc n) i l e =
      ⊎_elim
      (λ q. left_or (is_child t p n) (child_below t p n) (rw (← q) e))
      (λ l'. right_or (is_child t p n) (child_below t p n) (below_child n i l' e))
      (eq-or-lt_of_le (le_of_suc-le-suc l))

  below_no_child : (n : ℕ) → ((i : ℕ) → i < n → is_child t p i ≡ false) → child_below t p n ≡ false
  unfolding child_below
  below_no_child zero none = refl
  below_no_child (suc n) none = rw (none n (omega arith)) (below_no_child n (λ i l. none i (omega arith)))

  below_some : (n : ℕ) → child_below t p n ≡ true → (i : ℕ) × (is_child t p i ≡ true)
  unfolding child_below
  below_some zero e = absurd (true≢false (sym e))
  below_some (suc n) e = ⊎_elim (λ h. (n, h)) (λ h. below_some n h) (either (is_child t p n) (child_below t p n) e)

  -- a class with a child has one, and a class with none has none
  pub child_has : (i : ℕ) → ChildOf t p i → has_child t p ≡ true
  unfolding has_child
  child_has i h = below_child t.count i h.class (is_child_lem i h)

  pub has_child_lem : has_child t p ≡ true → (i : ℕ) × ChildOf t p i
  unfolding has_child
  has_child_lem e = let found = below_some t.count e in (found.0, child_of found.0 found.1)

  pub has_none : ((i : ℕ) → i < t.count → is_child t p i ≡ false) → has_child t p ≡ false
  unfolding has_child
  has_none none = below_no_child t.count none

  -- a leaf is a class, and is nobody's parent
  pub leaf_class : is_leaf t p ≡ true → p < t.count
  unfolding is_leaf
  leaf_class e = ltb-true p t.count ((and-eq-true_iff (ltb p t.count) (not (has_child t p))).0 e).0

  pub leaf_childless : is_leaf t p ≡ true → has_child t p ≡ false
  unfolding is_leaf
  leaf_childless e = is_false (has_child t p) (λ h. never (not (has_child t p)) ((and-eq-true_iff (ltb p t.count) (not (has_child t p))).0 e).1 (ap not h))

  pub leaf_no_child : is_leaf t p ≡ true → (i : ℕ) → ChildOf t p i → ⊥
  leaf_no_child e i h = never (has_child t p) (child_has i h) (leaf_childless e)

  pub childless_leaf : p < t.count → has_child t p ≡ false → is_leaf t p ≡ true
  unfolding is_leaf
  childless_leaf l e = rw (lt-ltb p t.count l, e)
