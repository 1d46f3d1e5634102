-- The chain of a class's children: from the first child, by the next sibling each time, it meets every child once, in increasing order.
-- Assumes nothing.
use Prim.Native.Nat.{ℕ, zero, suc, ◌+◌, ◌-◌, ◌≤◌, ◌<◌}
use mathlib.Core.Path.{◌≡◌, refl, sym, ◌∙◌, subst}
use mathlib.Core.Bool.{true, false}
use mathlib.Core.List.{List}
use mathlib.Core.Logic.{◌⊎◌, inl, inr, ⊎_elim}
use native.Mathlib.Omega.{arith}
use native.Mathlib.Nat.{le_antisymm}
use Rattle.curve.proofs.Laws.Order.{le_or_lt}
use Rattle.tree.specs.declared.Tree.{Tree}
use Rattle.tree.specs.Trees.{is_child, is_leaf, has_child}
use Rattle.tree.proofs.Children.{has_child_lem, is_child_lem, childless_leaf as no-child-leaf}
use Rattle.rules.proofs.Tests.{never, decided, is_true, is_false, by_cond}
use Rattle.rules.proofs.Trees.{child_class, child_some, child_parent, leaf_childless}
use Rattle.state.specs.Table.{at}
use Rattle.state.specs.Columns.{CHILD}
use Rattle.state.specs.State.{child_from, first_child, next_sibling, ShowsTree}

-- a class that is no leaf has a child
pub interior_child : (tree : Tree) (p : ℕ) → p < tree.count → is_leaf tree p ≡ false → (k : ℕ) × (is_child tree p k ≡ true)
interior_child tree p below inner =
    ⊎_elim
    (λ some. let (k, child) = has_child_lem tree p some in (k, is_child_lem tree p k child))
    (λ none. never (no-child-leaf tree p below none) inner)
    (decided (has_child tree p))

-- r is the lowest child of p from i on
pub record FoundChild (tree : Tree) (p i r : ℕ) : Type 0 where
  pub after : i ≤ r
  pub child : is_child tree p r ≡ true
  pub between : (k : ℕ) → i ≤ k → k < r → is_child tree p k ≡ false

-- p has no child from i on, and r is 0
pub record NoChild (tree : Tree) (p i r : ℕ) : Type 0 where
  pub zero : r ≡ 0
  pub none : (k : ℕ) → i ≤ k → is_child tree p k ≡ false

abbrev pub NextChild : Tree → (p i r : ℕ) → Type 0
NextChild tree p i r = FoundChild tree p i r ⊎ NoChild tree p i r

from_next : (Q : ℕ → Type 0) (i : ℕ) → Q i → ((k : ℕ) → suc i ≤ k → Q k) → (k : ℕ) → i ≤ k → Q k
from_next Q i this rest k l =
    ⊎_elim (λ (h : suc i ≤ k). rest k h) (λ (h : k < suc i). subst Q (le_antisymm l (omega arith)) this) (le_or_lt (suc i) k)

wider : (tree : Tree) (p i r : ℕ) → is_child tree p i ≡ false → NextChild tree p (suc i) r → NextChild tree p i r
wider tree p i r e (inl f) =
    inl
    (record {
      after = omega (arith, f.after);
      child = f.child;
      between = from_next (λ (k : ℕ). k < r → is_child tree p k ≡ false) i (λ h. e) f.between;
    })
wider tree p i r e (inr f) = inr (record { zero = f.zero; none = from_next (λ (k : ℕ). is_child tree p k ≡ false) i e f.none })

pub child_from_lem : (tree : Tree) (p i n : ℕ) → tree.count ≤ i + n → NextChild tree p i (child_from tree p i n)
unfolding child_from
child_from_lem tree p i zero e =
    inr (record { zero = refl; none = λ k l. is_false (is_child tree p k) (λ c. omega (arith, child_class tree p k c)) })
child_from_lem tree p i (suc n) e =
    by_cond (NextChild tree p i) (is_child tree p i)
    (λ c. inl (record { after = omega arith; child = c; between = λ k l h. absurd (omega arith) }))
    (λ c. wider tree p i (child_from tree p (suc i) n) c (child_from_lem tree p (suc i) n (omega arith)))

pub first_child_lem : (tree : Tree) (p : ℕ) → NextChild tree p 0 (first_child tree p)
first_child_lem tree p = child_from_lem tree p 0 tree.count (omega arith)

pub next_sibling_lem : (tree : Tree) (p k : ℕ) → is_child tree p k ≡ true → NextChild tree p (suc k) (next_sibling tree k)
next_sibling_lem tree p k c =
    subst (λ (q : ℕ). NextChild tree p (suc k) (child_from tree q (suc k) (tree.count - suc k))) (sym (child_parent tree p k c))
    (child_from_lem tree p (suc k) (tree.count - suc k) (omega arith))

-- what is found is a child, where it is not 0
pub next_found : {tree : Tree} {p i r : ℕ} → NextChild tree p i r → (r ≡ 0 → ⊥) → FoundChild tree p i r
next_found (inl f) some = f
next_found (inr f) some = absurd (some f.zero)

pub next_none : {tree : Tree} {p i r : ℕ} → NextChild tree p i r → r ≡ 0 → NoChild tree p i r
next_none {tree} {p} {i} {r} (inl f) e = absurd (omega (arith, child_some tree p r f.child))
next_none (inr f) e = f

-- a class whose first child is 0 is a leaf, and no other is
childless_leaf : (tree : Tree) (i : ℕ) → i < tree.count → first_child tree i ≡ 0 → is_leaf tree i ≡ true
childless_leaf tree i below e =
    is_true (is_leaf tree i)
    (λ inner. let (k, c) = interior_child tree i below inner in never c ((next_none (first_child_lem tree i) e).none k (omega arith)))

some_child_interior : (tree : Tree) (i : ℕ) → (first_child tree i ≡ 0 → ⊥) → is_leaf tree i ≡ false
some_child_interior tree i some =
    is_false (is_leaf tree i)
    (λ leaf. never (next_found (first_child_lem tree i) some).child (leaf_childless tree i (first_child tree i) leaf))

-- so the column of a class's first child tells which it is
module _ {m : List ℕ} {tree : Tree} {i : ℕ} (shows : ShowsTree m tree i) (below : i < tree.count) where
  pub cell_leaf : at m i CHILD ≡ 0 → is_leaf tree i ≡ true
  cell_leaf e = childless_leaf tree i below (sym shows.child ∙ e)

  pub cell_interior : (at m i CHILD ≡ 0 → ⊥) → is_leaf tree i ≡ false
  cell_interior some = some_child_interior tree i (λ e. some (shows.child ∙ e))
