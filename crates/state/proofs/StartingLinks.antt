-- The links of a started table: from the last class down, each class goes before its parent's children so far.
-- Assumes nothing.
use Prim.Native.Nat.{ℕ, suc, ◌-◌, ◌≤◌, ◌<◌}
use mathlib.Core.Path.{◌≡◌, refl, ap, sym, subst, ◌∙◌}
use mathlib.Core.Bool.{true, false, cond}
use mathlib.Core.List.{List}
use mathlib.Core.Logic.{⊎_elim}
use native.Mathlib.Omega.{arith}
use lib.ListN.{length}
use Rattle.tree.specs.declared.Tree.{Tree}
use Rattle.tree.specs.Trees.{parent_of, is_child}
use Rattle.rules.proofs.Tests.{equal_or_not, is_false, cond_yes, cond_no}
use Rattle.rules.proofs.Trees.{child_some, child_parent, a_child}
use Rattle.state.specs.Table.{at, with, CLASSES, COLUMNS, CELLS}
use Rattle.state.specs.Columns.{PARENT, CHILD, SIBLING}
use Rattle.state.specs.State.{child_from, next_sibling}
use Rattle.state.specs.Planting.{Linkable, Linked}
use Rattle.state.proofs.Cells.{length_with, at_with_same, at_with_class, at_with_column}

-- the classes from i on are linked
pub record Linking (m m' : List ℕ) (tree : Tree) (i : ℕ) : Type 0 where
  pub size : length m' ≡ CELLS
  pub child : (p : ℕ) → p < tree.count → at m' p CHILD ≡ child_from tree p i (tree.count - i)
  pub sibling : (k : ℕ) → i ≤ k → k < tree.count → at m' k SIBLING ≡ next_sibling tree k
  pub others : (k f : ℕ) → k < CLASSES → f < COLUMNS → (f ≡ CHILD → ⊥) → (f ≡ SIBLING → ⊥) → at m' k f ≡ at m k f
  pub blank : (k f : ℕ) → tree.count ≤ k → k < CLASSES → f < COLUMNS → at m' k f ≡ at m k f

-- the lowest child from j on is j itself or the lowest after it
child_step : (tree : Tree) (p j : ℕ) → j < tree.count
    → child_from tree p j (tree.count - j) ≡ cond (is_child tree p j) j (child_from tree p (suc j) (tree.count - suc j))
unfolding child_from
child_step tree p j l = let more : tree.count - j ≡ suc (tree.count - suc j) = omega arith in ap (child_from tree p j) more

child_here : (tree : Tree) (p j : ℕ) → j < tree.count → is_child tree p j ≡ true → child_from tree p j (tree.count - j) ≡ j
child_here tree p j l c = child_step tree p j l ∙ cond_yes _ _ c

child_after : (tree : Tree) (p j : ℕ) → j < tree.count → is_child tree p j ≡ false
    → child_from tree p j (tree.count - j) ≡ child_from tree p (suc j) (tree.count - suc j)
child_after tree p j l c = child_step tree p j l ∙ cond_no _ _ c

pub link_none : {m : List ℕ} {tree : Tree} → Linkable m tree → Linking m m tree tree.count
unfolding child_from
link_none {m} {tree} s =
    record {
      size = s.size;
      child =
          λ p l.
          let none : tree.count - tree.count ≡ 0 = omega arith in
          s.children p (omega (arith, s.few)) ∙ sym (ap (child_from tree p tree.count) none);
      sibling = λ k a b. absurd (omega arith);
      others = λ k f a b d e. refl;
      blank = λ k f a b d. refl;
    }

-- one class more
module _ {m m₁ : List ℕ} {tree : Tree} (s : Linkable m tree) (j : ℕ) (above : 0 < j) (class : j < tree.count) (g : Linking m m₁ tree (suc j)) where
  pub parent_cell : at m₁ j PARENT ≡ parent_of tree j
  parent_cell = g.others j PARENT (omega (arith, s.few)) (omega arith) (λ e. omega arith) (λ e. omega arith) ∙ s.parents j class

  link_more : Linking m (with (with m₁ j SIBLING (at m₁ (parent_of tree j) CHILD)) (parent_of tree j) CHILD j) tree j
  link_more =
      let p = parent_of tree j in
      let lower = s.lower j above class in
      let few = s.few in
      let small : j < CLASSES = omega arith in
      let room : p < CLASSES = omega arith in
      let next = at m₁ p CHILD in
      let m₂ = with m₁ j SIBLING next in
      let size₂ : length m₂ ≡ CELLS = length_with m₁ j SIBLING next ∙ g.size in
      record {
        size = length_with m₂ p CHILD j ∙ size₂;
        child =
            λ q l.
            ⊎_elim
            (λ (e : q ≡ p).
            subst (λ (x : ℕ). at (with m₂ p CHILD j) x CHILD ≡ child_from tree x j (tree.count - j)) (sym e)
            (at_with_same m₂ p CHILD j size₂ room (omega arith) ∙ sym (child_here tree p j class (a_child tree j above class))))
            (λ (n : q ≡ p → ⊥).
            at_with_class m₂ p CHILD j q CHILD room (omega arith) n
            ∙ at_with_column m₁ j SIBLING next q CHILD small (omega arith) (λ e. omega arith)
            ∙ g.child q l
            ∙ sym (child_after tree q j class (is_false (is_child tree q j) (λ c. n (sym (child_parent tree q j c))))))
            (equal_or_not q p);
        sibling =
            λ k a l.
            at_with_column m₂ p CHILD j k SIBLING room (omega arith) (λ e. omega arith)
            ∙ ⊎_elim
            (λ (e : k ≡ j).
            subst (λ (x : ℕ). at m₂ x SIBLING ≡ next_sibling tree x) (sym e)
            (at_with_same m₁ j SIBLING next g.size small (omega arith) ∙ g.child p (omega arith)))
            (λ (n : k ≡ j → ⊥). at_with_class m₁ j SIBLING next k SIBLING small (omega arith) n ∙ g.sibling k (omega (arith, a, n)) l)
            (equal_or_not k j);
        others =
            λ k f a b d e.
            at_with_column m₂ p CHILD j k f room a d ∙ at_with_column m₁ j SIBLING next k f small a e ∙ g.others k f a b d e;
        blank =
            λ k f a b d.
            at_with_class m₂ p CHILD j k f room b (λ e. omega arith)
            ∙ at_with_class m₁ j SIBLING next k f small b (λ e. omega arith)
            ∙ g.blank k f a b d;
      }

  -- as the code stores it
  pub link_on : {p next : ℕ} {m₂ m₃ : List ℕ} → p ≡ at m₁ j PARENT → next ≡ at m₁ p CHILD → m₂ ≡ with m₁ j SIBLING next → m₃ ≡ with m₂ p CHILD j
      → Linking m m₃ tree j
  link_on {p} {next} {m₂} {m₃} e n a b =
      let parent : p ≡ parent_of tree j = e ∙ parent_cell in
      let made : m₃ ≡ with (with m₁ j SIBLING (at m₁ (parent_of tree j) CHILD)) (parent_of tree j) CHILD j =
      b
      ∙ ap (λ (x : List ℕ). with x p CHILD j) (a ∙ ap (with m₁ j SIBLING) n)
      ∙ ap (λ (x : ℕ). with (with m₁ j SIBLING (at m₁ x CHILD)) x CHILD j) parent
      in
      subst (λ (x : List ℕ). Linking m x tree j) (sym made) link_more

-- the root at last: nobody's child, and its own parent
pub link_done : {m m₁ m₂ : List ℕ} {tree : Tree} {first : ℕ} → Linkable m tree → Linking m m₁ tree 1 → first ≡ at m₁ 0 CHILD → m₂ ≡ with m₁ 0 SIBLING first
    → Linked m m₂ tree
link_done {m} {m₁} {m₂} {tree} {first} s g f e =
    let few = s.few in
    let some = s.some in
    let whole : tree.count - 0 ≡ tree.count = omega arith in
    let no-root : (p : ℕ) → is_child tree p 0 ≡ false = λ p. is_false (is_child tree p 0) (λ c. omega (arith, child_some tree p 0 c)) in
    subst (λ (x : List ℕ). Linked m x tree) (sym e)
    (record {
      size = length_with m₁ 0 SIBLING first ∙ g.size;
      child =
          λ k l.
          at_with_column m₁ 0 SIBLING first k CHILD (omega arith) (omega arith) (λ x. omega arith)
          ∙ g.child k l
          ∙ sym (child_after tree k 0 (omega arith) (no-root k))
          ∙ ap (child_from tree k 0) whole;
      sibling =
          λ k l.
          ⊎_elim
          (λ (z : k ≡ 0).
          subst (λ (x : ℕ). at (with m₁ 0 SIBLING first) x SIBLING ≡ next_sibling tree x) (sym z)
          (at_with_same m₁ 0 SIBLING first g.size (omega arith) (omega arith)
          ∙ f
          ∙ g.child 0 (omega arith)
          ∙ ap (λ (p : ℕ). child_from tree p 1 (tree.count - 1)) (sym s.root)))
          (λ (n : k ≡ 0 → ⊥).
          at_with_class m₁ 0 SIBLING first k SIBLING (omega arith) (omega arith) n ∙ g.sibling k (omega (arith, n)) l)
          (equal_or_not k 0);
      others = λ k f a b d x. at_with_column m₁ 0 SIBLING first k f (omega arith) a x ∙ g.others k f a b d x;
      blank = λ k f a b d. at_with_class m₁ 0 SIBLING first k f (omega arith) b (λ x. omega arith) ∙ g.blank k f a b d;
    })
