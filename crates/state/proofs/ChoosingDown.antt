-- The descent of the fair rule: from an active class it comes to a leaf within the depth that a right tree allows.
-- Assumes nothing.
use Prim.Native.Nat.{ℕ, suc, ◌-◌, ◌≤◌, ◌<◌}
use mathlib.Core.Path.{◌≡◌, ◌∙◌, ap}
use mathlib.Core.Bool.{true}
use mathlib.Core.List.{List}
use mathlib.Core.Logic.{⊎_elim}
use native.Mathlib.Omega.{arith}
use Rattle.curve.proofs.Laws.Order.{le_or_lt}
use Rattle.tree.specs.declared.Tree.{Tree}
use Rattle.tree.specs.Trees.{deepest, is_child, is_leaf, depth}
use Rattle.tree.specs.Rules.{RightTree}
use Rattle.tree.proofs.Depths.{lower_parent, depth_up}
use Rattle.rules.specs.Calls.{Call}
use Rattle.rules.specs.Queues.{waits}
use Rattle.rules.specs.Choice.{NothingWaits}
use Rattle.rules.specs.Lawful.{Grown, right, none}
use Rattle.rules.proofs.Tests.{never, is_true, is_false}
use Rattle.rules.proofs.Trees.{none_count, leaf_class, child_class, child_some, child_parent, within_top}
use Rattle.rules.proofs.Queues.{waits_leaf}
use Rattle.rules.proofs.Active.{active_of}
use Rattle.state.specs.Table.{at}
use Rattle.state.specs.Columns.{CHILD, ACTIVE}
use Rattle.state.specs.StepsChoosing.{Told, Stepping, Lightest, Descending}
use Rattle.state.proofs.Chain.{interior_child, cell_leaf, cell_interior}
use Rattle.state.proofs.Choosing.{cell_passive, cell_active}

pub right_tree : (tree : Tree) → Grown tree → (i : ℕ) → i < tree.count → RightTree tree
right_tree tree (right r) i below = r
right_tree tree (none e) i below = absurd (omega (arith, none_count e))

-- a child lies one deeper than its parent, and nothing lies deeper than 8
child_depth : (tree : Tree) → Grown tree → (p k : ℕ) → is_child tree p k ≡ true → (depth tree k ≡ suc (depth tree p)) × (depth tree k ≤ deepest)
child_depth tree grown p k child =
    let below = child_class tree p k child in
    let r = right_tree tree grown k below in (
      depth_up tree tree.count (lower_parent tree tree.count r.shape.bodies) k (child_some tree p k child) below
          ∙ ap (λ (x : ℕ). suc (depth tree x)) (child_parent tree p k child),
      r.shape.depths k below,
    )

module _ {m : List ℕ} {tree : Tree} {cs : List Call} {i steps : ℕ} (d : Descending m tree cs i steps) where
  pub deep_leaf : steps ≡ 0 → is_leaf tree i ≡ true
  deep_leaf e =
      is_true (is_leaf tree i)
      (λ inner.
      let (k, child) = interior_child tree i d.class inner in
      let (one, most) = child_depth tree d.told.grown i k child in
      omega (arith, d.enough))

  pub childless : at m i CHILD ≡ 0 → is_leaf tree i ≡ true
  childless e = cell_leaf (d.told.trees i d.class) d.class e

  pub steps_down : (at m i CHILD ≡ 0 → ⊥) → Stepping m tree cs i
  steps_down some =
      record {
        told = d.told;
        class = d.class;
        inner = cell_interior (d.told.trees i d.class) d.class some;
        is_active = d.is_active;
      }

  pub descends_on : (k : ℕ) → (steps ≡ 0 → ⊥) → Lightest tree cs i k → Descending m tree cs k (steps - 1)
  descends_on k some first =
      let child = first.meant.child in
      let (one, most) = child_depth tree d.told.grown i k child in
      record {
        told = d.told;
        class = child_class tree i k child;
        is_active = first.meant.is_active;
        enough = omega (arith, d.enough);
      }

module _ {m : List ℕ} {tree : Tree} {cs : List Call} (told : Told m tree cs) where
  -- a table with an active root has one
  pub root_descends : (at m 0 ACTIVE ≡ 0 → ⊥) → Descending m tree cs 0 8
  root_descends busy =
      let class : 0 < tree.count =
      ⊎_elim (λ (h : tree.count ≤ 0). absurd (busy (told.blank 0 ACTIVE h (omega arith) (omega arith) (omega arith)))) (λ (h : 0 < tree.count). h)
      (le_or_lt tree.count 0)
      in
      record { told = told; class = class; is_active = cell_active told 0 class busy; enough = omega arith }

  pub root_passive : at m 0 ACTIVE ≡ 0 → NothingWaits cs
  root_passive idle j =
      is_false (waits cs j)
      (λ w.
      let below = leaf_class tree j (waits_leaf tree cs told.lawful j w) in
      never (active_of tree cs 0 j below (within_top tree told.grown j below) w) (cell_passive told 0 (omega (arith, below)) idle))
