-- Freshly filled arrays show the history of no calls: every definition is 0 there but the tree's own numbers, the stamp and the count.
-- Assumes nothing.
use Prim.Native.Nat.{ℕ, ◌≤◌, ◌<◌}
use mathlib.Core.Path.{◌≡◌, refl, ap, sym, subst, ◌∙◌}
use mathlib.Core.Bool.{false, cond, ◌&&◌}
use mathlib.Core.List.{List, []}
use mathlib.Core.Logic.{⊎_elim}
use native.Mathlib.Omega.{arith}
use Rattle.curve.specs.declared.Piece.{Piece}
use Rattle.curve.specs.declared.Kept.{Kept}
use Rattle.curve.proofs.Laws.Kept.{lowest_none, kept_none}
use Rattle.curve.proofs.Laws.Order.{le_or_lt}
use Rattle.tree.specs.declared.Tree.{Tree}
use Rattle.tree.specs.Rules.{RightTree}
use Rattle.tree.specs.Trees.{class_at, share_of, curve_of, is_leaf, is_child, empty_tree}
use Rattle.tree.proofs.Right.{root, parent_lower}
use Rattle.rules.specs.Limits.{wheel}
use Rattle.rules.specs.Clock.{clock}
use Rattle.rules.specs.Queues.{queue, waits, next_number, head_number, accepted_in}
use Rattle.rules.specs.Leaves.{sent_real_time_in, pieces}
use Rattle.rules.specs.Classes.{is_within, sent_in, active}
use Rattle.rules.specs.Fair.{mark, fair_pieces, virtual_time}
use Rattle.rules.specs.Choice.{has_curve}
use Rattle.rules.proofs.Tests.{never, is_false, and_right, by_cond}
use Rattle.rules.proofs.Over.{none_any}
use Rattle.rules.proofs.Answers.{first_kept}
use Rattle.state.specs.Columns.{leaf_from}
use Rattle.state.specs.Table.{at, header_at, with_header, CLASSES, COLUMNS, CELLS, PLACES}
use Rattle.state.specs.Columns as col
use Rattle.state.specs.State.{kept_for, no_kept, fair_kept, activity, ShowsHeader, ShowsTree, ShowsLeaf, ShowsFair, ShowsSlots, Shows}
use Rattle.state.specs.Planting.{AllZero, Headed, planted_cell, PlantedBelow, OnlyHeader, Linkable, Linked}
use Rattle.state.proofs.Cells.{length_with, at_with_same, at_with_class, at_with_column}
use Rattle.state.proofs.Resting.{none_counted}
use Rattle.state.proofs.Starting.{planted_none}

zero_cell : {m : List ℕ} → AllZero m CELLS → (k f : ℕ) → at m k f ≡ 0
unfolding at
zero_cell z k f = z.zero _

pub stamped : {z m : List ℕ} {stamp : ℕ} → AllZero z CELLS → m ≡ with_header z col.STAMP stamp → Headed m stamp 0
stamped {z} {m} {stamp} a e =
    let other : (k : ℕ) → k < CLASSES → (k ≡ col.STAMP → ⊥) → header_at (with_header z col.STAMP stamp) k ≡ 0 =
    λ k l n. at_with_class z col.STAMP col.HEADER stamp k col.HEADER (omega arith) l n ∙ zero_cell a k col.HEADER
    in
    subst (λ (x : List ℕ). Headed x stamp 0) (sym e)
    (record {
      size = length_with z col.STAMP col.HEADER stamp ∙ a.size;
      clock = other col.CLOCK (omega arith) (λ x. omega arith);
      stamp = at_with_same z col.STAMP col.HEADER stamp a.size (omega arith) (omega arith);
      accepted = other col.ACCEPTED (omega arith) (λ x. omega arith);
      count = other col.COUNT (omega arith) (λ x. omega arith);
      rest = λ k h l. other k l (λ x. omega arith);
      rows = λ k f l h b. at_with_column z col.STAMP col.HEADER stamp k f (omega arith) l (λ x. omega arith) ∙ zero_cell a k f;
    })

pub counted : {m m' : List ℕ} {stamp count : ℕ} → Headed m stamp 0 → m' ≡ with_header m col.COUNT count → Headed m' stamp count
counted {m} {m'} {stamp} {count} a e =
    let other : (k x : ℕ) → k < CLASSES → (k ≡ col.COUNT → ⊥) → header_at m k ≡ x → header_at (with_header m col.COUNT count) k ≡ x =
    λ k x l n h. at_with_class m col.COUNT col.HEADER count k col.HEADER (omega arith) l n ∙ h
    in
    subst (λ (x : List ℕ). Headed x stamp count) (sym e)
    (record {
      size = length_with m col.COUNT col.HEADER count ∙ a.size;
      clock = other col.CLOCK 0 (omega arith) (λ x. omega arith) a.clock;
      stamp = other col.STAMP stamp (omega arith) (λ x. omega arith) a.stamp;
      accepted = other col.ACCEPTED 0 (omega arith) (λ x. omega arith) a.accepted;
      count = at_with_same m col.COUNT col.HEADER count a.size (omega arith) (omega arith);
      rest = λ k h l. other k 0 l (λ x. omega arith) (a.rest k h l);
      rows = λ k f l h b. at_with_column m col.COUNT col.HEADER count k f (omega arith) l (λ x. omega arith) ∙ a.rows k f l h b;
    })

pub headed_only : {m : List ℕ} {stamp count : ℕ} → Headed m stamp count → OnlyHeader m
headed_only a = record { size = a.size; rows = a.rows }

-- the definitions at no calls

nothing_kept : (tree : Tree) (i : ℕ) → kept_for tree [] i ≡ no_kept
unfolding kept_for pieces
nothing_kept tree i = by_cond (λ (k : Kept). k ≡ no_kept) (has_curve (curve_of tree i)) (λ e. kept_none (curve_of tree i)) (λ e. refl)

none_waits : (i : ℕ) → waits [] i ≡ false
unfolding queue
none_waits i = refl

none_active : (tree : Tree) (i : ℕ) → active tree [] i ≡ false
unfolding active
none_active tree i =
    none_any tree.count (λ j. is_within tree i j && waits [] j)
    (λ j l. is_false (is_within tree i j && waits [] j) (λ e. never (and_right (is_within tree i j) (waits [] j) e) (none_waits j)))

activity_none : (tree : Tree) (i : ℕ) → activity tree [] i ≡ 0
unfolding activity
activity_none tree i =
    by_cond (λ (x : ℕ). x ≡ 0) (is_leaf tree i) (λ e. ap (λ b. cond b 1 0) (none_waits i))
    (λ e.
    none_counted tree.count (λ k. is_child tree i k && active tree [] k)
    (λ k l.
    is_false (is_child tree i k && active tree [] k) (λ x. never (and_right (is_child tree i k) (active tree [] k) x) (none_active tree k))))

-- what a state shows whatever its tree: the header and the slots

header_shown : {m m' : List ℕ} {tree : Tree} {stamp : ℕ} → stamp < wheel → Headed m stamp tree.count
    → ((k : ℕ) → k < CLASSES → header_at m' k ≡ header_at m k) → ShowsHeader m' (record { tree = tree; first = stamp; calls = [] })
unfolding clock accepted_in
header_shown {stamp = stamp} small a same =
    record {
      clock = same col.CLOCK (omega arith) ∙ a.clock;
      stamp = same col.STAMP (omega arith) ∙ a.stamp ∙ sym (first_kept stamp small);
      accepted = same col.ACCEPTED (omega arith) ∙ a.accepted;
      count = same col.COUNT (omega arith) ∙ a.count;
      rest = λ i h b. same i b ∙ a.rest i h b;
    }

slots_shown : {l : List ℕ} → AllZero l PLACES → (i : ℕ) → ShowsSlots l [] i
unfolding queue
slots_shown free i = record { waiting = λ k h. absurd (omega arith); free = λ k h b. free.zero _ }

-- a right tree's classes can be linked
pub planted_linkable : {m m₁ : List ℕ} {tree : Tree} → RightTree tree → PlantedBelow m m₁ tree tree.count → Linkable m₁ tree
unfolding planted_cell
planted_linkable {m} {m₁} {tree} right p =
    let few = right.shape.count.below in
    let some = right.shape.count.above in
    let zero-column : (f : ℕ) → 1 ≤ f → f < COLUMNS → ((k : ℕ) → planted_cell (class_at tree k) f ≡ 0) → (k : ℕ) → k < CLASSES → at m₁ k f ≡ 0 =
    λ f a b z k l.
    ⊎_elim (λ (h : tree.count ≤ k). p.others k f h l a b) (λ (h : k < tree.count). p.rows k f h a b ∙ z k) (le_or_lt tree.count k)
    in
    record {
      size = p.size;
      few = few;
      some = omega arith;
      root = (root tree right.shape).parent;
      lower = parent_lower tree right.shape;
      parents = λ k l. p.rows k col.PARENT l (omega arith) (omega arith);
      children = zero-column col.CHILD (omega arith) (omega arith) (λ k. refl);
      siblings = zero-column col.SIBLING (omega arith) (omega arith) (λ k. refl);
    }

-- arrays in which a tree's classes are planted and linked, and nothing else stands but in the header
module _ {m m₁ m₂ : List ℕ} {tree : Tree} {stamp : ℕ} (few : tree.count ≤ CLASSES) (headed : Headed m stamp tree.count)
    (planted : PlantedBelow m m₁ tree tree.count) (linked : Linked m₁ m₂ tree) where
  cell : (f : ℕ) → 1 ≤ f → f < COLUMNS → (f ≡ col.CHILD → ⊥) → (f ≡ col.SIBLING → ⊥) → (i : ℕ) → i < tree.count → at m₂ i f ≡ planted_cell (class_at tree i) f
  cell f a b c s i h = linked.others i f (omega arith) b c s ∙ planted.rows i f h a b

  header_cell : (k : ℕ) → k < CLASSES → header_at m₂ k ≡ header_at m k
  header_cell k h = linked.others k col.HEADER h (omega arith) (λ e. omega arith) (λ e. omega arith) ∙ planted.header k h

  tree_shown : (i : ℕ) → i < tree.count → ShowsTree m₂ tree i
  unfolding planted_cell
  tree_shown i h =
      record {
        parent = cell col.PARENT (omega arith) (omega arith) (λ e. omega arith) (λ e. omega arith) i h;
        share = cell col.SHARE (omega arith) (omega arith) (λ e. omega arith) (λ e. omega arith) i h;
        kind = cell col.KIND (omega arith) (omega arith) (λ e. omega arith) (λ e. omega arith) i h;
        first = cell col.FIRST (omega arith) (omega arith) (λ e. omega arith) (λ e. omega arith) i h;
        second = cell col.SECOND (omega arith) (omega arith) (λ e. omega arith) (λ e. omega arith) i h;
        third = cell col.THIRD (omega arith) (omega arith) (λ e. omega arith) (λ e. omega arith) i h;
        child = linked.child i h;
        sibling = linked.sibling i h;
      }

  -- a column from that of NEXT_NUMBER on has 0, but for the eligible time
  later : (f : ℕ) → leaf_from ≤ f → f < COLUMNS → ((c : ℕ) → planted_cell (class_at tree c) f ≡ 0) → (i : ℕ) → i < tree.count → at m₂ i f ≡ 0
  later f a b z i h = cell f (omega arith) b (λ e. omega arith) (λ e. omega arith) i h ∙ z i

  leaf_shown : (i : ℕ) → i < tree.count → ShowsLeaf m₂ tree [] i
  unfolding planted_cell next_number head_number sent_real_time_in queue
  leaf_shown i h =
      let kept : (part : Kept → ℕ) → part no_kept ≡ part (kept_for tree [] i) = λ part. ap part (sym (nothing_kept tree i)) in
      record {
        next_number = later col.NEXT_NUMBER (omega arith) (omega arith) (λ k. refl) i h;
        head_number = later col.HEAD_NUMBER (omega arith) (omega arith) (λ k. refl) i h;
        sent_real_time = later col.SENT_REAL_TIME (omega arith) (omega arith) (λ k. refl) i h;
        steep_start = later col.STEEP_START (omega arith) (omega arith) (λ k. refl) i h ∙ kept (λ k. k.steep.start);
        steep_sent = later col.STEEP_SENT (omega arith) (omega arith) (λ k. refl) i h ∙ kept (λ k. k.steep.sent);
        flat_start = later col.FLAT_START (omega arith) (omega arith) (λ k. refl) i h ∙ kept (λ k. k.flat.start);
        flat_sent = later col.FLAT_SENT (omega arith) (omega arith) (λ k. refl) i h ∙ kept (λ k. k.flat.sent);
        eligible = λ e. never e refl;
        deadline = λ e. never e refl;
        never = λ e. cell col.ELIGIBLE (omega arith) (omega arith) (λ x. omega arith) (λ x. omega arith) i h;
        no_deadline = λ e. later col.DEADLINE (omega arith) (omega arith) (λ k. refl) i h;
      }

  fair_shown : (i : ℕ) → i < tree.count → ShowsFair m₂ tree [] i
  unfolding planted_cell sent_in fair_pieces virtual_time mark
  fair_shown i h =
      let kept : (part : Piece → ℕ) → part (record { start = 0; sent = 0 }) ≡ part (fair_kept tree [] i) = λ part. ap part (sym (lowest_none (share_of tree i))) in
      record {
        sent = later col.SENT (omega arith) (omega arith) (λ k. refl) i h;
        fair_start = later col.FAIR_START (omega arith) (omega arith) (λ k. refl) i h ∙ kept (λ p. p.start);
        fair_sent = later col.FAIR_SENT (omega arith) (omega arith) (λ k. refl) i h ∙ kept (λ p. p.sent);
        virtual = later col.VIRTUAL (omega arith) (omega arith) (λ k. refl) i h;
        mark = later col.MARK (omega arith) (omega arith) (λ k. refl) i h;
        active = later col.ACTIVE (omega arith) (omega arith) (λ k. refl) i h ∙ sym (activity_none tree i);
      }

  pub fresh_shows : {l : List ℕ} → stamp < wheel → AllZero l PLACES → Shows m₂ l (record { tree = tree; first = stamp; calls = [] })
  fresh_shows small free =
      record {
        size = linked.size;
        room = free.size;
        header = header_shown small headed header_cell;
        trees = tree_shown;
        leaves = leaf_shown;
        fairs = fair_shown;
        blank = λ i f n h b c. linked.blank i f n h c ∙ planted.others i f n h b c;
        slots = λ i h. slots_shown free i;
      }

-- and of the tree of no classes, which a refused start leaves: there is nothing to plant
pub fresh_none : {m l : List ℕ} {stamp : ℕ} → stamp < wheel → AllZero l PLACES → Headed m stamp 0 → Shows m l (record { tree = empty_tree; first = stamp; calls = [] })
unfolding empty_tree
fresh_none {m} small free headed =
    fresh_shows (omega arith) headed (planted_none m empty_tree (headed_only headed))
    (record {
      size = headed.size;
      child = λ k h. absurd (omega arith);
      sibling = λ k h. absurd (omega arith);
      others = λ k f l b c s. refl;
      blank = λ k f n l b. refl;
    })
    small free
