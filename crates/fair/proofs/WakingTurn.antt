-- The steps upward of a class that turns active: from what its table shows before, to what it shows after.
-- Assumes nothing.
use Prim.Native.Nat.{ℕ, ◌+◌, ◌^◌, ◌≤◌, ◌<◌, max}
use native.Mathlib.Omega.{arith}
use native.Mathlib.Nat.{le_antisymm}
use mathlib.Core.Path.{◌≡◌, refl, sym, ◌∙◌, ap, ap₂, subst}
use mathlib.Core.Bool.{true, false, ◌&&◌}
use mathlib.Core.List.{List, ◌∷◌}
use mathlib.Core.Logic.{⊎_elim}
use lib.ListN.{length}
use Rattle.curve.specs.Curves.{RightRate}
use Rattle.curve.specs.declared.Piece.{Piece}
use Rattle.curve.specs.Keeping.{lower_of, lowest}
use Rattle.tree.specs.declared.Tree.{Tree}
use Rattle.tree.specs.Trees.{parent_of, share_of, is_child}
use Rattle.tree.proofs.Right.{parent_class, share_within}
use Rattle.rules.specs.Calls.{Call, came}
use Rattle.rules.specs.Classes.{is_within, sent_in, sent, active}
use Rattle.rules.specs.Fair.{virtual_time, mark_by_children, mark, fair_pieces, virtual_when_passive, virtual_time_of}
use Rattle.rules.specs.Lawful.{Grown, right}
use Rattle.rules.proofs.Tests.{never, decided, is_false, cond_yes, equal_or_not}
use Rattle.rules.proofs.Trees.{leaf_class, child_class, child_some, child_parent, a_child, parent_lower, within_cases, within_self, within_top, within_le, within_parent, within_leaf, within_one}
use Rattle.rules.proofs.Queues.{waits_came}
use Rattle.rules.proofs.Active.{leaf_active}
use Rattle.rules.proofs.Sent.{w_most}
use Rattle.rules.proofs.Fair.{mark_most, virtual_most}
use Rattle.state.specs.Table.{at, with, CLASSES, COLUMNS, CELLS}
use Rattle.state.specs.Columns.{PARENT, SHARE, SENT, FAIR_START, FAIR_SENT, VIRTUAL, MARK, ACTIVE, fair_from}
use Rattle.state.specs.State.{ShowsFair, activity, fair_kept}
use Rattle.fair.specs.Steps.{KeepsOthers, BeforeWaking, AfterWaking}
use Rattle.fair.specs.StepsWaking.{mark_in, kept_now, met_in, BeforeStart, FairStarted, ShowsChild, BeforeTurn, AfterTurn}
use Rattle.state.proofs.Cells.{length_with, at_with_same, at_with_class, at_with_column}
use Rattle.state.proofs.Resting.{count_within, activity_leaf, activity_interior, parent_interior, active_above}
use Rattle.fair.proofs.RestingSteps.{planted_still, some_of}
use Rattle.fair.proofs.RestingFair.{kept_start_most}
use Rattle.fair.proofs.WakingFair.{uncounted_passive, counted_active, within_line, mark_leaf, fair_unmoved, elsewhere_unmoved, pieces_unmoved, root_unmoved, mark_turned, kept_turned, virtual_turned, activity_turned, met_is}
use Rattle.fair.proofs.WakingCells.{counted, counted_size, counted_column, counted_row, counted_parent, counted_mark, counted_busy, counted_child, counted_start, counted_sent, counted_virtual, least_same}

-- equal cells show the same
fair_moved : {m m' : List ℕ} {tree : Tree} {cs : List Call} {k : ℕ} → ((f : ℕ) → f < COLUMNS → at m' k f ≡ at m k f) → ShowsFair m tree cs k → ShowsFair m' tree cs k
fair_moved same s =
    record {
      sent = same SENT (omega arith) ∙ s.sent;
      fair_start = same FAIR_START (omega arith) ∙ s.fair_start;
      fair_sent = same FAIR_SENT (omega arith) ∙ s.fair_sent;
      virtual = same VIRTUAL (omega arith) ∙ s.virtual;
      mark = same MARK (omega arith) ∙ s.mark;
      active = same ACTIVE (omega arith) ∙ s.active;
    }

child_moved : {m m' : List ℕ} {tree : Tree} {cs : List Call} {k : ℕ} → ((f : ℕ) → fair_from ≤ f → f < MARK → at m' k f ≡ at m k f) → ShowsChild m tree cs k
    → ShowsChild m' tree cs k
child_moved same s =
    record {
      sent = same SENT (omega arith) (omega arith) ∙ s.sent;
      fair_start = same FAIR_START (omega arith) (omega arith) ∙ s.fair_start;
      fair_sent = same FAIR_SENT (omega arith) (omega arith) ∙ s.fair_sent;
      virtual = same VIRTUAL (omega arith) (omega arith) ∙ s.virtual;
    }

child_of : {m : List ℕ} {tree : Tree} {cs : List Call} {k : ℕ} → ShowsFair m tree cs k → ShowsChild m tree cs k
child_of s = record { sent = s.sent; fair_start = s.fair_start; fair_sent = s.fair_sent; virtual = s.virtual }

fair_of : {m : List ℕ} {tree : Tree} {cs : List Call} {k : ℕ} → ShowsChild m tree cs k → at m k MARK ≡ mark tree cs k → at m k ACTIVE ≡ activity tree cs k
    → ShowsFair m tree cs k
fair_of s x y = record { sent = s.sent; fair_start = s.fair_start; fair_sent = s.fair_sent; virtual = s.virtual; mark = x; active = y }

-- a class whose fair pieces stay
child_stays : {m : List ℕ} {tree : Tree} {cs : List Call} {t j n k : ℕ} → fair_pieces tree (came t j n ∷ cs) k ≡ fair_pieces tree cs k → ShowsChild m tree cs k
    → ShowsChild m tree (came t j n ∷ cs) k
unfolding sent_in
child_stays {m} {tree} {cs} {t} {j} {n} {k} same s =
    record {
      sent = s.sent;
      fair_start = s.fair_start ∙ ap (λ (ps : List Piece). (lowest (share_of tree k) ps).start) (sym same);
      fair_sent = s.fair_sent ∙ ap (λ (ps : List Piece). (lowest (share_of tree k) ps).sent) (sym same);
      virtual = s.virtual ∙ ap (λ (ps : List Piece). virtual_time (share_of tree k) ps (sent tree cs k)) (sym same);
    }

alone_on : {m m' m'' : List ℕ} {tree : Tree} → KeepsOthers m m' tree → KeepsOthers m' m'' tree → KeepsOthers m m'' tree
alone_on x y =
    record {
      size = y.size;
      columns = λ k f l h. y.columns k f l h ∙ x.columns k f l h;
      rows = λ k f a l h. y.rows k f a l h ∙ x.rows k f a l h;
    }

-- the root has no parent
pub turned_root : {m : List ℕ} {tree : Tree} {cs : List Call} {j i : ℕ} → i ≡ 0 → BeforeTurn m tree cs j i → AfterTurn m m tree cs j i
turned_root {m} {tree} {cs} {j} {i} e b =
    let grown = right b.planted.right in
    record {
      alone = record { size = b.planted.size; columns = λ k f l h. refl; rows = λ k f a l h. refl };
      own = λ t n.
          child_stays
          (subst (λ (x : ℕ). fair_pieces tree (came t j n ∷ cs) x ≡ fair_pieces tree cs x) (sym e) (root_unmoved tree grown cs j b.leaf t n))
          b.own;
      mark = refl;
      active = refl;
      beneath = λ k f l h w ne. refl;
      others = λ t n k l out. never (subst (λ (x : ℕ). is_within tree x k ≡ true) (sym e) (within_top tree grown k l)) out;
    }

module _ {m : List ℕ} {tree : Tree} {cs : List Call} {j i : ℕ} (b : BeforeTurn m tree cs j i) where
  narrow : (k : ℕ) → k < tree.count → k < CLASSES
  narrow k l = omega (arith, b.planted.right.shape.count.below)

  grown : Grown tree
  grown = right b.planted.right

  pub turn_narrow : i < CLASSES
  turn_narrow = narrow i b.class

  pub turn_parent : (p : ℕ) → p ≡ at m i PARENT → p < CLASSES
  turn_parent p e =
      omega (arith, e, (b.planted.trees i b.class).parent, narrow (parent_of tree i) (parent_class tree b.planted.right.shape i b.class))

  module _ (some : i ≡ 0 → ⊥) (p : ℕ) (pe : p ≡ at m i PARENT) where
    is_parent : parent_of tree i ≡ p
    is_parent = sym (pe ∙ (b.planted.trees i b.class).parent)

    child : is_child tree p i ≡ true
    child = subst (λ (x : ℕ). is_child tree x i ≡ true) is_parent (a_child tree i (some_of some) b.class)

    pub turn_lower : p < i
    turn_lower = omega (arith, is_parent, parent_lower tree grown i (some_of some) b.class)

    parent_is_class : p < tree.count
    parent_is_class = omega (arith, turn_lower, b.class)

    apart : p ≡ i → ⊥
    apart e = omega (arith, turn_lower)

    in_parent : is_within tree p i ≡ true
    in_parent = within_parent tree grown p i i child b.class (within_self tree grown i)

    not_in : is_within tree i p ≡ false
    not_in = is_false (is_within tree i p) (λ w. omega (arith, within_le tree grown i p parent_is_class w, turn_lower))

    parent_shown : ShowsFair m tree cs p
    parent_shown = b.others p parent_is_class not_in

    sibling_shown : (k : ℕ) → is_child tree p k ≡ true → (k ≡ i → ⊥) → ShowsFair m tree cs k
    sibling_shown k c ne =
        b.others k (child_class tree p k c)
        (is_false (is_within tree i k)
        (λ w. ne (within_one tree grown p k i k c child (child_class tree p k c) (within_self tree grown k) w)))

    virtuals : (k : ℕ) → is_child tree p k ≡ true → at m k VIRTUAL ≡ virtual_time_of tree cs k
    virtuals k c =
        ⊎_elim
        (λ (e : k ≡ i). subst (λ (x : ℕ). at m x VIRTUAL ≡ virtual_time_of tree cs x) (sym e) b.own.virtual)
        (λ (ne : k ≡ i → ⊥). (sibling_shown k c ne).virtual) (equal_or_not k i)

    met : met_in m tree p i ≡ mark_by_children tree cs (λ k. virtual_time_of tree cs k) (λ k. virtual_when_passive tree cs k) i
    met =
        met_is tree grown cs j b.leaf b.planted.lawful p i child b.line b.passive m virtuals
        (λ k c ne. (sibling_shown k c ne).active)

    share_shown : at m i SHARE ≡ share_of tree i
    share_shown = (b.planted.trees i b.class).share

    rate : RightRate (share_of tree i)
    rate = share_within tree b.planted.right.shape i b.class

    pub turn_start : BeforeStart m tree p i
    turn_start =
        record {
          size = b.planted.size;
          family = record {
            right = b.planted.right;
            class = parent_is_class;
            trees = b.planted.trees;
            soon = λ k c.
                omega (
                  arith,
                  virtuals k c,
                  virtual_most tree grown cs b.planted.lawful p k c,
                  w_most tree grown cs b.planted.lawful p,
                );
          };
          child = child;
          raises = record {
            class = turn_narrow;
            share = subst RightRate (sym share_shown) rate;
            sent = omega (arith, b.own.sent, w_most tree grown cs b.planted.lawful i);
            start = omega (arith, b.own.fair_start, kept_start_most tree grown cs b.planted.lawful i (some_of some) b.class);
          };
          mark = omega (arith, parent_shown.mark, mark_most tree grown cs b.planted.lawful p, w_most tree grown cs b.planted.lawful p);
        }

    pub turn_busy : (busy : ℕ) → busy ≡ at m p ACTIVE → busy + 1 < 2 ^ 64
    turn_busy busy q =
        omega (
          arith,
          q,
          parent_shown.active,
          activity_interior tree cs p (parent_interior tree p i child),
          count_within tree.count (λ k. is_child tree p k && active tree cs k),
          b.planted.right.shape.count.below,
        )

    -- the class has started, and its parent's count is raised
    module _ (busy : ℕ) (q : busy ≡ at m p ACTIVE) (m₁ m₂ : List ℕ) (s : FairStarted m m₁ tree p i) (w : m₂ ≡ with m₁ p ACTIVE (busy + 1)) where
      abbrev kept : Piece
      kept = kept_now m tree p i

      whole : m₂ ≡ counted m p (mark_in m tree p i) i kept.start kept.sent s.time (busy + 1)
      whole = w ∙ ap (λ (x : List ℕ). with x p ACTIVE (busy + 1)) s.stored

      row : (k f : ℕ) → k < CLASSES → (k ≡ p → ⊥) → (k ≡ i → ⊥) → at m₂ k f ≡ at m k f
      row k f l x y =
          ap (λ (n : List ℕ). at n k f) whole
          ∙ counted_row m b.planted.size p (mark_in m tree p i) i kept.start kept.sent (turn_parent p pe) turn_narrow s.time (busy + 1) apart k f l x y

      column : (k f : ℕ) → k < CLASSES → f < fair_from → at m₂ k f ≡ at m k f
      column k f l h =
          ap (λ (n : List ℕ). at n k f) whole
          ∙ counted_column m b.planted.size p (mark_in m tree p i) i kept.start kept.sent (turn_parent p pe) turn_narrow s.time (busy + 1) apart k f l h

      of_parent : (f : ℕ) → (f ≡ MARK → ⊥) → (f ≡ ACTIVE → ⊥) → at m₂ p f ≡ at m p f
      of_parent f x y =
          ap (λ (n : List ℕ). at n p f) whole
          ∙ counted_parent m b.planted.size p (mark_in m tree p i) i kept.start kept.sent (turn_parent p pe) turn_narrow s.time (busy + 1) apart f x y

      of_child : (f : ℕ) → (f ≡ FAIR_START → ⊥) → (f ≡ FAIR_SENT → ⊥) → (f ≡ VIRTUAL → ⊥) → at m₂ i f ≡ at m i f
      of_child f x y z =
          ap (λ (n : List ℕ). at n i f) whole
          ∙ counted_child m b.planted.size p (mark_in m tree p i) i kept.start kept.sent (turn_parent p pe) turn_narrow s.time (busy + 1) apart f x y z

      size : length m₂ ≡ CELLS
      size =
          ap length whole
          ∙ counted_size m b.planted.size p (mark_in m tree p i) i kept.start kept.sent (turn_parent p pe) turn_narrow s.time (busy + 1) apart

      alone : KeepsOthers m m₂ tree
      alone =
          record {
            size = size;
            columns = column;
            rows = λ k f a l h. row k f l (λ e. omega (arith, parent_is_class)) (λ e. omega (arith, b.class));
          }

      mark_shown : (t n : ℕ) → at m₂ p MARK ≡ mark tree (came t j n ∷ cs) p
      mark_shown t n =
          ap (λ (x : List ℕ). at x p MARK) whole
          ∙ counted_mark m b.planted.size p (mark_in m tree p i) i kept.start kept.sent (turn_parent p pe) turn_narrow s.time (busy + 1) apart
          ∙ ap₂ max parent_shown.mark met
          ∙ sym (mark_turned tree grown cs j b.leaf b.planted.lawful p i child b.line b.passive t n)

      active_shown : (t n : ℕ) → at m₂ p ACTIVE ≡ activity tree (came t j n ∷ cs) p
      active_shown t n =
          ap (λ (x : List ℕ). at x p ACTIVE) whole
          ∙ counted_busy m b.planted.size p (mark_in m tree p i) i kept.start kept.sent (turn_parent p pe) turn_narrow s.time (busy + 1) apart
          ∙ ap (λ (x : ℕ). x + 1) (q ∙ parent_shown.active)
          ∙ sym (activity_turned tree grown cs j b.leaf b.planted.lawful p i child b.line b.passive t n)

      kept_shown : (t n : ℕ) → kept ≡ fair_kept tree (came t j n ∷ cs) i
      kept_shown t n =
          (λ z.
          lower_of (share_shown z) (record { start = b.own.fair_start z; sent = b.own.fair_sent z })
          (record { start = max (parent_shown.mark z) (met z); sent = b.own.sent z }))
          ∙ sym (kept_turned tree grown cs j b.leaf b.planted.lawful p i child b.line b.passive t n)

      child_shown : (t n : ℕ) → ShowsChild m₂ tree (came t j n ∷ cs) i
      unfolding sent_in
      child_shown t n =
          record {
            sent = of_child SENT (λ e. omega arith) (λ e. omega arith) (λ e. omega arith) ∙ b.own.sent;
            fair_start =
                ap (λ (x : List ℕ). at x i FAIR_START) whole
                ∙ counted_start m b.planted.size p (mark_in m tree p i) i kept.start kept.sent (turn_parent p pe) turn_narrow s.time (busy + 1) apart
                ∙ ap (λ (x : Piece). x.start) (kept_shown t n);
            fair_sent =
                ap (λ (x : List ℕ). at x i FAIR_SENT) whole
                ∙ counted_sent m b.planted.size p (mark_in m tree p i) i kept.start kept.sent (turn_parent p pe) turn_narrow s.time (busy + 1) apart
                ∙ ap (λ (x : Piece). x.sent) (kept_shown t n);
            virtual =
                ap (λ (x : List ℕ). at x i VIRTUAL) whole
                ∙ counted_virtual m b.planted.size p (mark_in m tree p i) i kept.start kept.sent (turn_parent p pe) turn_narrow s.time (busy + 1) apart
                ∙ virtual_turned tree grown cs j b.leaf b.planted.lawful p i child b.line b.passive rate t n s.time
                (least_same share_shown (kept_shown t n) b.own.sent s.is_time);
          }

      other_than : (k : ℕ) → is_within tree i k ≡ false → k ≡ i → ⊥
      other_than k out e = never (subst (λ (x : ℕ). is_within tree i x ≡ true) (sym e) (within_self tree grown i)) out

      not_parent : (k : ℕ) → is_within tree i k ≡ true → k ≡ p → ⊥
      not_parent k inside e = never (subst (λ (x : ℕ). is_within tree i x ≡ true) e inside) not_in

      -- a class in which the leaf lies and that does not lie in i lies above i
      above : (k : ℕ) → is_within tree i k ≡ false → is_within tree k j ≡ true → is_within tree k p ≡ true
      above k out inside =
          ⊎_elim
          (λ (e : is_within tree k i ≡ true).
          ⊎_elim (λ (z : i ≡ k). absurd (other_than k out (sym z)))
          (λ (z : is_within tree k (parent_of tree i) ≡ true). subst (λ (x : ℕ). is_within tree k x ≡ true) is_parent z)
          (within_cases tree grown k i (some_of some) b.class e))
          (λ (e : is_within tree i k ≡ true). never e out)
          (within_line tree grown k i j (leaf_class tree j b.leaf) inside b.line)

      both_ways : (k : ℕ) → k < tree.count → is_within tree k p ≡ true → is_within tree p k ≡ true → k ≡ p
      both_ways k l x y = le_antisymm (within_le tree grown k p parent_is_class x) (within_le tree grown p k l y)

      parent_line : is_within tree p j ≡ true
      parent_line = within_parent tree grown p i j child (leaf_class tree j b.leaf) b.line

      -- the parent was passive: it turns active next
      module _ (zero : busy ≡ 0) where
        pub turn_on : BeforeTurn m₂ tree cs j p
        turn_on =
            record {
              planted = planted_still size column b.planted;
              leaf = b.leaf;
              class = parent_is_class;
              line = parent_line;
              passive = uncounted_passive tree grown cs b.planted.lawful p (sym parent_shown.active ∙ sym q ∙ zero);
              own = child_moved (λ f l h. of_parent f (λ e. omega arith) (λ e. omega arith)) (child_of parent_shown);
              others = λ k l out.
                  fair_moved
                  (λ f h.
                  row k f (narrow k l)
                  (λ e. never (subst (λ (x : ℕ). is_within tree p x ≡ true) (sym e) (within_self tree grown p)) out)
                  (λ e. never (subst (λ (x : ℕ). is_within tree p x ≡ true) (sym e) in_parent) out))
                  (b.others k l (is_false (is_within tree i k) (λ inside. never (within_parent tree grown p i k child l inside) out)));
            }

        pub turn_on_done : {m₃ : List ℕ} → AfterTurn m₂ m₃ tree cs j p → AfterTurn m m₃ tree cs j i
        turn_on_done {m₃} a =
            let mine : (f : ℕ) → f < COLUMNS → at m₃ i f ≡ at m₂ i f = λ f h. a.beneath i f b.class h in_parent (λ e. apart (sym e)) in
            record {
              alone = alone_on alone a.alone;
              own = λ t n. child_moved (λ f l h. mine f (omega arith)) (child_shown t n);
              mark = mine MARK (omega arith) ∙ of_child MARK (λ e. omega arith) (λ e. omega arith) (λ e. omega arith);
              active = mine ACTIVE (omega arith) ∙ of_child ACTIVE (λ e. omega arith) (λ e. omega arith) (λ e. omega arith);
              beneath = λ k f l h inside ne.
                  a.beneath k f l h (within_parent tree grown p i k child l inside) (not_parent k inside)
                  ∙ row k f (narrow k l) (not_parent k inside) ne;
              others = λ t n k l out.
                  ⊎_elim
                  (λ (inside : is_within tree p k ≡ true).
                  ⊎_elim
                  (λ (e : k ≡ p).
                  subst (λ (x : ℕ). ShowsFair m₃ tree (came t j n ∷ cs) x) (sym e)
                  (fair_of (a.own t n) (a.mark ∙ mark_shown t n) (a.active ∙ active_shown t n)))
                  (λ (ne : k ≡ p → ⊥).
                  fair_unmoved tree grown cs j b.leaf m₃ k
                  (elsewhere_unmoved tree grown cs j b.leaf k (is_false (is_within tree k j) (λ z. ne (both_ways k l (above k out z) inside))))
                  (fair_moved (λ f h. a.beneath k f l h inside ne ∙ row k f (narrow k l) ne (other_than k out)) (b.others k l out))
                  t n)
                  (equal_or_not k p))
                  (λ (outside : is_within tree p k ≡ false). a.others t n k l outside)
                  (decided (is_within tree p k));
            }

      -- the parent was active, and so was all above it
      pub turn_done : (busy ≡ 0 → ⊥) → AfterTurn m m₂ tree cs j i
      turn_done some-busy =
          let parent-active = counted_active tree grown cs p (λ z. some-busy (q ∙ parent_shown.active ∙ z)) in
          record {
            alone = alone;
            own = child_shown;
            mark = of_child MARK (λ e. omega arith) (λ e. omega arith) (λ e. omega arith);
            active = of_child ACTIVE (λ e. omega arith) (λ e. omega arith) (λ e. omega arith);
            beneath = λ k f l h inside ne. row k f (narrow k l) (not_parent k inside) ne;
            others = λ t n k l out.
                ⊎_elim
                (λ (e : k ≡ p).
                subst (λ (x : ℕ). ShowsFair m₂ tree (came t j n ∷ cs) x) (sym e)
                (fair_of
                (child_stays (pieces_unmoved tree grown cs j b.leaf p (λ z. parent-active) t n)
                (child_moved (λ f l h. of_parent f (λ e. omega arith) (λ e. omega arith)) (child_of parent_shown)))
                (mark_shown t n) (active_shown t n)))
                (λ (ne : k ≡ p → ⊥).
                fair_unmoved tree grown cs j b.leaf m₂ k
                (record {
                  own = λ inside. active_above tree grown cs k p (above k out inside) parent-active;
                  children = λ c kid inside.
                      ⊎_elim (λ (z : is_within tree c p ≡ true). active_above tree grown cs c p z parent-active)
                      (λ (z : is_within tree p c ≡ true).
                      ⊎_elim (λ (e : c ≡ p). subst (λ (x : ℕ). active tree cs x ≡ true) (sym e) parent-active)
                      (λ (y : is_within tree p (parent_of tree c) ≡ true).
                      absurd
                      (ne
                      (both_ways k l
                      (above k out (within_parent tree grown k c j kid (leaf_class tree j b.leaf) inside))
                      (subst (λ (x : ℕ). is_within tree p x ≡ true) (child_parent tree k c kid) y))))
                      (within_cases tree grown p c (child_some tree k c kid) (child_class tree k c kid) z))
                      (within_line tree grown c p j (leaf_class tree j b.leaf) inside parent_line);
                })
                (fair_moved (λ f h. row k f (narrow k l) ne (other_than k out)) (b.others k l out))
                t n)
                (equal_or_not k p);
          }

-- the leaf itself, which turns active first
module _ {m : List ℕ} {tree : Tree} {cs : List Call} {j : ℕ} (b : BeforeWaking m tree cs j) where
  leaf_below : j < tree.count
  leaf_below = leaf_class tree j b.leaf

  pub wake_narrow : j < CLASSES
  wake_narrow = omega (arith, leaf_below, b.planted.right.shape.count.below)

  module _ (m₁ : List ℕ) (w : m₁ ≡ with m j ACTIVE 1) where
    other_column : (k f : ℕ) → k < CLASSES → (f ≡ ACTIVE → ⊥) → at m₁ k f ≡ at m k f
    other_column k f l ne = ap (λ (x : List ℕ). at x k f) w ∙ at_with_column m j ACTIVE 1 k f wake_narrow l ne

    other_row : (k f : ℕ) → k < CLASSES → (k ≡ j → ⊥) → at m₁ k f ≡ at m k f
    other_row k f l ne = ap (λ (x : List ℕ). at x k f) w ∙ at_with_class m j ACTIVE 1 k f wake_narrow l ne

    stored : at m₁ j ACTIVE ≡ 1
    stored = ap (λ (x : List ℕ). at x j ACTIVE) w ∙ at_with_same m j ACTIVE 1 b.planted.size wake_narrow (omega arith)

    first_size : length m₁ ≡ CELLS
    first_size = ap length w ∙ length_with m j ACTIVE 1 ∙ b.planted.size

    pub wake_turn : BeforeTurn m₁ tree cs j j
    wake_turn =
        record {
          planted = planted_still first_size (λ k f l h. other_column k f l (λ e. omega arith)) b.planted;
          leaf = b.leaf;
          class = leaf_below;
          line = within_self tree (right b.planted.right) j;
          passive = leaf_active tree (right b.planted.right) cs j b.leaf ∙ b.empty;
          own = child_moved (λ f l h. other_column j f wake_narrow (λ e. omega arith)) (child_of (b.fairs j leaf_below));
          others = λ k l out.
              fair_moved
              (λ f h.
              other_row k f (omega (arith, b.planted.right.shape.count.below))
              (λ e. never (subst (λ (x : ℕ). is_within tree j x ≡ true) (sym e) (within_self tree (right b.planted.right) j)) out))
              (b.fairs k l);
        }

    pub wake_done : {m' : List ℕ} → AfterTurn m₁ m' tree cs j j → AfterWaking m m' tree cs j
    wake_done {m'} a =
        record {
          alone =
              alone_on
              (record {
                size = first_size;
                columns = λ k f l h. other_column k f l (λ e. omega arith);
                rows = λ k f above l h. other_row k f l (λ e. omega (arith, leaf_below));
              })
              a.alone;
          fairs = λ t n k l.
              ⊎_elim
              (λ (inside : is_within tree j k ≡ true).
              subst (λ (x : ℕ). ShowsFair m' tree (came t j n ∷ cs) x) (within_leaf tree (right b.planted.right) j k b.leaf l inside)
              (fair_of (a.own t n)
              (a.mark ∙ other_column j MARK wake_narrow (λ e. omega arith) ∙ (b.fairs j leaf_below).mark
              ∙ sym (mark_leaf tree (right b.planted.right) cs j b.leaf t n))
              (a.active ∙ stored ∙ sym (activity_leaf tree (came t j n ∷ cs) j b.leaf ∙ cond_yes 1 0 (waits_came t j n cs)))))
              (λ (outside : is_within tree j k ≡ false). a.others t n k l outside)
              (decided (is_within tree j k));
        }
