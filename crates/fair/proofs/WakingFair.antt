-- What an arrival makes of a class among its parent's children: nothing, unless it turns the class or one of its children active; and then a mark, a fair
-- piece, a virtual time and one more active child. `idle` and an arrival into a waiting leaf change nothing.
-- Assumes nothing.
use Prim.Native.Nat.{ℕ, zero, suc, ◌+◌, ◌/◌, ◌<◌, max}
use native.Mathlib.Omega.{arith}
use mathlib.Core.Path.{◌≡◌, refl, sym, ◌∙◌, ap, ap₂, subst}
use mathlib.Core.Bool.{Bool, true, false, cond, not, ◌&&◌, ◌||◌}
use mathlib.Core.List.{List, [], ◌∷◌}
use mathlib.Core.Logic.{◌⊎◌, inl, inr, ⊎_elim}
use lib.Dec.{eqb}
use borrow.Author.Tests.{eqb-false, ne_eqb}
use Rattle.curve.specs.Answers.{Least}
use Rattle.curve.specs.Curves.{RightRate}
use Rattle.curve.specs.declared.Curve.TheVariants.{Straight}
use Rattle.curve.specs.declared.Piece.{Piece}
use Rattle.curve.specs.Keeping.{Stands, lower_of, lowest}
use Rattle.curve.proofs.Laws.Kept.{lowest_more, lowest_start}
use Rattle.tree.specs.declared.Tree.{Tree}
use Rattle.tree.specs.Trees.{parent_of, share_of, is_child, is_leaf}
use Rattle.rules.specs.Calls.{Call, came, left, idle}
use Rattle.rules.specs.Queues.{queue, is_nonempty, waits}
use Rattle.rules.specs.Over.{any_of, smallest_of}
use Rattle.rules.specs.Classes.{is_within, sent_in, sent, active, turns_active}
use Rattle.rules.specs.Fair.{virtual_time, is_other, mark_by_children, mark, fair_pieces, virtual_when_passive, virtual_time_of}
use Rattle.rules.specs.Lawful.{Grown, LawfulCalls}
use Rattle.rules.proofs.Tests.{never, decided, is_true, is_false, and_left, and_right, and_both, or_left, not_is, is_not, by_cond, cond_yes, cond_no, same_test, equal_or_not}
use Rattle.rules.proofs.Over.{any_same, any_none, none_any, largest_none, largest_same}
use Rattle.rules.proofs.Trees.{leaf_class, child_class, child_some, child_parent, leaf_childless, upward, within_cases, within_at_root, within_self, within_parent, within_one}
use Rattle.rules.proofs.Queues.{queue_came_other, waits_came, waits_leaf}
use Rattle.rules.proofs.Active.{active_of, leaf_active, active_came, choice_waits, choice_leaf}
use Rattle.rules.proofs.Leaves.{HasPiece}
use Rattle.rules.proofs.Fair.{pieces_turned, pieces_kept, mark_becomes, fair_in_order, when_passive_is_virtual}
use Rattle.state.specs.Table.{at}
use Rattle.state.specs.Columns.{VIRTUAL, ACTIVE}
use Rattle.state.specs.State.{ShowsFair, activity, fair_kept}
use Rattle.fair.specs.StepsWaking.{other_in, others_in, met_in}
use Rattle.state.proofs.Resting.{count_same, count_one, activity_interior, parent_interior, zero_passive, passive_zero}
use Rattle.fair.proofs.RestingFair.{kept_virtual, active_started}

-- `idle` "moves the clock and nothing else"
pub fair_idle : (m : List ℕ) (tree : Tree) (cs : List Call) (t k : ℕ) → ShowsFair m tree cs k → ShowsFair m tree (idle t ∷ cs) k
unfolding sent_in fair_pieces mark activity active queue
fair_idle m tree cs t k s =
    record {
      sent = s.sent;
      fair_start = s.fair_start;
      fair_sent = s.fair_sent;
      virtual = s.virtual;
      mark = s.mark;
      active = s.active;
    }

pub sent_came : (tree : Tree) (cs : List Call) (t j n k : ℕ) → sent tree (came t j n ∷ cs) k ≡ sent tree cs k
unfolding sent_in
sent_came tree cs t j n k = refl

-- the children that are meant have the same smallest value
smallest_same : (n : ℕ) (p q : ℕ → Bool) (f g : ℕ → ℕ) → ((k : ℕ) → k < n → p k ≡ q k) → ((k : ℕ) → k < n → p k ≡ true → f k ≡ g k)
    → smallest_of n p f ≡ smallest_of n q g
unfolding smallest_of
smallest_same zero p q f g same values = refl
smallest_same (suc n) p q f g same values =
    let rest = smallest_same n p q f g (λ k l. same k (omega arith)) (λ k l. values k (omega arith)) in
    let some = any_same n p q (λ k l. same k (omega arith)) in
    let now = same n (omega arith) in
    ⊎_elim
    (λ (e : p n ≡ true). let value = values n (omega arith) e in let e' : q n ≡ true = sym now ∙ e in rw (e, e', some, rest, value) refl)
    (λ (e : p n ≡ false). let e' : q n ≡ false = sym now ∙ e in rw (e, e') rest)
    (decided (p n))

-- a piece more is kept by what was kept
lower_all : (share : ℕ) (p : Piece) (ps : List Piece) → ((HasPiece ps → ⊥) → p.sent ≡ 0) → lower_of share (lowest share ps) p ≡ lowest share (p ∷ ps)
lower_all share p [] h = lowest_start share p (h (λ s. s))
lower_all share p (q ∷ qs) h = lowest_more share p q qs

module _ (tree : Tree) (grown : Grown tree) where
  -- a class whose count is 0 is passive, and any other is active
  pub uncounted_passive : (cs : List Call) → LawfulCalls tree cs → (i : ℕ) → activity tree cs i ≡ 0 → active tree cs i ≡ false
  uncounted_passive cs law i e = zero_passive tree grown cs (waits_leaf tree cs law) i e

  pub counted_active : (cs : List Call) (i : ℕ) → (activity tree cs i ≡ 0 → ⊥) → active tree cs i ≡ true
  counted_active cs i some = is_true (active tree cs i) (λ e. some (passive_zero tree grown cs i e))

  -- of two classes in which a class lies one lies in the other
  pub within_line : (a b c : ℕ) → c < tree.count → is_within tree a c ≡ true → is_within tree b c ≡ true → (is_within tree a b ≡ true) ⊎ (is_within tree b a ≡ true)
  within_line a b c below =
      upward tree grown
      (λ (c : ℕ). is_within tree a c ≡ true → is_within tree b c ≡ true → (is_within tree a b ≡ true) ⊎ (is_within tree b a ≡ true))
      (λ e f.
      inl
      (subst (λ (x : ℕ). is_within tree x b ≡ true) (within_at_root tree grown b f ∙ sym (within_at_root tree grown a e)) (within_self tree grown b)))
      (λ c some low up e f.
      ⊎_elim (λ (q : c ≡ a). inr (subst (λ (x : ℕ). is_within tree b x ≡ true) q f))
      (λ (q : is_within tree a (parent_of tree c) ≡ true).
      ⊎_elim (λ (r : c ≡ b). inl (subst (λ (x : ℕ). is_within tree a x ≡ true) r e))
      (λ (r : is_within tree b (parent_of tree c) ≡ true). up q r) (within_cases tree grown b c some low f))
      (within_cases tree grown a c some low e))
      c below

  -- a class that never started has sent nothing
  unstarted_sent : (cs : List Call) → LawfulCalls tree cs → (i : ℕ) → 0 < i → (HasPiece (fair_pieces tree cs i) → ⊥) → sent tree cs i ≡ 0
  unfolding LawfulCalls fair_pieces sent_in
  unstarted_sent [] law i some none = refl
  unstarted_sent (came t j n ∷ cs) law i some none =
      by_cond (λ (ps : List Piece). (HasPiece ps → ⊥) → sent tree cs i ≡ 0) (turns_active tree cs j i) (λ e h. absurd (h tt))
      (λ e h. unstarted_sent cs law.1 i some h) none
  unstarted_sent (left t j r ∷ cs) law i some none =
      by_cond (λ (x : ℕ). x ≡ 0) (is_within tree i j)
      (λ w.
      absurd
      (none
      (active_started tree grown cs law.1 i some
      (active_of tree cs i j (leaf_class tree j (choice_leaf tree grown cs t j r law.0.finds)) w (choice_waits tree grown cs t j r law.0.finds)))))
      (λ w. unstarted_sent cs law.1 i some none)
  unstarted_sent (idle t ∷ cs) law i some none = unstarted_sent cs law.1 i some none

  module _ (cs : List Call) (j : ℕ) (leaf : is_leaf tree j ≡ true) where
    -- nothing turns active in class k: it and its children are active already, or the leaf lies elsewhere
    pub record Unmoved (k : ℕ) : Type 0 where
      pub own : is_within tree k j ≡ true → active tree cs k ≡ true
      pub children : (c : ℕ) → is_child tree k c ≡ true → is_within tree c j ≡ true → active tree cs c ≡ true

    stays : (k : ℕ) → (is_within tree k j ≡ true → active tree cs k ≡ true) → turns_active tree cs j k ≡ false
    stays k h =
        is_false (turns_active tree cs j k)
        (λ e.
        let w = and_right (not (eqb k 0)) _ e in
        never (h (and_left (is_within tree k j) _ w)) (is_not (active tree cs k) (and_right (is_within tree k j) _ w)))

    mark_unmoved : (k : ℕ) → ((c : ℕ) → is_child tree k c ≡ true → is_within tree c j ≡ true → active tree cs c ≡ true) → (t n : ℕ)
        → mark tree (came t j n ∷ cs) k ≡ mark tree cs k
    unfolding mark
    mark_unmoved k children t n =
        omega (
          arith,
          largest_none tree.count (λ i. is_child tree k i && turns_active tree cs j i)
              (mark_by_children tree cs (λ k. virtual_time (share_of tree k) (fair_pieces tree cs k) (sent tree cs k)) (λ k. virtual_when_passive tree cs k))
              (none_any tree.count (λ i. is_child tree k i && turns_active tree cs j i)
              (λ i l.
              is_false (is_child tree k i && turns_active tree cs j i)
              (λ e. never (and_right (is_child tree k i) _ e) (stays i (children i (and_left (is_child tree k i) _ e)))))),
        )

    -- the leaf has no children, so that its mark stays
    pub mark_leaf : (t n : ℕ) → mark tree (came t j n ∷ cs) j ≡ mark tree cs j
    mark_leaf = mark_unmoved j (λ c child w. never child (leaf_childless tree j c leaf))

    -- a class that was active stays so, and one in which the leaf does not lie is as it was
    active_still : (k t n : ℕ) → (is_within tree k j ≡ true → active tree cs k ≡ true) → active tree (came t j n ∷ cs) k ≡ active tree cs k
    active_still k t n h =
        active_came tree grown cs t j n k (leaf_class tree j leaf)
        ∙ ⊎_elim
        (λ (w : is_within tree k j ≡ true). or_left (is_within tree k j) _ w ∙ sym (h w))
        (λ (w : is_within tree k j ≡ false). ap (λ (x : Bool). x || active tree cs k) w)
        (decided (is_within tree k j))

    waits_unmoved : (k t n : ℕ) → (is_within tree k j ≡ true → active tree cs k ≡ true) → waits (came t j n ∷ cs) k ≡ waits cs k
    waits_unmoved k t n h =
        ⊎_elim
        (λ (e : j ≡ k).
        subst (λ (x : ℕ). waits (came t j n ∷ cs) x ≡ waits cs x) e
        (waits_came t j n cs
        ∙ sym
        (sym (leaf_active tree grown cs j leaf)
        ∙ subst (λ (x : ℕ). active tree cs x ≡ true) (sym e)
        (h (subst (λ (x : ℕ). is_within tree x j ≡ true) e (within_self tree grown j))))))
        (λ (e : j ≡ k → ⊥). ap is_nonempty (queue_came_other t j n cs k e)) (equal_or_not j k)

    and_same : (a x y : Bool) → (a ≡ true → x ≡ y) → (a && x) ≡ (a && y)
    and_same true x y h = h refl
    and_same false x y h = refl

    activity_unmoved : (k : ℕ) → Unmoved k → (t n : ℕ) → activity tree (came t j n ∷ cs) k ≡ activity tree cs k
    unfolding activity
    activity_unmoved k u t n =
        ap₂ (λ (x y : ℕ). cond (is_leaf tree k) x y) (ap (λ (x : Bool). cond x 1 0) (waits_unmoved k t n u.own))
        (count_same tree.count (λ c. is_child tree k c && active tree (came t j n ∷ cs) c) (λ c. is_child tree k c && active tree cs c)
        (λ c l. and_same (is_child tree k c) _ _ (λ child. active_still c t n (u.children c child))))

    -- the columns of such a class stay as they are
    pub fair_unmoved : (m : List ℕ) (k : ℕ) → Unmoved k → ShowsFair m tree cs k → (t n : ℕ) → ShowsFair m tree (came t j n ∷ cs) k
    unfolding sent_in
    fair_unmoved m k u s t n =
        let same = sym (pieces_kept tree t j n cs k (stays k u.own)) in
        record {
          sent = s.sent;
          fair_start = s.fair_start ∙ ap (λ (ps : List Piece). (lowest (share_of tree k) ps).start) same;
          fair_sent = s.fair_sent ∙ ap (λ (ps : List Piece). (lowest (share_of tree k) ps).sent) same;
          virtual = s.virtual ∙ ap (λ (ps : List Piece). virtual_time (share_of tree k) ps (sent tree cs k)) same;
          mark = s.mark ∙ sym (mark_unmoved k u.children t n);
          active = s.active ∙ sym (activity_unmoved k u t n);
        }

    -- a class in which the leaf does not lie
    pub elsewhere_unmoved : (k : ℕ) → is_within tree k j ≡ false → Unmoved k
    elsewhere_unmoved k out =
        record {
          own = λ w. never w out;
          children = λ c child w. never (within_parent tree grown k c j child (leaf_class tree j leaf) w) out;
        }

    pub pieces_unmoved : (k : ℕ) → (is_within tree k j ≡ true → active tree cs k ≡ true) → (t n : ℕ)
        → fair_pieces tree (came t j n ∷ cs) k ≡ fair_pieces tree cs k
    pieces_unmoved k h t n = pieces_kept tree t j n cs k (stays k h)

    pub root_unmoved : (t n : ℕ) → fair_pieces tree (came t j n ∷ cs) 0 ≡ fair_pieces tree cs 0
    root_unmoved t n = pieces_kept tree t j n cs 0 refl

    -- class i, a child of p, turns active
    module _ (law : LawfulCalls tree cs) (p i : ℕ) (child : is_child tree p i ≡ true) (line : is_within tree i j ≡ true) (passive : active tree cs i ≡ false) where
      turns : turns_active tree cs j i ≡ true
      turns =
          and_both (not (eqb i 0)) _ (not_is (eqb i 0) (ne_eqb i 0 (λ e. omega (arith, child_some tree p i child))))
          (and_both (is_within tree i j) _ line (not_is (active tree cs i) passive))

      pub mark_turned : (t n : ℕ) → mark tree (came t j n ∷ cs) p ≡ max (mark tree cs p) (mark_by_children tree cs (λ k. virtual_time_of tree cs k) (λ k. virtual_when_passive tree cs k) i)
      mark_turned t n =
          subst
          (λ (x : ℕ). mark tree (came t j n ∷ cs) x ≡ max (mark tree cs x) (mark_by_children tree cs (λ k. virtual_time_of tree cs k) (λ k. virtual_when_passive tree cs k) i))
          (child_parent tree p i child)
          (mark_becomes tree grown t j n cs i (child_class tree p i child) (leaf_class tree j leaf) turns)

      abbrev new_piece : Piece
      new_piece = record { start = max (mark tree cs p) (mark_by_children tree cs (λ k. virtual_time_of tree cs k) (λ k. virtual_when_passive tree cs k) i); sent = sent tree cs i }

      pieces_new : (t n : ℕ) → fair_pieces tree (came t j n ∷ cs) i ≡ new_piece ∷ fair_pieces tree cs i
      pieces_new t n =
          pieces_turned tree t j n cs i turns
          ∙ ap
          (λ (x : ℕ). record { start = max (mark tree cs x) (mark_by_children tree cs (λ k. virtual_time_of tree cs k) (λ k. virtual_when_passive tree cs k) i); sent = sent tree cs i } ∷ fair_pieces tree cs i)
          (child_parent tree p i child)

      pub kept_turned : (t n : ℕ) → fair_kept tree (came t j n ∷ cs) i ≡ lower_of (share_of tree i) (fair_kept tree cs i) new_piece
      kept_turned t n =
          ap (lowest (share_of tree i)) (pieces_new t n)
          ∙ sym (lower_all (share_of tree i) new_piece (fair_pieces tree cs i) (λ none. unstarted_sent cs law i (child_some tree p i child) none))

      pub virtual_turned : RightRate (share_of tree i) → (t n v : ℕ) → Least (Stands (Straight (share_of tree i)) (fair_kept tree (came t j n ∷ cs) i) (sent tree cs i)) v
          → v ≡ virtual_time_of tree (came t j n ∷ cs) i
      unfolding sent_in
      virtual_turned rate t n v least =
          let order = fair_in_order tree grown (came t j n ∷ cs) i (child_class tree p i child) in
          kept_virtual (share_of tree i) rate (fair_pieces tree (came t j n ∷ cs) i)
          (subst HasPiece (sym (pieces_new t n)) tt)
          order.order (sent tree cs i) v order.sent least

      -- the parent has one active child more
      pub activity_turned : (t n : ℕ) → activity tree (came t j n ∷ cs) p ≡ activity tree cs p + 1
      activity_turned t n =
          let inner = parent_interior tree p i child in
          activity_interior tree (came t j n ∷ cs) p inner
          ∙ count_one tree.count (λ k. is_child tree p k && active tree (came t j n ∷ cs) k) (λ k. is_child tree p k && active tree cs k) i (child_class tree p i child)
          (and_both (is_child tree p i) _ child
          (active_came tree grown cs t j n i (leaf_class tree j leaf) ∙ or_left (is_within tree i j) _ line))
          (is_false (is_child tree p i && active tree cs i) (λ e. never (and_right (is_child tree p i) _ e) passive))
          (λ k l other.
          and_same (is_child tree p k) _ _
          (λ c. active_still k t n (λ w. absurd (other (within_one tree grown p k i j c child (leaf_class tree j leaf) w line)))))
          ∙ ap (λ (x : ℕ). x + 1) (sym (activity_interior tree cs p inner))

      -- what the columns give is what the children give the mark
      module _ (m : List ℕ) (virtuals : (k : ℕ) → is_child tree p k ≡ true → at m k VIRTUAL ≡ virtual_time_of tree cs k)
          (actives : (k : ℕ) → is_child tree p k ≡ true → (k ≡ i → ⊥) → at m k ACTIVE ≡ activity tree cs k) where
        same_other : (k : ℕ) → others_in m tree p i k ≡ (is_child tree p k && (active tree cs k && not (eqb k i)))
        unfolding other_in
        same_other k =
            and_same (is_child tree p k) _ _
            (λ c.
            same_test (not (eqb k i) && not (eqb (at m k ACTIVE) 0)) (active tree cs k && not (eqb k i))
            (λ e.
            let apart = and_left (not (eqb k i)) _ e in
            let ne = eqb-false k i (is_not (eqb k i) apart) in
            let busy = eqb-false (at m k ACTIVE) 0 (is_not (eqb (at m k ACTIVE) 0) (and_right (not (eqb k i)) _ e)) in
            and_both (active tree cs k) _ (counted_active cs k (λ z. busy (actives k c ne ∙ z))) apart)
            (λ e.
            let apart = and_right (active tree cs k) _ e in
            let ne = eqb-false k i (is_not (eqb k i) apart) in
            and_both (not (eqb k i)) _ apart
            (not_is (eqb (at m k ACTIVE) 0)
            (ne_eqb (at m k ACTIVE) 0
            (λ z. never (and_left (active tree cs k) _ e) (uncounted_passive cs law k (sym (actives k c ne) ∙ z)))))))

        same_others : (k : ℕ) → others_in m tree p i k ≡ is_other tree cs i k
        unfolding is_other
        same_others k = same_other k ∙ ap (λ (x : ℕ). is_child tree x k && (active tree cs k && not (eqb k i))) (sym (child_parent tree p i child))

        -- with none active every child's virtual time is the one that it had when it last turned passive
        all_passive : any_of tree.count (λ k. others_in m tree p i k) ≡ false → (k : ℕ) → is_child tree p k ≡ true → active tree cs k ≡ false
        all_passive none k c =
            ⊎_elim
            (λ (e : k ≡ i). ap (active tree cs) e ∙ passive)
            (λ (ne : k ≡ i → ⊥).
            is_false (active tree cs k)
            (λ a.
            never
            (and_both (is_child tree p k) _ c (and_both (active tree cs k) _ a (not_is (eqb k i) (ne_eqb k i ne))))
            (sym (same_other k) ∙ any_none tree.count (λ k. others_in m tree p i k) none k (child_class tree p k c))))
            (equal_or_not k i)

        other_child : (k : ℕ) → others_in m tree p i k ≡ true → is_child tree p k ≡ true
        other_child k e = and_left (is_child tree p k) _ e

        pub met_is : met_in m tree p i ≡ mark_by_children tree cs (λ k. virtual_time_of tree cs k) (λ k. virtual_when_passive tree cs k) i
        unfolding met_in mark_by_children
        met_is =
            let some = any_same tree.count (λ k. others_in m tree p i k) (is_other tree cs i) (λ k l. same_others k) in
            ⊎_elim
            (λ (e : any_of tree.count (λ k. others_in m tree p i k) ≡ true).
            cond_yes _ _ e
            ∙ ap₂ (λ (x y : ℕ). (x + y) / 2)
            (smallest_same tree.count (λ k. others_in m tree p i k) (is_other tree cs i) (λ k. at m k VIRTUAL) (λ k. virtual_time_of tree cs k) (λ k l. same_others k)
            (λ k l o. virtuals k (other_child k o)))
            (largest_same tree.count (λ k. others_in m tree p i k) (is_other tree cs i) (λ k. at m k VIRTUAL) (λ k. virtual_time_of tree cs k) (λ k l. same_others k)
            (λ k l o. virtuals k (other_child k o)))
            ∙ sym (cond_yes _ _ (sym some ∙ e)))
            (λ (e : any_of tree.count (λ k. others_in m tree p i k) ≡ false).
            cond_no _ _ e
            ∙ largest_same tree.count (λ k. is_child tree p k) (is_child tree (parent_of tree i)) (λ k. at m k VIRTUAL) (λ k. virtual_when_passive tree cs k)
            (λ k l. ap (λ (x : ℕ). is_child tree x k) (sym (child_parent tree p i child)))
            (λ k l c. virtuals k c ∙ sym (when_passive_is_virtual tree grown cs law k (all_passive e k c)))
            ∙ sym (cond_no _ _ (sym some ∙ e)))
            (decided (any_of tree.count (λ k. others_in m tree p i k)))

-- an arrival into a leaf in which a packet waits turns nothing active
pub fair_came_on : (m : List ℕ) (tree : Tree) → Grown tree → (cs : List Call) → LawfulCalls tree cs → (t j n : ℕ) → waits cs j ≡ true
    → (k : ℕ) → ShowsFair m tree cs k → ShowsFair m tree (came t j n ∷ cs) k
fair_came_on m tree grown cs law t j n waiting k s =
    let leaf = waits_leaf tree cs law j waiting in
    fair_unmoved tree grown cs j leaf m k
    (record {
      own = λ w. active_of tree cs k j (leaf_class tree j leaf) w waiting;
      children = λ c child w. active_of tree cs c j (leaf_class tree j leaf) w waiting;
    })
    s t n
