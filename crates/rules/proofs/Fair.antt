-- Marks, starts and virtual times: in order, never falling, and at most 65,536 times the bytes sent beneath the parent.
-- Assumes nothing.
use Rattle.std.proofs.Common.{◌≡◌, ℕ, zero, suc, ◌+◌, ◌-◌, ◌<◌, ◌≤◌, max, true, false, not, ◌&&◌, eqb, List, [], ◌∷◌, sym, refl, ap, ◌∙◌, subst, ⊎_elim, le_trans, arith, ne_eqb}
use Rattle.curve.specs.Curves.{in_parts}
use Rattle.curve.specs.Pieces.{latest}
use Rattle.curve.specs.declared.Piece.{Piece}
use Rattle.tree.specs.declared.Tree.{Tree}
use Rattle.tree.specs.Trees.{parent_of, share_of, is_child}
use Rattle.rules.specs.declared.Rule.{Rule}
use Rattle.rules.specs.Limits.{weigh}
use Rattle.rules.specs.Calls.{Call, came, left, idle}
use Rattle.rules.specs.Queues.{head_length}
use Rattle.rules.specs.Over.{any_of, largest_of}
use Rattle.rules.specs.Classes.{is_within, sent_in, sent, active, turns_active, turns_passive}
use Rattle.rules.specs.Fair.{virtual_time, is_other, mark_by_children, mark, fair_pieces, virtual_when_passive, virtual_time_of}
use Rattle.rules.specs.Lawful.{Grown, LawfulCalls}
use Rattle.rules.specs.Sentences.{MarkBecomes, StartsAtMark, VirtualTimeLeast, WhenPassiveIsVirtual}
use Rattle.rules.proofs.Tests.{never, decided, equal_or_not, is_false, and_left, and_right, and_both, or_left, or_right, not_is, by_cond, cond_yes, cond_no}
use Rattle.rules.proofs.Over.{any_which, any_none, none_any, largest_least, largest_most, largest_only, largest_none, largest_same, smallest_most}
use Rattle.rules.proofs.Allowed.{allowed_admitted}
use Rattle.rules.proofs.Trees.{leaf_class, child_class, child_parent, a_child, share_some, within_one, within_parent}
use Rattle.rules.proofs.Active.{active_of, active_came, active_idle, choice_waits, choice_leaf}
use Rattle.rules.proofs.Leaves.{InOrder, in_order_none, in_order_later, in_order_new}
use Rattle.rules.proofs.Virtual.{virtual_mono, virtual_older, virtual_latest, virtual_is_least, rounded_most}

-- w never falls
pub w_rises : (tree : Tree) (c : Call) (cs : List Call) (i : ℕ) → sent tree cs i ≤ sent tree (c ∷ cs) i
unfolding sent_in
w_rises tree (came at k n) cs i = omega arith
w_rises tree (left at k r) cs i = by_cond (λ (x : ℕ). sent tree cs i ≤ x) (is_within tree i k) (λ e. omega arith) (λ e. omega arith)
w_rises tree (idle at) cs i = omega arith

pub sent_left : (tree : Tree) (at j : ℕ) (r : Rule) (cs : List Call) (i : ℕ) → is_within tree i j ≡ true
    → sent tree (left at j r ∷ cs) i ≡ sent tree cs i + weigh (head_length cs j)
unfolding sent_in
sent_left tree at j r cs i e = cond_yes _ _ e

pub sent_left_other : (tree : Tree) (at j : ℕ) (r : Rule) (cs : List Call) (i : ℕ) → is_within tree i j ≡ false → sent tree (left at j r ∷ cs) i ≡ sent tree cs i
unfolding sent_in
sent_left_other tree at j r cs i e = cond_no _ _ e

-- a mark never falls
pub mark_rises : (tree : Tree) (c : Call) (cs : List Call) (p : ℕ) → mark tree cs p ≤ mark tree (c ∷ cs) p
unfolding mark
mark_rises tree (came at j n) cs p = omega arith
mark_rises tree (left at j r) cs p = omega arith
mark_rises tree (idle at) cs p = omega arith

-- the start of a class that turns active
abbrev pub start_of : Tree → List Call → ℕ → ℕ
start_of tree cs i = max (mark tree cs (parent_of tree i)) (mark_by_children tree cs (λ k. virtual_time_of tree cs k) (λ k. virtual_when_passive tree cs k) i)

pub pieces_turned : (tree : Tree) (at j n : ℕ) (cs : List Call) (i : ℕ) → turns_active tree cs j i ≡ true
    → fair_pieces tree (came at j n ∷ cs) i ≡ record { start = start_of tree cs i; sent = sent tree cs i } ∷ fair_pieces tree cs i
unfolding fair_pieces
pieces_turned tree at j n cs i e = cond_yes _ _ e

pub pieces_kept : (tree : Tree) (at j n : ℕ) (cs : List Call) (i : ℕ) → turns_active tree cs j i ≡ false
    → fair_pieces tree (came at j n ∷ cs) i ≡ fair_pieces tree cs i
unfolding fair_pieces
pieces_kept tree at j n cs i e = cond_no _ _ e

module _ (tree : Tree) (grown : Grown tree) where
  turned_child : (cs : List Call) (j i : ℕ) → i < tree.count → turns_active tree cs j i ≡ true → (0 < i) × (is_within tree i j ≡ true)
  turned_child cs j zero below e = never e refl
  turned_child cs j (suc i) below e = (omega arith, and_left (is_within tree (suc i) j) _ (and_right (not (eqb (suc i) 0)) _ e))

  start_below_mark : (at j n : ℕ) (cs : List Call) (i : ℕ) → i < tree.count → turns_active tree cs j i ≡ true
      → start_of tree cs i ≤ mark tree (came at j n ∷ cs) (parent_of tree i)
  unfolding mark
  start_below_mark at j n cs i below e =
      omega (
        arith,
        largest_least tree.count (λ k. is_child tree (parent_of tree i) k && turns_active tree cs j k)
            (mark_by_children tree cs (λ k. virtual_time_of tree cs k) (λ k. virtual_when_passive tree cs k)) i below
            (and_both (is_child tree (parent_of tree i) i) _ (a_child tree i (turned_child cs j i below e).0 below) e),
      )

  -- one arrival turns at most one child of a class active
  mark_started : (at j n : ℕ) (cs : List Call) (i : ℕ) → i < tree.count → j < tree.count → turns_active tree cs j i ≡ true
      → mark tree (came at j n ∷ cs) (parent_of tree i) ≡ start_of tree cs i
  unfolding mark
  mark_started at j n cs i below leaf e =
      let (some, within) = turned_child cs j i below e in
      let child = a_child tree i some below in
      ap (λ (x : ℕ). max (mark tree cs (parent_of tree i)) x)
      (largest_only tree.count (λ k. is_child tree (parent_of tree i) k && turns_active tree cs j k)
      (mark_by_children tree cs (λ k. virtual_time_of tree cs k) (λ k. virtual_when_passive tree cs k)) i below
      (and_both (is_child tree (parent_of tree i) i) _ child e)
      (λ m l q.
      within_one tree grown (parent_of tree i) m i j (and_left (is_child tree (parent_of tree i) m) _ q) child leaf
      (turned_child cs j m l (and_right (is_child tree (parent_of tree i) m) _ q)).1 within))

  -- the fair pieces of a class are in order, and none starts after the mark
  pub fair_in_order : (cs : List Call) (i : ℕ) → i < tree.count → InOrder (fair_pieces tree cs i) (mark tree cs (parent_of tree i)) (sent tree cs i)
  unfolding fair_pieces
  fair_in_order [] i below = in_order_none _ _
  fair_in_order (came at j n ∷ cs) i below =
      let rest = fair_in_order cs i below in
      by_cond (λ (ps : List Piece). InOrder ps (mark tree (came at j n ∷ cs) (parent_of tree i)) (sent tree (came at j n ∷ cs) i)) (turns_active tree cs j i)
      (λ e.
      in_order_later _ _ (start_below_mark at j n cs i below e) (w_rises tree (came at j n) cs i)
      (in_order_new (fair_pieces tree cs i) (mark tree cs (parent_of tree i)) (sent tree cs i) (start_of tree cs i) (omega arith) rest))
      (λ e. in_order_later _ _ (mark_rises tree (came at j n) cs (parent_of tree i)) (w_rises tree (came at j n) cs i) rest)
  fair_in_order (left at j r ∷ cs) i below =
      in_order_later _ _ (mark_rises tree (left at j r) cs (parent_of tree i)) (w_rises tree (left at j r) cs i) (fair_in_order cs i below)
  fair_in_order (idle at ∷ cs) i below =
      in_order_later _ _ (mark_rises tree (idle at) cs (parent_of tree i)) (w_rises tree (idle at) cs i) (fair_in_order cs i below)

  -- a virtual time never falls
  pub virtual_rises : (c : Call) (cs : List Call) (i : ℕ) → i < tree.count → virtual_time_of tree cs i ≤ virtual_time_of tree (c ∷ cs) i
  unfolding fair_pieces sent_in
  virtual_rises (came at j n) cs i below =
      by_cond (λ (ps : List Piece). virtual_time_of tree cs i ≤ virtual_time (share_of tree i) ps (sent tree cs i)) (turns_active tree cs j i)
      (λ e. virtual_older (share_of tree i) _ (fair_pieces tree cs i) (sent tree cs i)) (λ e. omega arith)
  virtual_rises (left at j r) cs i below =
      virtual_mono (share_of tree i) (fair_pieces tree cs i) (share_some tree grown i below) (w_rises tree (left at j r) cs i)
  virtual_rises (idle at) cs i below = omega arith

  -- the virtual time that a class had when it last turned passive is not above the one that it has now
  pub when_passive_below : (cs : List Call) (i : ℕ) → i < tree.count → virtual_when_passive tree cs i ≤ virtual_time_of tree cs i
  unfolding virtual_when_passive
  when_passive_below [] i below = omega arith
  when_passive_below (came at j n ∷ cs) i below = le_trans (when_passive_below cs i below) (virtual_rises (came at j n) cs i below)
  when_passive_below (left at j r ∷ cs) i below =
      by_cond (λ (x : ℕ). x ≤ virtual_time_of tree (left at j r ∷ cs) i) (turns_passive tree (left at j r) cs i) (λ e. unfold fair_pieces in (omega arith))
      (λ e. le_trans (when_passive_below cs i below) (virtual_rises (left at j r) cs i below))
  when_passive_below (idle at ∷ cs) i below = le_trans (when_passive_below cs i below) (virtual_rises (idle at) cs i below)

-- "its parent's mark becomes the larger of" the two
pub mark_becomes : MarkBecomes
mark_becomes = mark_started

-- "The child starts at that mark"
pub starts_at_mark : StartsAtMark
starts_at_mark tree grown at j n cs i below leaf e =
    pieces_turned tree at j n cs i e
    ∙ ap (λ (x : ℕ). record { start = x; sent = sent tree cs i } ∷ fair_pieces tree cs i) (sym (mark_becomes tree grown at j n cs i below leaf e))

-- "Its virtual time is the least whole v, not before its latest start, at which every fair piece of its history is at least 65,536·w"
pub virtual_time_least : VirtualTimeLeast
virtual_time_least tree grown cs i below =
    virtual_is_least (share_of tree i) (fair_pieces tree cs i) (sent tree cs i) (share_some tree grown i below) (fair_in_order tree grown cs i below).order

-- "the largest virtual time that any child had when it last turned passive": of a passive class it is the one that it has
pub when_passive_is_virtual : WhenPassiveIsVirtual
unfolding LawfulCalls virtual_when_passive sent_in virtual_time
when_passive_is_virtual tree grown [] law i passive = refl
when_passive_is_virtual tree grown (came at j n ∷ cs) law i passive =
    let after = sym (active_came tree grown cs at j n i (leaf_class tree j (allowed_admitted law.0).leaf)) ∙ passive in
    let out = is_false (is_within tree i j) (λ e. never (or_left (is_within tree i j) (active tree cs i) e) after) in
    let before = is_false (active tree cs i) (λ e. never (or_right (is_within tree i j) (active tree cs i) e) after) in
    when_passive_is_virtual tree grown cs law.1 i before
    ∙ ap (λ (ps : List Piece). virtual_time (share_of tree i) ps (sent tree cs i))
    (sym
    (pieces_kept tree at j n cs i
    (is_false (turns_active tree cs j i)
    (λ e. never (and_left (is_within tree i j) _ (and_right (not (eqb i 0)) _ e)) out))))
when_passive_is_virtual tree grown (left at j r ∷ cs) law i passive =
    by_cond (λ (x : ℕ). x ≡ virtual_time_of tree (left at j r ∷ cs) i) (turns_passive tree (left at j r) cs i) (λ e. refl)
    (λ e.
    let before =
    is_false (active tree cs i)
    (λ a. never (and_both (active tree cs i) (not (active tree (left at j r ∷ cs) i)) a (not_is (active tree (left at j r ∷ cs) i) passive)) e)
    in
    let out =
    is_false (is_within tree i j)
    (λ w.
    never
    (active_of tree cs i j (leaf_class tree j (choice_leaf tree grown cs at j r law.0.finds)) w (choice_waits tree grown cs at j r law.0.finds))
    before)
    in
    when_passive_is_virtual tree grown cs law.1 i before
    ∙ ap (λ (w : ℕ). virtual_time (share_of tree i) (fair_pieces tree cs i) w) (sym (sent_left_other tree at j r cs i out)))
when_passive_is_virtual tree grown (idle at ∷ cs) law i passive = when_passive_is_virtual tree grown cs law.1 i (sym (active_idle tree cs at i) ∙ passive)

-- Sizes: under one parent nothing passes 65,536 times the bytes sent beneath it.

-- every piece would be reached by `most`, even with a share of 1
abbrev Held : List Piece → ℕ → ℕ → Type 0
Held [] w most = Unit {0}
Held (p ∷ ps) w most = (p.start + in_parts (w - p.sent) ≤ most) × Held ps w most

held_virtual : (share : ℕ) (ps : List Piece) (w most : ℕ) → 1 ≤ share → Held ps w most → virtual_time share ps w ≤ most
unfolding virtual_time
held_virtual share [] w most some h = omega arith
held_virtual share (p ∷ ps) w most some h =
    omega (arith, h.0, held_virtual share ps w most some h.1, rounded_most (in_parts (w - p.sent)) share some)

held_more : (ps : List Piece) (w x most more : ℕ) → most + in_parts (x - w) ≤ more → Held ps w most → Held ps x more
held_more [] w x most more m h = tt
held_more (p ∷ ps) w x most more m h = (omega (arith, h.0), held_more ps w x most more m h.1)

-- what the children give the mark is not above what bounds their virtual times
by_children_below : (tree : Tree) (cs : List Call) (now last : ℕ → ℕ) (i most : ℕ)
    → ((k : ℕ) → is_child tree (parent_of tree i) k ≡ true → now k ≤ most) → ((k : ℕ) → is_child tree (parent_of tree i) k ≡ true → last k ≤ most)
    → mark_by_children tree cs now last i ≤ most
unfolding mark_by_children is_other
by_children_below tree cs now last i most nows lasts =
    by_cond (λ (x : ℕ). x ≤ most) (any_of tree.count (is_other tree cs i))
    (λ some.
    let (k, l, e) = any_which tree.count (is_other tree cs i) some in
    omega (
      arith,
      smallest_most tree.count (is_other tree cs i) now k l e,
      nows k (and_left (is_child tree (parent_of tree i) k) _ e),
      largest_most tree.count (is_other tree cs i) now most (λ m h q. nows m (and_left (is_child tree (parent_of tree i) m) _ q)),
    ))
    (λ none. largest_most tree.count (is_child tree (parent_of tree i)) last most (λ m h q. lasts m q))

module _ (tree : Tree) (grown : Grown tree) where
  record Sizes (cs : List Call) : Type 0 where
    marks : (p : ℕ) → mark tree cs p ≤ in_parts (sent tree cs p)
    held : (p i : ℕ) → is_child tree p i ≡ true → Held (fair_pieces tree cs i) (sent tree cs i) (in_parts (sent tree cs p))

  sized_virtual : (cs : List Call) → Sizes cs → (p i : ℕ) → is_child tree p i ≡ true → virtual_time_of tree cs i ≤ in_parts (sent tree cs p)
  sized_virtual cs s p i child =
      held_virtual (share_of tree i) (fair_pieces tree cs i) (sent tree cs i) (in_parts (sent tree cs p)) (share_some tree grown i (child_class tree p i child))
      (s.held p i child)

  sized_by_children : (cs : List Call) → Sizes cs → (p i : ℕ) → parent_of tree i ≡ p
      → mark_by_children tree cs (λ k. virtual_time_of tree cs k) (λ k. virtual_when_passive tree cs k) i ≤ in_parts (sent tree cs p)
  sized_by_children cs s p i e =
      by_children_below tree cs (λ k. virtual_time_of tree cs k) (λ k. virtual_when_passive tree cs k) i (in_parts (sent tree cs p))
      (λ k c. sized_virtual cs s p k (subst (λ (x : ℕ). is_child tree x k ≡ true) e c))
      (λ k c.
      le_trans (when_passive_below tree grown cs k (child_class tree (parent_of tree i) k c))
      (sized_virtual cs s p k (subst (λ (x : ℕ). is_child tree x k ≡ true) e c)))

  sizes : (cs : List Call) → LawfulCalls tree cs → Sizes cs
  unfolding LawfulCalls mark sent_in
  sizes [] law = record { marks = λ p. omega arith; held = λ p i c. tt }
  sizes (came at j n ∷ cs) law =
      let s = sizes cs law.1 in
      record {
        marks = λ p.
            omega (
              arith,
              s.marks p,
              largest_most tree.count (λ i. is_child tree p i && turns_active tree cs j i)
                  (mark_by_children tree cs (λ k. virtual_time_of tree cs k) (λ k. virtual_when_passive tree cs k)) (in_parts (sent tree cs p))
                  (λ i l e. sized_by_children cs s p i (child_parent tree p i (and_left (is_child tree p i) _ e))),
            );
        held = λ p i child.
            by_cond (λ (ps : List Piece). Held ps (sent tree cs i) (in_parts (sent tree cs p))) (turns_active tree cs j i)
            (λ e. (
              omega (
                arith,
                sized_by_children cs s p i (child_parent tree p i child),
                s.marks p,
                ap (mark tree cs) (child_parent tree p i child),
              ),
              s.held p i child,
            ))
            (λ e. s.held p i child);
      }
  sizes (left at j r ∷ cs) law =
      let s = sizes cs law.1 in
      let below = leaf_class tree j (choice_leaf tree grown cs at j r law.0.finds) in
      record {
        marks = λ p. omega (arith, s.marks p, w_rises tree (left at j r) cs p);
        held = λ p i child.
            held_more (fair_pieces tree cs i) (sent tree cs i) (sent tree (left at j r ∷ cs) i) (in_parts (sent tree cs p)) (in_parts (sent tree (left at j r ∷ cs) p))
            (⊎_elim
            (λ (e : is_within tree i j ≡ true).
            omega (arith, sent_left tree at j r cs i e, sent_left tree at j r cs p (within_parent tree grown p i j child below e)))
            (λ (e : is_within tree i j ≡ false). omega (arith, sent_left_other tree at j r cs i e, w_rises tree (left at j r) cs p))
            (decided (is_within tree i j)))
            (s.held p i child);
      }
  sizes (idle at ∷ cs) law = let s = sizes cs law.1 in record { marks = s.marks; held = s.held }

  pub mark_most : (cs : List Call) → LawfulCalls tree cs → (p : ℕ) → mark tree cs p ≤ in_parts (sent tree cs p)
  mark_most cs law p = (sizes cs law).marks p

  pub virtual_most : (cs : List Call) → LawfulCalls tree cs → (p i : ℕ) → is_child tree p i ≡ true → virtual_time_of tree cs i ≤ in_parts (sent tree cs p)
  virtual_most cs law p i child = sized_virtual cs (sizes cs law) p i child

  pub start_most : (cs : List Call) → LawfulCalls tree cs → (p i : ℕ) → is_child tree p i ≡ true → latest (fair_pieces tree cs i) ≤ in_parts (sent tree cs p)
  start_most cs law p i child = le_trans (virtual_latest (share_of tree i) (fair_pieces tree cs i) (sent tree cs i)) (virtual_most cs law p i child)

  pub when_passive_most : (cs : List Call) → LawfulCalls tree cs → (p i : ℕ) → is_child tree p i ≡ true → virtual_when_passive tree cs i ≤ in_parts (sent tree cs p)
  when_passive_most cs law p i child = le_trans (when_passive_below tree grown cs i (child_class tree p i child)) (virtual_most cs law p i child)

-- What a call leaves alone.

pub virtual_came_other : (tree : Tree) (at j n : ℕ) (cs : List Call) (i : ℕ) → turns_active tree cs j i ≡ false
    → virtual_time_of tree (came at j n ∷ cs) i ≡ virtual_time_of tree cs i
unfolding sent_in
virtual_came_other tree at j n cs i e = ap (λ (ps : List Piece). virtual_time (share_of tree i) ps (sent tree cs i)) (pieces_kept tree at j n cs i e)

pub virtual_left_other : (tree : Tree) (at j : ℕ) (r : Rule) (cs : List Call) (i : ℕ) → is_within tree i j ≡ false
    → virtual_time_of tree (left at j r ∷ cs) i ≡ virtual_time_of tree cs i
unfolding fair_pieces
virtual_left_other tree at j r cs i e =
    ap (λ (w : ℕ). virtual_time (share_of tree i) (fair_pieces tree cs i) w) (sent_left_other tree at j r cs i e)

pub mark_came_other : (tree : Tree) (at j n : ℕ) (cs : List Call) (p : ℕ) → ((i : ℕ) → is_child tree p i ≡ true → turns_active tree cs j i ≡ false)
    → mark tree (came at j n ∷ cs) p ≡ mark tree cs p
unfolding mark
mark_came_other tree at j n cs p kept =
    omega (
      arith,
      largest_none tree.count (λ i. is_child tree p i && turns_active tree cs j i)
          (mark_by_children tree cs (λ k. virtual_time_of tree cs k) (λ k. virtual_when_passive tree cs k))
          (none_any tree.count (λ i. is_child tree p i && turns_active tree cs j i)
          (λ i l.
          is_false (is_child tree p i && turns_active tree cs j i)
          (λ e. never (and_right (is_child tree p i) _ e) (kept i (and_left (is_child tree p i) _ e))))),
    )

-- where no other child is active, the children's virtual times are those that they had when they last turned passive
pub when_passive_largest : (tree : Tree) → Grown tree → (cs : List Call) → LawfulCalls tree cs → (i : ℕ) → active tree cs i ≡ false
    → any_of tree.count (is_other tree cs i) ≡ false
    → largest_of tree.count (is_child tree (parent_of tree i)) (λ k. virtual_when_passive tree cs k)
    ≡ largest_of tree.count (is_child tree (parent_of tree i)) (λ k. virtual_time_of tree cs k)
unfolding is_other
when_passive_largest tree grown cs law i passive none =
    largest_same tree.count (is_child tree (parent_of tree i)) (is_child tree (parent_of tree i)) (λ k. virtual_when_passive tree cs k) (λ k. virtual_time_of tree cs k)
    (λ k l. refl)
    (λ k l child.
    when_passive_is_virtual tree grown cs law k
    (is_false (active tree cs k)
    (λ a.
    ⊎_elim (λ (e : k ≡ i). never a (ap (active tree cs) e ∙ passive))
    (λ (e : k ≡ i → ⊥).
    never
    (and_both (is_child tree (parent_of tree i) k) _ child (and_both (active tree cs k) (not (eqb k i)) a (not_is (eqb k i) (ne_eqb k i e))))
    (any_none tree.count (is_other tree cs i) none k l))
    (equal_or_not k i))))
