-- Document 01, "What the definitions say", of a class among its parent's children: mark, start, fair pieces and virtual time.
-- Assumes nothing.
use Rattle.std.specs.Prelude.{ℕ, ◌+◌, ◌-◌, ◌/◌, max, Bool, cond, not, ◌&&◌, List, [], ◌∷◌, ◌==◌}
use Rattle.curve.specs.declared.Piece.{Piece}
use Rattle.curve.specs.Curves.{in_parts}
use Rattle.tree.specs.declared.Tree.{Tree}
use Rattle.tree.specs.Trees.{parent_of, share_of, is_child}
use Rattle.rules.specs.Calls.{Call, came, left, idle}
use Rattle.rules.specs.Over.{any_of, largest_of, smallest_of}
use Rattle.rules.specs.Classes.{sent, active, turns_active, turns_passive}

-- a / b, rounded up
unfoldable pub rounded_up : ℕ → ℕ → ℕ
rounded_up a b = (a + (b - 1)) / b

-- "Its virtual time is the least whole v, not before its latest start, at which every fair piece of its history is at least 65,536·w": a fair piece
-- reaches 65,536·w at its start + 65,536·(w − w then) / share, rounded up, and the last of them to do so decides. A class that never started has 0.
-- (`VirtualTimeLeast` of specs/Sentences says that this is the least.)
unfoldable pub virtual_time : ℕ → List Piece → ℕ → ℕ
virtual_time share [] w = 0
virtual_time share (p ∷ ps) w = max (p.start + rounded_up (in_parts (w - p.sent)) share) (virtual_time share ps w)

-- the children of i's parent that are active, without i itself
unfoldable pub is_other : Tree → List Call → ℕ → ℕ → Bool
is_other tree cs i k = is_child tree (parent_of tree i) k && (active tree cs k && not (k == i))

-- What the children's virtual times give the mark when class i turns active, with `now` for the children's virtual times and `last` for those that they had when
-- they last turned passive:
--   "with other children active, the smallest plus the largest of their virtual times, halved and rounded down"
--   "with none active, the largest virtual time that any child had when it last turned passive, or 0"
unfoldable pub mark_by_children : Tree → List Call → (now last : ℕ → ℕ) → ℕ → ℕ
mark_by_children tree cs now last i =
    cond
    (any_of tree.count (is_other tree cs i))
    ((smallest_of tree.count (is_other tree cs i) now + largest_of tree.count (is_other tree cs i) now) / 2)
    (largest_of tree.count (is_child tree (parent_of tree i)) last)

unfoldable mutual
  -- "When a child turns active, its parent's mark becomes the larger of its old mark (0 at first) and" what the children's virtual times give. One
  -- arrival turns at most one child of a class active, so that the levels do not disturb one another, and the largest over the children that turn active
  -- is that child's (`MarkBecomes` of specs/Sentences).
  pub mark : Tree → List Call → ℕ → ℕ
  mark tree [] p = 0
  mark tree (came at j n ∷ cs) p =
      max
      (mark tree cs p)
      (largest_of
      tree.count
      (λ i. is_child tree p i && turns_active tree cs j i)
      (mark_by_children tree cs (λ k. virtual_time (share_of tree k) (fair_pieces tree cs k) (sent tree cs k)) (λ k. virtual_when_passive tree cs k)))
  mark tree (left at j r ∷ cs) p = mark tree cs p
  mark tree (idle at ∷ cs) p = mark tree cs p

  -- "The child starts at that mark, with a fair piece: 65,536·w then, plus share·(v − mark)": the pieces (mark, w), the newest first
  -- (`StartsAtMark` of specs/Sentences says that the start is the parent's new mark)
  pub fair_pieces : Tree → List Call → ℕ → List Piece
  fair_pieces tree [] i = []
  fair_pieces tree (came at j n ∷ cs) i =
      cond
      (turns_active tree cs j i)
      (record {
        start =
            max
            (mark tree cs (parent_of tree i))
            (mark_by_children tree cs (λ k. virtual_time (share_of tree k) (fair_pieces tree cs k) (sent tree cs k)) (λ k. virtual_when_passive tree cs k) i);
        sent = sent tree cs i;
      }
      ∷ fair_pieces tree cs i)
      (fair_pieces tree cs i)
  fair_pieces tree (left at j r ∷ cs) i = fair_pieces tree cs i
  fair_pieces tree (idle at ∷ cs) i = fair_pieces tree cs i

  -- the "virtual time that" a class "had when it last turned passive", or 0. "After a departure the counts and virtual times of the leaf and all above
  -- it are brought up first, then emptied classes turn passive", so that it is the one with that departure's bytes (`WhenPassiveIsVirtual` of specs/Sentences).
  pub virtual_when_passive : Tree → List Call → ℕ → ℕ
  virtual_when_passive tree [] i = 0
  virtual_when_passive tree (came at j n ∷ cs) i = virtual_when_passive tree cs i
  virtual_when_passive tree (left at j r ∷ cs) i =
      cond
      (turns_passive tree (left at j r) cs i)
      (virtual_time (share_of tree i) (fair_pieces tree cs i) (sent tree (left at j r ∷ cs) i))
      (virtual_when_passive tree cs i)
  virtual_when_passive tree (idle at ∷ cs) i = virtual_when_passive tree cs i

-- the virtual time of class i; that of the root, which has no fair piece, is 0
abbrev pub virtual_time_of : Tree → List Call → ℕ → ℕ
virtual_time_of tree cs i = virtual_time (share_of tree i) (fair_pieces tree cs i) (sent tree cs i)
