-- The pieces of a leaf: in order, none after the clock, none with more bytes than were sent; and a leaf in which a packet waits has one.
-- Assumes nothing.
use Rattle.std.proofs.Common.{◌≡◌, ℕ, ◌+◌, ◌≤◌, true, ◌&&◌, eqb, List, [], ◌∷◌, sym, refl, ap, ◌∙◌, le_trans, arith}
use borrow.Author.Tests.{eqb-false}
use Rattle.curve.specs.Curves.{latest_bend, in_parts}
use Rattle.curve.specs.Pieces.{latest}
use Rattle.curve.specs.Keeping.{latest_sent, Orderly}
use Rattle.curve.specs.declared.Piece.{Piece}
use Rattle.curve.proofs.Laws.Lists.{orderly_none, orderly_more}
use Rattle.curve.proofs.Laws.Leaf.{eligible_deadline}
use Rattle.curve.proofs.Laws.Times.{deadline_most}
use Rattle.tree.specs.declared.Tree.{Tree}
use Rattle.tree.specs.Trees.{curve_of}
use Rattle.rules.specs.Limits.{last_tick, most_bytes_accepted, weigh}
use Rattle.rules.specs.Calls.{Call, came, left, idle}
use Rattle.rules.specs.Clock.{clock}
use Rattle.rules.specs.Queues.{queue, is_nonempty, waits, head_length}
use Rattle.rules.specs.Leaves.{is_real_time, sent_real_time_in, sent_real_time, pieces, EligibleOf, DeadlineOf}
use Rattle.rules.specs.Choice.{has_curve}
use Rattle.rules.specs.Lawful.{Grown, LawfulCalls}
use Rattle.rules.proofs.Tests.{never, by_cond}
use Rattle.rules.proofs.Allowed.{allowed_timely}
use Rattle.rules.proofs.Queues.{queue_came_other, waits_left_before, waits_leaf}
use Rattle.rules.proofs.Trees.{leaf_class, curve_rising}
use Rattle.rules.proofs.Sent.{clock_most, accepted_most, due_below_accepted}

-- pieces in order, with nothing after `now` and no more than `c` bytes before the latest
pub record InOrder (ps : List Piece) (now c : ℕ) : Type 0 where
  pub order : Orderly ps
  pub latest : latest ps ≤ now
  pub sent : latest_sent ps ≤ c

pub in_order_later : {ps : List Piece} {now c : ℕ} (then d : ℕ) → now ≤ then → c ≤ d → InOrder ps now c → InOrder ps then d
in_order_later then d l m h = record { order = h.order; latest = le_trans h.latest l; sent = le_trans h.sent m }

pub in_order_none : (now c : ℕ) → InOrder [] now c
in_order_none now c = record { order = orderly_none; latest = omega arith; sent = omega arith }

pub in_order_new : (ps : List Piece) (now c at : ℕ) → now ≤ at → InOrder ps now c → InOrder (record { start = at; sent = c } ∷ ps) at c
in_order_new ps now c at l h = record {
  order = orderly_more (record { start = at; sent = c }) ps (le_trans h.latest l) h.sent h.order;
  latest = omega arith;
  sent = omega arith;
}

-- the bytes sent by the real-time rule never fall
sent_rises : (c : Call) (cs : List Call) (j : ℕ) → sent_real_time cs j ≤ sent_real_time (c ∷ cs) j
unfolding sent_real_time_in
sent_rises (came at k n) cs j = omega arith
sent_rises (left at k r) cs j = by_cond (λ (x : ℕ). sent_real_time cs j ≤ x) (is_real_time r && eqb k j) (λ e. omega arith) (λ e. omega arith)
sent_rises (idle at) cs j = omega arith

pub pieces_in_order : (tree : Tree) (cs : List Call) → LawfulCalls tree cs → (j : ℕ) → InOrder (pieces cs j) (clock cs) (sent_real_time cs j)
unfolding LawfulCalls clock pieces
pieces_in_order tree [] law j = in_order_none _ _
pieces_in_order tree (came at k n ∷ cs) law j =
    let rest = pieces_in_order tree cs law.1 j in
    let old = in_order_later at (sent_real_time (came at k n ∷ cs) j) (allowed_timely law.0).forward (sent_rises (came at k n) cs j) rest in
    by_cond (λ (ps : List Piece). InOrder ps at (sent_real_time (came at k n ∷ cs) j)) (eqb k j)
    (λ e.
    by_cond (λ (ps : List Piece). InOrder ps at (sent_real_time (came at k n ∷ cs) j)) (waits cs j) (λ q. old)
    (λ q. in_order_later at _ (omega arith) (sent_rises (came at k n) cs j) (in_order_new (pieces cs j) (clock cs) (sent_real_time cs j) at (allowed_timely law.0).forward rest)))
    (λ e. old)
pieces_in_order tree (left at k r ∷ cs) law j =
    in_order_later at _ (allowed_timely law.0).forward (sent_rises (left at k r) cs j) (pieces_in_order tree cs law.1 j)
pieces_in_order tree (idle at ∷ cs) law j = in_order_later at _ (allowed_timely law.0).forward (sent_rises (idle at) cs j) (pieces_in_order tree cs law.1 j)

-- where a packet waits there is a piece

abbrev pub HasPiece : List Piece → Type 0
HasPiece [] = ⊥
HasPiece (p ∷ ps) = Unit {0}

pub has_piece : (cs : List Call) (j : ℕ) → waits cs j ≡ true → HasPiece (pieces cs j)
unfolding pieces queue
has_piece [] j w = never w refl
has_piece (came at k n ∷ cs) j w =
    by_cond HasPiece (eqb k j)
    (λ e. by_cond HasPiece (waits cs j) (λ q. has_piece cs j q) (λ q. tt))
    (λ e. has_piece cs j (sym (ap is_nonempty (queue_came_other at k n cs j (eqb-false k j e))) ∙ w))
has_piece (left at k r ∷ cs) j w = has_piece cs j (waits_left_before at k r cs j w)
has_piece (idle at ∷ cs) j w = has_piece cs j w

-- "eligible time" is not after "deadline"
pub eligible_before_deadline : (tree : Tree) (cs : List Call) (j e d : ℕ) → EligibleOf tree cs j e → DeadlineOf tree cs j d → e ≤ d
eligible_before_deadline tree cs j e d eligible deadline = eligible_deadline (omega arith) eligible deadline

-- a deadline is at most 2^56 + 2^40 + 2^20
pub deadline_below : (tree : Tree) → Grown tree → (cs : List Call) → LawfulCalls tree cs → (j d : ℕ) → waits cs j ≡ true
    → has_curve (curve_of tree j) ≡ true → DeadlineOf tree cs j d → d ≤ last_tick + (in_parts most_bytes_accepted + latest_bend)
deadline_below tree grown cs law j d waiting curved deadline =
    let below = leaf_class tree j (waits_leaf tree cs law j waiting) in
    let right = pieces_in_order tree cs law j in
    omega (
      arith,
      deadline_most (curve_of tree j) (curve_rising tree grown j below curved) (pieces cs j) (sent_real_time cs j + weigh (head_length cs j)) (clock cs)
          right.order right.latest deadline,
      clock_most tree cs law,
      due_below_accepted tree grown cs law j waiting,
      accepted_most tree cs law,
    )
