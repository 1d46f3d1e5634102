-- A departure, counts and virtual times: marks and fair pieces stay, and the kept fair piece gives the virtual time of a class in which the leaf lies.
-- Assumes nothing.
use Prim.Native.Nat.{ℕ, zero, suc, ◌≤◌, ◌<◌}
use native.Mathlib.Omega.{arith}
use mathlib.Core.Path.{◌≡◌, refl, sym, ◌∙◌, ap}
use mathlib.Core.Logic.{⊎_elim}
use mathlib.Core.Bool.{true, not, ◌&&◌}
use mathlib.Core.List.{List, [], ◌∷◌}
use lib.Dec.{eqb}
use borrow.Author.Tests.{ne_eqb}
use Rattle.curve.specs.Answers.{Least}
use Rattle.curve.specs.Curves.{RightRate}
use Rattle.curve.specs.Keeping.{most_start, latest_sent, lowest, Orderly, Stands}
use Rattle.curve.specs.declared.Curve.TheVariants.{Straight}
use Rattle.curve.specs.declared.Piece.{Piece}
use Rattle.curve.proofs.Laws.Answers.{least_one}
use Rattle.curve.proofs.Laws.Kept.{lowest_latest, virtual_kept}
use Rattle.tree.specs.declared.Tree.{Tree}
use Rattle.tree.specs.Trees.{parent_of, share_of}
use Rattle.tree.specs.Rules.{RightTree, RightClass}
use Rattle.rules.specs.declared.Rule.{Rule}
use Rattle.rules.specs.Calls.{Call, came, left, idle}
use Rattle.rules.specs.Queues.{queue, waits}
use Rattle.rules.specs.Classes.{is_within, sent, active, turns_active}
use Rattle.rules.specs.Fair.{mark, fair_pieces, virtual_time, virtual_time_of}
use Rattle.rules.proofs.Allowed.{allowed_admitted}
use Rattle.rules.specs.Lawful.{Grown, LawfulCalls}
use Rattle.rules.proofs.Tests.{never, is_true, and_both, or_either, not_is, by_cond}
use Rattle.rules.proofs.Trees.{leaf_class, a_child}
use Rattle.rules.proofs.Queues.{waits_leaf}
use Rattle.rules.proofs.Active.{active_of, active_which, active_came, active_left, active_idle}
use Rattle.rules.proofs.Sent.{w_most}
use Rattle.rules.proofs.Leaves.{HasPiece}
use Rattle.rules.proofs.Fair.{fair_in_order, start_most}
use Rattle.rules.proofs.Virtual.{virtual_is_least}
use Rattle.state.specs.State.{fair_kept}

-- a departure starts nothing
pub pieces_left : (tree : Tree) (cs : List Call) (t j : ℕ) (r : Rule) (k : ℕ) → fair_pieces tree (left t j r ∷ cs) k ≡ fair_pieces tree cs k
unfolding fair_pieces
pieces_left tree cs t j r k = refl

pub mark_left : (tree : Tree) (cs : List Call) (t j : ℕ) (r : Rule) (k : ℕ) → mark tree (left t j r ∷ cs) k ≡ mark tree cs k
unfolding mark
mark_left tree cs t j r k = refl

-- the root has no fair piece, and its virtual time is 0
pub root_pieces : (tree : Tree) (cs : List Call) → fair_pieces tree cs 0 ≡ []
unfolding fair_pieces
root_pieces tree [] = refl
root_pieces tree (came t j n ∷ cs) = root_pieces tree cs
root_pieces tree (left t j r ∷ cs) = root_pieces tree cs
root_pieces tree (idle t ∷ cs) = root_pieces tree cs

pub root_virtual : (tree : Tree) (cs : List Call) → virtual_time_of tree cs 0 ≡ 0
unfolding virtual_time
root_virtual tree cs = ap (λ (ps : List Piece). virtual_time (share_of tree 0) ps (sent tree cs 0)) (root_pieces tree cs)

-- the kept piece gives the virtual time
pub kept_virtual : (share : ℕ) → RightRate share → (ps : List Piece) → HasPiece ps → Orderly ps → (w v : ℕ) → latest_sent ps ≤ w
    → Least (Stands (Straight share) (lowest share ps) w) v → v ≡ virtual_time share ps w
kept_virtual share rate [] some order w v enough least = absurd some
kept_virtual share rate (p ∷ ps) some order w v enough least =
    least_one (virtual_kept share rate p ps order enough least) (virtual_is_least share (p ∷ ps) w rate.above order)

pub share_right : (tree : Tree) → RightTree tree → (i : ℕ) → 0 < i → i < tree.count → RightRate (share_of tree i)
unfolding RightClass
share_right tree whole zero some below = absurd (omega arith)
share_right tree whole (suc i) some below = (whole.shape.bodies (suc i) below).share

module _ (tree : Tree) (grown : Grown tree) where
  -- an active class other than the root has started
  pub active_started : (cs : List Call) → LawfulCalls tree cs → (i : ℕ) → 0 < i → active tree cs i ≡ true → HasPiece (fair_pieces tree cs i)
  unfolding LawfulCalls fair_pieces queue
  active_started [] law i some a = never (active_which tree [] i a).3 refl
  active_started (came t j n ∷ cs) law i some a =
      by_cond HasPiece (turns_active tree cs j i) (λ e. tt)
      (λ e.
      active_started cs law.1 i some
      (⊎_elim
      (λ (w : is_within tree i j ≡ true).
      is_true (active tree cs i)
      (λ passive.
      never
      (and_both (not (eqb i 0)) (is_within tree i j && not (active tree cs i)) (not_is (eqb i 0) (ne_eqb i 0 (λ z. omega arith)))
      (and_both (is_within tree i j) (not (active tree cs i)) w (not_is (active tree cs i) passive)))
      e))
      (λ (q : active tree cs i ≡ true). q)
      (or_either (is_within tree i j) (active tree cs i) (sym (active_came tree grown cs t j n i (leaf_class tree j (allowed_admitted law.0).leaf)) ∙ a))))
  active_started (left t j r ∷ cs) law i some a = active_started cs law.1 i some (active_left tree grown cs t j r i a)
  active_started (idle t ∷ cs) law i some a = active_started cs law.1 i some (sym (active_idle tree cs t i) ∙ a)

  -- the kept fair piece starts early enough for the curve layer
  pub kept_start_most : (cs : List Call) → LawfulCalls tree cs → (i : ℕ) → 0 < i → i < tree.count → (fair_kept tree cs i).start ≤ most_start
  kept_start_most cs law i some below =
      omega (
        arith,
        lowest_latest (share_of tree i) (fair_pieces tree cs i) (fair_in_order tree grown cs i below).order,
        start_most tree grown cs law (parent_of tree i) i (a_child tree i some below),
        w_most tree grown cs law (parent_of tree i),
      )

  -- the virtual time after the departure, of a class in which the leaf lies
  pub virtual_after : (cs : List Call) → LawfulCalls tree cs → (j : ℕ) → waits cs j ≡ true → (i : ℕ) → 0 < i → i < tree.count → is_within tree i j ≡ true
      → RightRate (share_of tree i) → (t : ℕ) (r : Rule) (v : ℕ)
      → Least (Stands (Straight (share_of tree i)) (fair_kept tree cs i) (sent tree (left t j r ∷ cs) i)) v → v ≡ virtual_time_of tree (left t j r ∷ cs) i
  unfolding fair_pieces
  virtual_after cs law j waiting i some below line rate t r v least =
      let order = fair_in_order tree grown (left t j r ∷ cs) i below in
      kept_virtual (share_of tree i) rate (fair_pieces tree cs i)
      (active_started cs law i some
      (active_of tree cs i j (leaf_class tree j (waits_leaf tree cs law j waiting)) line waiting))
      order.order (sent tree (left t j r ∷ cs) i) v order.sent least
