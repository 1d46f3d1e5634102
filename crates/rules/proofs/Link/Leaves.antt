-- What holds of a leaf over a lawful history: what its head counts for, and that no piece starts after now.
-- Assumes nothing.
use Rattle.std.proofs.Common.{◌≡◌, ℕ, ◌≤◌, true, false, List, [], ◌∷◌, refl, ⊎_elim, le_trans, arith}
use Rattle.curve.specs.Pieces.{latest}
use Rattle.tree.specs.declared.Tree.{Tree}
use Rattle.rules.specs.Limits.{longest, weigh}
use Rattle.rules.specs.Calls.{Call}
use Rattle.rules.specs.Clock.{clock}
use Rattle.rules.specs.Queues.{queue, head_of, is_nonempty, waits, head_length}
use Rattle.rules.specs.Leaves.{pieces}
use Rattle.rules.specs.Lawful.{LawfulCalls}
use Rattle.rules.proofs.Tests.{never, decided}
use Rattle.rules.proofs.Queues.{head_length_lem}
use Rattle.rules.proofs.Sent.{weigh_some, weigh_most}
use Rattle.rules.proofs.Leaves.{pieces_in_order}
use Rattle.rules.specs.Link.{heaviest}

head_of_none : (q : List ℕ) → is_nonempty q ≡ false → head_of q ≤ longest
head_of_none [] e = omega arith
head_of_none (x ∷ q) e = never refl e

module _ (tree : Tree) (cs : List Call) (lawful : LawfulCalls tree cs) (j : ℕ) where
  -- the head counts for at least a byte, and for no more than the longest packet does
  pub head_some : waits cs j ≡ true → 1 ≤ weigh (head_length cs j)
  head_some w = weigh_some (head_length cs j) (head_length_lem tree cs lawful j w).0

  pub head_most : weigh (head_length cs j) ≤ heaviest
  head_most =
      weigh_most
      (head_length cs j)
      (⊎_elim (λ (w : waits cs j ≡ true). (head_length_lem tree cs lawful j w).1) (λ (w : waits cs j ≡ false). head_of_none (queue cs j) w) (decided (waits cs j)))

  -- no piece starts after now, or later
  pub latest_by : {t : ℕ} → clock cs ≤ t → latest (pieces cs j) ≤ t
  latest_by l = le_trans (pieces_in_order tree cs lawful j).latest l
