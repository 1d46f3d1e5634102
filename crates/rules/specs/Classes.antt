-- Document 01, "What the definitions say", of a class and all below it: bytes sent by either rule, and when a class is active.
-- Assumes nothing.
use Rattle.std.specs.Prelude.{ℕ, zero, suc, ◌+◌, Bool, cond, not, ◌&&◌, ◌||◌, List, [], ◌∷◌, ◌==◌}
use Rattle.tree.specs.declared.Tree.{Tree}
use Rattle.tree.specs.Trees.{parent_of}
use Rattle.rules.specs.Limits.{weigh}
use Rattle.rules.specs.Calls.{Call, came, left, idle}
use Rattle.rules.specs.Queues.{waits, head_length}
use Rattle.rules.specs.Over.{any_of}

-- class i is met on the way from class j upward, of at most n steps
unfoldable pub is_met : Tree → ℕ → ℕ → ℕ → Bool
is_met tree zero i j = j == i
is_met tree (suc n) i j = j == i || is_met tree n i (parent_of tree j)

-- "a class and all below it": class j is i or lies below it.
-- "Any other class has a parent of lower number", so that as many steps upward as its own number are enough.
abbrev pub is_within : Tree → ℕ → ℕ → Bool
is_within tree i j = is_met tree j i j

-- the bytes sent from a class and all below it, by either rule, where a packet of length n counts for `weight n`
unfoldable pub sent_in : (weight : ℕ → ℕ) → Tree → List Call → ℕ → ℕ
sent_in weight tree [] i = 0
sent_in weight tree (came at k n ∷ cs) i = sent_in weight tree cs i
sent_in weight tree (left at k r ∷ cs) i =
    cond (is_within tree i k) (sent_in weight tree cs i + weight (head_length cs k)) (sent_in weight tree cs i)
sent_in weight tree (idle at ∷ cs) i = sent_in weight tree cs i

-- w, "the bytes sent from a class and all below it, by either rule"
abbrev pub sent : Tree → List Call → ℕ → ℕ
sent tree cs i = sent_in weigh tree cs i

-- "A leaf is active while a packet waits in it, an interior class while a child is active": a packet waits in the class or below it.
-- (`LeafActive` and `InteriorActive` of specs/Sentences say it in the paper's words.)
unfoldable pub active : Tree → List Call → ℕ → Bool
active tree cs i = any_of tree.count (λ j. is_within tree i j && waits cs j)

-- An arrival into leaf j "turns the leaf active, then its parent if that was passive, and so upward": class i turns active if it is j or above it
-- and was passive. The root is nobody's child, and no mark hangs on it.
abbrev pub turns_active : Tree → List Call → ℕ → ℕ → Bool
turns_active tree cs j i = not (i == 0) && (is_within tree i j && not (active tree cs i))

-- A departure turns class i passive: it was active before the call and is not after it.
abbrev pub turns_passive : Tree → Call → List Call → ℕ → Bool
turns_passive tree c cs i = active tree cs i && not (active tree (c ∷ cs) i)
