-- Document 01, "What the definitions say", of a leaf: backlog instants, bytes sent by the real-time rule, pieces, deadline and eligible time.
-- Assumes nothing.
use Rattle.std.specs.Prelude.{ℕ, ◌+◌, Bool, true, false, cond, ◌&&◌, List, [], ◌∷◌, ◌==◌}
use Rattle.curve.specs.declared.Piece.{Piece}
use Rattle.curve.specs.Pieces.{Deadline, Eligible}
use Rattle.tree.specs.declared.Tree.{Tree}
use Rattle.tree.specs.Trees.{curve_of}
use Rattle.rules.specs.declared.Rule.{Rule}
use Rattle.rules.specs.declared.Rule.TheVariants.{RealTime, Fair}
use Rattle.rules.specs.Limits.{weigh}
use Rattle.rules.specs.Calls.{Call, came, left, idle}
use Rattle.rules.specs.Queues.{waits, head_length}

-- "by the real-time rule"
abbrev pub is_real_time : Rule → Bool
is_real_time RealTime = true
is_real_time Fair = false

-- the bytes sent from leaf j by the real-time rule, where a packet of length n counts for `weight n`
unfoldable pub sent_real_time_in : (weight : ℕ → ℕ) → List Call → ℕ → ℕ
sent_real_time_in weight [] j = 0
sent_real_time_in weight (came at k n ∷ cs) j = sent_real_time_in weight cs j
sent_real_time_in weight (left at k r ∷ cs) j =
    cond (is_real_time r && k == j) (sent_real_time_in weight cs j + weight (head_length cs j)) (sent_real_time_in weight cs j)
sent_real_time_in weight (idle at ∷ cs) j = sent_real_time_in weight cs j

-- c, "the bytes sent from" leaf j "by the real-time rule"
abbrev pub sent_real_time : List Call → ℕ → ℕ
sent_real_time cs j = sent_real_time_in weigh cs j

-- "A leaf has a backlog instant whenever a packet is accepted while none waits. For leaf i let the instants so far be b1..bm, and ck the bytes
-- sent from i by the real-time rule before instant k": the pieces (bk, ck), the newest first
unfoldable pub pieces : List Call → ℕ → List Piece
pieces [] j = []
pieces (came at k n ∷ cs) j =
    cond (k == j) (cond (waits cs j) (pieces cs j) (record { start = at; sent = sent_real_time cs j } ∷ pieces cs j)) (pieces cs j)
pieces (left at k r ∷ cs) j = pieces cs j
pieces (idle at ∷ cs) j = pieces cs j

-- "Deadline: the least whole t, not before bm, at which every piece is at least 65,536·(c + n)", and for n what the packet counts for (document 02, request 2)
abbrev pub DeadlineOf : Tree → List Call → ℕ → ℕ → Type 0
DeadlineOf tree cs j t = Deadline (curve_of tree j) (pieces cs j) (sent_real_time cs j + weigh (head_length cs j)) t

-- "Eligible time, straight or front-loaded: the least whole t, not before bm, at which every piece is at least 65,536·c"
-- "Eligible time, delayed: the same with each piece taken at t + d"
abbrev pub EligibleOf : Tree → List Call → ℕ → ℕ → Type 0
EligibleOf tree cs j t = Eligible (curve_of tree j) (pieces cs j) (sent_real_time cs j) t
