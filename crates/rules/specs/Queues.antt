-- Document 01, "One departure": "Packets leave a leaf in the order they came"; and the packets' numbers within their leaf.
-- Assumes nothing.
use Rattle.std.specs.Prelude.{ℕ, ◌+◌, Bool, true, false, cond, List, [], ◌∷◌, ◌++◌, ◌==◌}
use Rattle.rules.specs.Limits.{weigh}
use Rattle.rules.specs.Calls.{Call, came, left, idle}

abbrev pub head_of : List ℕ → ℕ
head_of [] = 0
head_of (n ∷ ns) = n

abbrev pub tail_of : List ℕ → List ℕ
tail_of [] = []
tail_of (n ∷ ns) = ns

-- the lengths of the packets that wait in leaf j, oldest first
unfoldable pub queue : List Call → ℕ → List ℕ
queue [] j = []
queue (came at k n ∷ cs) j = cond (k == j) (queue cs j ++ n ∷ []) (queue cs j)
queue (left at k r ∷ cs) j = cond (k == j) (tail_of (queue cs j)) (queue cs j)
queue (idle at ∷ cs) j = queue cs j

abbrev pub is_nonempty : List ℕ → Bool
is_nonempty [] = false
is_nonempty (n ∷ ns) = true

-- "a packet waits in it"
abbrev pub waits : List Call → ℕ → Bool
waits cs j = is_nonempty (queue cs j)

-- n, "the head packet's length"
abbrev pub head_length : List Call → ℕ → ℕ
head_length cs j = head_of (queue cs j)

-- "its number within the leaf from 0": of the next packet that is accepted into leaf j, which is how many were accepted before
unfoldable pub next_number : List Call → ℕ → ℕ
next_number [] j = 0
next_number (came at k n ∷ cs) j = cond (k == j) (next_number cs j + 1) (next_number cs j)
next_number (left at k r ∷ cs) j = next_number cs j
next_number (idle at ∷ cs) j = next_number cs j

-- and of the head packet of leaf j, which is how many left it before (`Numbers` of specs/Sentences: those that wait are numbered from there on)
unfoldable pub head_number : List Call → ℕ → ℕ
head_number [] j = 0
head_number (came at k n ∷ cs) j = head_number cs j
head_number (left at k r ∷ cs) j = cond (k == j) (head_number cs j + 1) (head_number cs j)
head_number (idle at ∷ cs) j = head_number cs j

-- the bytes accepted, where a packet of length n counts for `weight n`
unfoldable pub accepted_in : (weight : ℕ → ℕ) → List Call → ℕ
accepted_in weight [] = 0
accepted_in weight (came at k n ∷ cs) = accepted_in weight cs + weight n
accepted_in weight (left at k r ∷ cs) = accepted_in weight cs
accepted_in weight (idle at ∷ cs) = accepted_in weight cs

-- "total bytes accepted"
abbrev pub accepted : List Call → ℕ
accepted cs = accepted_in weigh cs
