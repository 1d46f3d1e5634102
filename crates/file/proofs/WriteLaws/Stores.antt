-- Laws on runs of stores: `sets l i vs` is the list l with the elements of vs from place i on.
-- Assumes nothing.
use Prim.Native.Nat.{ℕ, ◌≤◌}
use mathlib.Core.Path.{◌≡◌, ◌∙◌}
use mathlib.Core.List.{List, ◌++◌, append-nil}
use native.Mathlib.Nat.{zero-add}
use native.Mathlib.Omega.{arith}
use lib.ListN.{length, drop}
use lib.Seq.{sets, sets-eq, drop-length}

-- a run from the front leaves what lies beyond it
pub sets_front : (l vs : List ℕ) → length vs ≤ length l → sets l 0 vs ≡ vs ++ drop (length vs) l
sets_front l vs fits = sets-eq vs l 0 (omega arith) ∙ rw zero-add

-- a run as long as the list leaves nothing of it
pub sets_all : (l vs : List ℕ) → length l ≡ length vs → sets l 0 vs ≡ vs
sets_all l vs same = sets_front l vs (omega arith) ∙ rw (← same, drop-length, append-nil)
