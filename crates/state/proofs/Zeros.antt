-- A list of zeros.
-- Assumes nothing.
use Prim.Native.Nat.{ℕ}
use mathlib.Core.Logic.{⊎_elim}
use lib.ListN.{replicate, length-replicate, get_or-replicate, get_or-eq_default}
use Rattle.curve.proofs.Laws.Order.{le_or_lt}
use Rattle.state.specs.Planting.{AllZero}

pub zeros : (n : ℕ) → AllZero (replicate n 0) n
zeros n =
    record {
      size = length-replicate n 0;
      zero = λ k. ⊎_elim (λ b. get_or-eq_default (replicate n 0) 0 (rw (length-replicate {A = ℕ} n 0) b)) (λ b. get_or-replicate n k 0 0 b) (le_or_lt n k);
    }
