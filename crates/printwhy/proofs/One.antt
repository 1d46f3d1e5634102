-- The promise of a print allows one result: what the buffer holds afterwards, and where the print ends.
-- Assumes nothing.
use Prim.Native.Nat.{ℕ}
use mathlib.Core.Path.{◌≡◌}
use mathlib.Core.List.{List}
use Rattle.print.proofs.One.{printed_one}
use Rattle.printwhy.specs.Promises.{PrintsSheet}

pub prints_sheet_one : (sheet : List ℕ) (lines : ℕ) (old new new₂ : List ℕ) (end end₂ : ℕ) → PrintsSheet sheet lines old new end → PrintsSheet sheet lines old new₂ end₂
    → (new ≡ new₂) × (end ≡ end₂)
prints_sheet_one sheet lines old new new₂ end end₂ = printed_one
