-- What the writer has written ends within its buffer.
-- Assumes nothing.
use Prim.Native.Nat.{ℕ, ◌≤◌}
use mathlib.Core.Path.{◌≡◌, ap}
use mathlib.Core.List.{List}
use native.Mathlib.Omega.{arith}
use lib.ListN.{length, drop, length-append}
use Rattle.tree.specs.declared.Tree.{Tree}
use Rattle.tree.specs.Verdicts.{Verdict}
use Rattle.file.specs.declared.Order.TheVariants.{Big}
use Rattle.std.specs.Prelude.{Ok, Err}
use Rattle.file.specs.Writing.{Written, total_bytes, file_of, written_by, buffer_by, Writes}
use Rattle.file.proofs.WriteLaws.Bodies.{file_length}
use Rattle.print.specs.Promises.{Within}
use Rattle.print.proofs.Stores.{ends_within}

pub written_within : {tree : Tree} {old new : List ℕ} {answer : Written} {n : ℕ} → Writes tree old answer new → answer ≡ Ok n → Within n new
written_within {tree} {old} {new} {answer} {n} writes is = ends_within n new (by writes.verdict writes.answered writes.buffer)
  where
    by : (v : Verdict) → answer ≡ written_by tree v → new ≡ buffer_by tree old v → n ≤ length new
    by (Ok _) answered buffer =
        let count : n ≡ total_bytes tree = cc in
        omega (arith, count, ap length buffer, length-append (file_of tree) (drop (total_bytes tree) old), file_length tree Big)
    by (Err fault) answered buffer = absurd (let z : ◌≡◌ {A = ℕ} 0 1 = cc in omega arith)
