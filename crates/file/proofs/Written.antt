-- What `write` promises, put together with what its file reads as.
-- Assumes nothing.
use Prim.Native.Nat.{ℕ, ◌≤◌}
use mathlib.Core.Path.{◌≡◌, refl, sym, ap, subst, ◌∙◌}
use Rattle.std.specs.Prelude.{Ok, Err}
use mathlib.Core.List.{List, ◌++◌}
use native.Mathlib.Omega.{arith}
use lib.ListN.{length, take, drop}
use lib.Seq.{take_at}
use Rattle.tree.specs.declared.Tree.{Tree}
use Rattle.tree.specs.Verdicts.{Verdict, all_right}
use Rattle.tree.specs.Rules.{RightTree}
use Rattle.tree.specs.Rules.Checking.{kept}
use Rattle.tree.proofs.Verdicts.{passes, passed}
use Rattle.file.specs.declared.Order.TheVariants.{Big}
use Rattle.file.specs.Writing.{Written, total_bytes, file_of, WriteJudged, written_by, buffer_by, Writes}
use Rattle.file.specs.Theorems.{ReadsBack, WrittenReadsBack}
use Rattle.file.proofs.WriteLaws.Bodies.{file_length}
use Rattle.file.proofs.RoundTrip.{reads_back}
use Rattle.file.proofs.WriteOne.{write_one}

-- a right tree with room for its file is written, whole
pub write_right : (tree : Tree) (old : List ℕ) (answer : Written) (new : List ℕ) → RightTree tree → total_bytes tree ≤ length old → Writes tree old answer new
    → (answer ≡ Ok (total_bytes tree)) × (new ≡ file_of tree ++ drop (total_bytes tree) old)
write_right tree old answer new right room writes =
    write_one tree old answer (Ok (total_bytes tree)) new (buffer_by tree old all_right) writes
    (record { verdict = all_right; judged = passes tree _ all_right right (kept room refl); answered = refl; buffer = refl })

-- where bytes are written the tree is right, and the bytes read back as the same tree
pub written_reads_back : WrittenReadsBack
written_reads_back tree old n new writes = by writes.verdict writes.judged writes.answered writes.buffer
  where
    by : (v : Verdict) → WriteJudged tree (length old) v → Ok n ≡ written_by tree v → new ≡ buffer_by tree old v → ReadsBack (take n new) tree
    by (Ok _) judged answered buffer =
        let count : n ≡ total_bytes tree = cc in
        let file : take n new ≡ file_of tree =
        ap (take n) buffer ∙ take_at (file_of tree) (drop (total_bytes tree) old) n (file_length tree Big ∙ sym count) in
        subst (λ (f : List ℕ). ReadsBack f tree) (sym file) (reads_back Big tree (passed tree _ judged).0)
    by (Err fault) judged answered buffer = absurd (let z : ◌≡◌ {A = ℕ} 0 1 = cc in omega arith)
