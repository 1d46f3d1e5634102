-- What writing promises, of the tree that words say; and what a host in C may rely on then: a refusal leaves the buffer as it was, what is written reads
-- back as the tree, and with room for the longest right file no tree is refused for its room.
-- Assumes nothing.
use Prim.Native.Nat.{ℕ, ◌≤◌}
use mathlib.Core.Path.{◌≡◌, refl, sym, ap, subst, ◌∙◌}
use mathlib.Core.List.{List}
use native.Mathlib.Omega.{arith}
use lib.ListN.{length, take}
use Rattle.std.specs.Prelude.{Ok, Err}
use Rattle.tree.specs.declared.Tree.{Tree}
use Rattle.tree.specs.Verdicts.{Verdict}
use Rattle.tree.specs.Rules.{ShapeChecked, RightTree, broken, kept}
use Rattle.file.specs.declared.Order.TheVariants.{Big}
use Rattle.file.specs.Writing.{Written, WriteJudged, written_by, buffer_by, Writes}
use Rattle.file.specs.Theorems.{ReadsBack}
use Rattle.file.specs.Fronts.{most_file_bytes}
use Rattle.file.proofs.Longest.{file_most}
use Rattle.file.proofs.Written.{written_reads_back}
use Rattle.file.proofs.WriteLaws.Bodies.{file_length}
use Rattle.host.specs.Numbers.{verdict_number, written_verdict, written_total}
use Rattle.host.specs.Promises.{WriteToldRefused, WriteToldReadsBack, WriteToldRoom}
use Rattle.host.proofs.Told.{number_some}

pub writes_of : {t u : Tree} {old new : List ℕ} {answer : Written} → t ≡ u → Writes t old answer new → Writes u old answer new
writes_of {old = old} {new = new} {answer = answer} e = subst (λ (t : Tree). Writes t old answer new) e

-- the verdict told is the one that the checks give
told_verdict : (tree : Tree) (v : Verdict) → written_verdict (written_by tree v) ≡ v
told_verdict tree (Ok _) = refl
told_verdict tree (Err fault) = refl

verdict_of : {tree : Tree} {old new : List ℕ} {answer : Written} → (w : Writes tree old answer new) → written_verdict answer ≡ w.verdict
verdict_of {tree} w = ap written_verdict w.answered ∙ told_verdict tree w.verdict

buffer_kept : (tree : Tree) (old : List ℕ) (v : Verdict) → (verdict_number v ≡ 0 → ⊥) → (buffer_by tree old v ≡ old) × (written_total (written_by tree v) ≡ 0)
buffer_kept tree old (Ok _) some = absurd (some refl)
buffer_kept tree old (Err fault) some = (refl, refl)

pub write_told_refused : WriteToldRefused
write_told_refused tree old said total fault new told some =
    let w = told.writes in
    let both = buffer_kept tree old w.verdict (λ none. some (told.number ∙ ap verdict_number (verdict_of w) ∙ none)) in
    (w.buffer ∙ both.0, told.bytes ∙ ap written_total w.answered ∙ both.1)

pub write_told_reads_back : WriteToldReadsBack
write_told_reads_back tree old said total fault new told none = by told.answer told.number told.bytes told.writes
  where
    by : (answer : Written) → said ≡ verdict_number (written_verdict answer) → total ≡ written_total answer → Writes tree old answer new → ReadsBack (take total new) tree
    by (Ok n) number bytes writes = subst (λ (k : ℕ). ReadsBack (take k new) tree) (sym bytes) (written_reads_back tree old n new writes)
    by (Err fault) number bytes writes = absurd (omega (arith, number_some fault.why))

-- a tree that is refused for its room has passed every other check, so its file is longer than the room
small_room : (tree : Tree) (room : ℕ) (v : Verdict) → WriteJudged tree room v → most_file_bytes ≤ room → verdict_number v ≡ 17 → ⊥
unfolding ShapeChecked
small_room tree room v (broken four at) enough is = omega arith
small_room tree room v (kept count (broken seven at)) enough is = omega arith
small_room tree room v (kept count (kept bodies (broken eight at))) enough is = omega arith
small_room tree room v (kept count (kept bodies (kept depths (broken nine at)))) enough is = omega arith
small_room tree room v (kept count (kept bodies (kept depths (kept places (broken ten at))))) enough is = omega arith
small_room tree room v (kept count (kept bodies (kept depths (kept places (kept fit (broken small at)))))) enough is =
    let right : RightTree tree = record { shape = record { count = count; bodies = bodies; depths = depths; places = places }; fit = fit } in
    at.fault (omega (arith, file_most Big tree right, file_length tree Big))
small_room tree room v (kept count (kept bodies (kept depths (kept places (kept fit (kept room-right right)))))) enough is =
    let none : verdict_number v ≡ 0 = ap verdict_number right in
    omega arith

pub write_told_room : WriteToldRoom
write_told_room tree old said total fault new enough told is =
    let w = told.writes in
    small_room tree (length old) w.verdict w.judged enough (sym (ap verdict_number (verdict_of w)) ∙ sym told.number ∙ is)
