-- Writing has one answer and leaves one content of the buffer: the checks give one verdict, and both follow from it.
-- Assumes nothing.
use Prim.Native.Nat.{ℕ}
use mathlib.Core.Path.{◌≡◌, sym, ap, ◌∙◌}
use mathlib.Core.List.{List}
use lib.ListN.{length}
use Rattle.tree.specs.declared.Tree.{Tree}
use Rattle.tree.proofs.Rule.{AtMostOne, rule_one, whole_one, whole_none}
use Rattle.tree.proofs.Verdicts.{checked_one}
use Rattle.file.specs.Writing.{Written, WriteJudged, written_by, buffer_by, Writes}

judged_one : (tree : Tree) (room : ℕ) → AtMostOne (WriteJudged tree room)
judged_one tree room = checked_one tree _ (rule_one (λ i. whole_none) (λ i j. whole_one) (λ v w p q. p ∙ sym q))

-- two results that the promise of `write` allows are equal
pub write_one : (tree : Tree) (old : List ℕ) (a b : Written) (x y : List ℕ) → Writes tree old a x → Writes tree old b y → (a ≡ b) × (x ≡ y)
write_one tree old a b x y p q =
    let same : p.verdict ≡ q.verdict = judged_one tree (length old) p.verdict q.verdict p.judged q.judged in
    (p.answered ∙ ap (written_by tree) same ∙ sym q.answered, p.buffer ∙ ap (buffer_by tree old) same ∙ sym q.buffer)
