-- The promise allows one answer, and one content of the lent memory.
-- Assumes nothing.
use Prim.Native.Nat.{ℕ, ◌<◌}
use mathlib.Core.Path.{◌≡◌, sym, ap, subst, ◌∙◌}
use mathlib.Core.List.{List}
use Rattle.tree.specs.declared.Tree.{Tree}
use Rattle.tree.specs.Verdicts.{all_right}
use Rattle.file.proofs.ReadOne.{reads_one}
use Rattle.rules.specs.Limits.{wheel}
use Rattle.judge.specs.Kinds.{Judgement}
use Rattle.judge.specs.Judging.{LogJudged}
use Rattle.judge.proofs.One.{judge_one, clash, told_of}
use Rattle.judgefile.specs.Promises.{LogJudgedByFile, unread, read, judgement_number, judgement_numbers, JudgeTold}

module _ (file : List ℕ) (first : ℕ) (log : List ℕ) (small : first < wheel) where
  file_judged_one : (v w : Judgement) → LogJudgedByFile file first log v → LogJudgedByFile file first log w → v ≡ w
  file_judged_one v w (unread {tree = t} p) (unread {tree = u} q) = ap told_of (reads_one file _ _ t u p q).0
  file_judged_one v w (unread {tree = t} p) (read {tree = u} q judged) = clash (reads_one file _ all_right t u p q).0
  file_judged_one v w (read {tree = t} p judged) (unread {tree = u} q) = clash (reads_one file _ all_right u t q p).0
  file_judged_one v w (read {tree = t} p judged) (read {tree = u} q judged') =
      judge_one u first log v w small (subst (λ (x : Tree). LogJudged x first log v) (reads_one file all_right all_right t u p q).1 judged) judged'

  pub judge_told_one : (said said' : ℕ) (out out' : List ℕ) → JudgeTold file first log said out → JudgeTold file first log said' out' → (said ≡ said') × (out ≡ out')
  judge_told_one said said' out out' p q =
      let same = file_judged_one p.answer q.answer p.right q.right in
      (p.number ∙ ap judgement_number same ∙ sym q.number, p.written ∙ ap judgement_numbers same ∙ sym q.written)
