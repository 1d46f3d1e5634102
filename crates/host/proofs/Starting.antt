-- What a start promises, of the tree that words say; and what a start with a file's tree shows: the tree's first history where the file is right, that
-- of no classes where it is refused.
-- Assumes nothing.
use Prim.Native.Nat.{ℕ}
use mathlib.Core.Path.{◌≡◌, refl, ◌∙◌, ap, subst, subst⁻¹}
use mathlib.Core.List.{List, []}
use Rattle.std.specs.Prelude.{Result, Ok, Err}
use Rattle.std.specs.Result.{result_unwrap_or}
use Rattle.tree.specs.declared.Fault.{Fault}
use Rattle.tree.specs.declared.Tree.{Tree}
use Rattle.tree.specs.Verdicts.{Verdict, all_right}
use Rattle.tree.specs.Rules.{Judged}
use Rattle.tree.specs.Trees.{empty_tree}
use Rattle.tree.proofs.One.{check_one}
use Rattle.tree.proofs.Verdicts.{right_judged}
use Rattle.file.specs.Format.{ReadsAs, verdict_in, tree_in}
use Rattle.file.proofs.ReadLaws.Judging.{file_right}
use Rattle.rules.specs.Calls.{History}
use Rattle.rules.specs.Answers.{started}
use Rattle.state.specs.State.{Shows}
use Rattle.sched.specs.Promises.{StartRight}
use Rattle.host.specs.Numbers.{verdict_number, verdict_class}
use Rattle.host.specs.Promises.{StartFileTold}

pub start_of : {t u : Tree} {stamp : ℕ} {v : Verdict} {m l : List ℕ} → t ≡ u → StartRight t stamp v m l → StartRight u stamp v m l
start_of {stamp = stamp} {v = v} {m = m} {l = l} e = subst (λ (t : Tree). StartRight t stamp v m l) e

-- the tree of a right file is right
pub reads_judged : (file : List ℕ) (tree : Tree) → ReadsAs file all_right tree → Judged tree all_right
reads_judged file tree reads = subst⁻¹ (λ (t : Tree). Judged t all_right) reads.given (right_judged _ (file_right file _ reads.judged))

none_started : (tree : Tree) (stamp : ℕ) (v : Verdict) → tree ≡ empty_tree → started tree stamp v ≡ record { tree = empty_tree; first = stamp; calls = [] }
none_started tree stamp (Ok _) e = ap (λ (t : Tree). record { tree = t; first = stamp; calls = [] }) e
none_started tree stamp (Err fault) e = refl

module _ (file : List ℕ) (tree : Tree) (stamp : ℕ) where
  history_is : (v w : Verdict) → ReadsAs file v tree → Judged tree w → started tree stamp w ≡ started tree stamp v
  history_is (Ok _) w reads judged = ap (started tree stamp) (check_one tree w all_right judged (reads_judged file tree reads))
  history_is (Err fault) w reads judged = none_started tree stamp w reads.given

  pub file_shows : (v w : Verdict) (m l : List ℕ) → ReadsAs file v tree → StartRight tree stamp w m l → Shows m l (started tree stamp v)
  file_shows v w m l reads right =
      subst (λ (h : History). Shows m l h) (right.starts.history ∙ history_is v w reads right.starts.judged) right.shows

-- the tree of what was read, or else that of no classes
tree_read : (reading : Result Tree Fault) → result_unwrap_or reading empty_tree ≡ tree_in reading
tree_read (Ok tree) = refl
tree_read (Err fault) = refl

-- the start from what was read, from what its steps do
pub file_told : {file : List ℕ} (reading : Result Tree Fault) {t none : Tree} {v : Verdict} {stamp said fault : ℕ} {m l : List ℕ}
    → ReadsAs file (verdict_in reading) (tree_in reading) → said ≡ verdict_number (verdict_in reading) → fault ≡ verdict_class (verdict_in reading)
    → none ≡ empty_tree → t ≡ result_unwrap_or reading none → StartRight t stamp v m l → StartFileTold file stamp said fault m l
file_told {file} reading {t} {none} {v} {stamp} {said} {fault} {m} {l} reads number class empty is right = record {
  answer = verdict_in reading;
  tree = tree_in reading;
  reads = reads;
  number = number;
  class = class;
  shows = file_shows file (tree_in reading) stamp (verdict_in reading) v m l reads
      (start_of (is ∙ (ap (result_unwrap_or reading) empty ∙ tree_read reading)) right);
}
