-- Reading names one answer: two readings that its promise allows of one file are equal.
-- Assumes nothing.
use Prim.Native.Nat.{ℕ}
use mathlib.Core.Path.{◌≡◌, refl, ◌∙◌, sym, ap, ap₂}
use mathlib.Core.List.{List}
use Rattle.std.specs.Prelude.{Result, Ok, Err}
use lib.ListN.{length}
use Rattle.tree.proofs.Rule.{AtMostOne, rule_one, lowest_one, lowest_none, whole_one, whole_none}
use Rattle.file.specs.Format.{HeaderChecks, BodyChecks, FileJudged, tree_of, tree_by, ReadsAs, verdict_in, tree_in}
use Rattle.file.specs.Fronts.{AtHand, EveryFile}
use Rattle.tree.specs.declared.Fault.{Fault}
use Rattle.tree.specs.declared.Tree.{Tree}
use Rattle.tree.specs.Verdicts.{Verdict}
use Rattle.file.proofs.ReadLaws.Fronts.{front_some}

-- one verdict
pub verdict_one : (bytes : List ℕ) (given : ℕ) → AtMostOne (FileJudged bytes given)
unfolding HeaderChecks BodyChecks
verdict_one bytes given =
    rule_one (λ i. whole_none) (λ i j. whole_one)
    (rule_one (λ i. whole_none) (λ i j. whole_one)
    (rule_one (λ i. whole_none) (λ i j. whole_one)
    (rule_one (λ i. whole_none) (λ i j. whole_one)
    (rule_one (λ i. whole_none) (λ i j. whole_one)
    (rule_one (λ i. lowest_none) (λ i j. lowest_one)
    (rule_one (λ i. lowest_none) (λ i j. lowest_one)
    (rule_one (λ i. lowest_none) (λ i j. lowest_one)
    (rule_one (λ i. lowest_none) (λ i j. lowest_one)
    (rule_one (λ i. whole_none) (λ i j. whole_one)
    (λ v w e f. e ∙ sym f))))))))))

-- and one tree with it
pub reads_one : (file : List ℕ) (v w : Verdict) (t u : Tree) → ReadsAs file v t → ReadsAs file w u → (v ≡ w) × (t ≡ u)
reads_one file v w t u p q =
    let same : v ≡ w = verdict_one file (length file) v w p.judged q.judged in
    (same, p.given ∙ (ap (tree_by (tree_of file)) same ∙ sym q.given))

-- an answer is named by its verdict and its tree
abbrev answer_of : Verdict → Tree → Result Tree Fault
answer_of (Ok _) tree = Ok tree
answer_of (Err fault) tree = Err fault

answer_is : (r : Result Tree Fault) → answer_of (verdict_in r) (tree_in r) ≡ r
answer_is (Ok tree) = refl
answer_is (Err fault) = refl

pub read_one : (file : List ℕ) (r s : Result Tree Fault) → ReadsAs file (verdict_in r) (tree_in r) → ReadsAs file (verdict_in s) (tree_in s) → r ≡ s
read_one file r s p q =
    let same = reads_one file (verdict_in r) (verdict_in s) (tree_in r) (tree_in s) p q in
    sym (answer_is r) ∙ ap₂ answer_of same.0 same.1 ∙ answer_is s

-- so has reading by the bytes at hand: there is a file of which they are
pub read_front_one : (bytes : List ℕ) (given : ℕ) → AtHand bytes given → (r s : Result Tree Fault) → EveryFile bytes given (λ file. ReadsAs file (verdict_in r) (tree_in r))
    → EveryFile bytes given (λ file. ReadsAs file (verdict_in s) (tree_in s)) → r ≡ s
read_front_one bytes given hand r s p q =
    let some = front_some bytes given hand in
    read_one some.file r s (p some.file some.front) (q some.file some.front)
