-- The longest right file: a root without a curve and 63 classes with the longest bodies. And what longer files are refused with.
-- Assumes nothing.
use Prim.Native.Nat.{ℕ, zero, suc, ◌+◌, ◌*◌, ◌≤◌, ◌<◌}
use mathlib.Core.Path.{◌≡◌, refl, sym, ap, ◌∙◌}
use mathlib.Core.List.{List}
use native.Mathlib.Omega.{arith}
use lib.Dec.{lit≤, lit<}
use lib.ListN.{length}
use Rattle.curve.specs.Fit.{sum_of}
use Rattle.curve.specs.declared.Curve.TheVariants.{FrontLoaded}
use Rattle.curve.proofs.Laws.Limits.{front_right}
use Rattle.tree.specs.declared.Tree.{Tree}
use Rattle.tree.specs.Trees.{class_at, curve_of, curves_of, curves_from, curve_below}
use Rattle.tree.specs.Rules.{RightClass, RightTree, broken, kept}
use Rattle.tree.specs.Numbers.{number_of}
use Rattle.tree.specs.declared.Refusal.{Refusal}
use Rattle.tree.specs.Verdicts.{Verdict, refused}
use Rattle.tree.proofs.Rule.{lowest_one}
use Rattle.file.specs.Format.{order_of, entry_at, body_bytes, tree_of, HeaderChecks, BodyChecks, FileJudged}
use Rattle.file.specs.Writing.{curve_bytes, body_place, total_bytes}
use Rattle.file.specs.Fronts.{most_file_bytes}
use Rattle.file.specs.Theorems.{FileMost, ReadMost, LongRefusal, LongRefused, LongestAttained}
use Rattle.file.proofs.OneFile.{passed, total_is}
use Rattle.file.proofs.ReadLaws.Fronts.{root_fault}
use Rattle.file.proofs.ReadLaws.Judging.{file_right}
use Rattle.file.proofs.WriteLaws.Bodies.{body_most, file_length}
use Rattle.file.proofs.WriteLaws.Stars.{star, star_right}

module _ (tree : Tree) (right : RightTree tree) where
  root_bytes : curve_bytes (curve_of tree 0) ≡ 12
  unfolding RightClass curve_bytes body_bytes
  root_bytes = ap curve_bytes (right.shape.bodies 0 (omega (arith, right.shape.count.above))).curve

  place_within : (i : ℕ) → body_place tree (suc i) ≤ entry_at tree.count + (12 + 24 * i)
  unfolding body_place
  place_within zero = omega (arith, root_bytes)
  place_within (suc i) = omega (arith, place_within i, body_most (curve_of tree (suc i)))

  total_within : (n : ℕ) → n ≡ tree.count → body_place tree n ≤ most_file_bytes
  total_within zero e = absurd (omega (arith, right.shape.count.above))
  total_within (suc i) e = omega (arith, place_within i, right.shape.count.below)

-- no right file is longer
pub file_most : FileMost
file_most order tree right = omega (arith, file_length tree order, total_within tree right tree.count refl)

-- nor is one that reads as a tree: it states the total of that tree's file
pub read_most : ReadMost
read_most file tree reads =
    let right = passed file tree reads in
    let tree-right = file_right file (length file) reads.judged in
    omega (arith, right.total_right.total, total_is (order_of file) file refl right, total_within (tree_of file) tree-right (tree_of file).count refl)

-- what a longer file is refused with
refusal : {why : Refusal} {i : ℕ} (n : ℕ) → number_of why ≡ n → 2 ≤ n → n ≤ 7 → (n ≡ 7 → i ≡ 0) → LongRefusal (refused why i)
refusal {why} {i} n e least most root = record { why = why; class = i; is = refl; least = omega arith; most = omega arith; root = λ z. root (sym e ∙ z) }

long_judged : (file : List ℕ) (v : Verdict) → most_file_bytes < length file → FileJudged file (length file) v → LongRefusal v
unfolding HeaderChecks BodyChecks
long_judged file v long (broken e b) = absurd (b.fault (omega arith))
long_judged file v long (kept a (broken e b)) = refusal 2 e (lit≤ tt) (lit≤ tt) (λ z. absurd (omega arith))
long_judged file v long (kept a (kept b (broken e c))) = refusal 3 e (lit≤ tt) (lit≤ tt) (λ z. absurd (omega arith))
long_judged file v long (kept a (kept b (kept c (broken e d)))) = refusal 4 e (lit≤ tt) (lit≤ tt) (λ z. absurd (omega arith))
long_judged file v long (kept a (kept b (kept c (kept d (broken e f))))) = refusal 5 e (lit≤ tt) (lit≤ tt) (λ z. absurd (omega arith))
long_judged file v long (kept a (kept b (kept c (kept d (kept f (broken e g)))))) = refusal 6 e (lit≤ tt) (lit≤ tt) (λ z. absurd (omega arith))
long_judged file v long (kept a (kept b (kept c (kept count (kept f (kept placed (broken e g))))))) =
    refusal 7 e (lit≤ tt) (lit≤ tt) (λ z. lowest_one g (root_fault file count placed (omega (arith, f.total))))
long_judged file v long (kept a (kept b (kept c (kept count (kept f (kept placed (kept sound rest))))))) =
    let low = root_fault file count placed (omega (arith, f.total)) in
    absurd (low.fault (sound 0 low.class))

pub long_refused : LongRefused
long_refused file verdict tree reads long = long_judged file verdict long reads.judged

-- a root, and 63 leaves with the longest bodies
abbrev longest : Tree
longest = star 63 (FrontLoaded 2 1 1)

longest_right : RightTree longest
unfolding sum_of curves_of curves_from curve_below class_at
longest_right =
    star_right 63 (FrontLoaded 2 1 1) (lit< tt) (lit< tt)
    (front_right 2 1 1 (record { first = record { above = lit≤ tt; below = lit≤ tt }; bend = record { above = lit≤ tt; below = lit≤ tt }; last = record { above = lit≤ tt; below = lit≤ tt }; falls = lit< tt }))
    (lit≤ tt)

longest_total : total_bytes longest ≡ most_file_bytes
unfolding body_place curve_bytes body_bytes class_at
longest_total = refl

-- and it is that long
pub longest_attained : LongestAttained
longest_attained order = record { tree = longest; right = longest_right; long = file_length longest order ∙ longest_total }
