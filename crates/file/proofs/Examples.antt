-- "The smallest straight tree in full, as words": its file has those words, and in either order they read as that tree.
-- Assumes nothing.
use Prim.Native.Nat.{ℕ, zero, suc, ◌<◌}
use mathlib.Core.Path.{◌≡◌, refl, sym, subst}
use mathlib.Core.List.{List}
use native.Mathlib.Omega.{arith}
use lib.Dec.{lit≤, lit<}
use Rattle.curve.specs.Fit.{sum_of}
use Rattle.curve.specs.declared.Curve.TheVariants.{Straight}
use Rattle.curve.proofs.Laws.Limits.{straight_right}
use Rattle.tree.specs.Verdicts.{all_right}
use Rattle.tree.specs.Trees.{class_at, curves_of, curves_from, curve_below, SameTree}
use Rattle.tree.specs.Rules.{RightTree}
use Rattle.tree.proofs.Same.{same_right}
use Rattle.file.specs.declared.Order.{Order}
use Rattle.file.specs.declared.Order.TheVariants.{Big, Little}
use Rattle.file.specs.Format.{body_bytes, word_at, order_of, offset_of, length_of, body_class, right_kind, file_class, first_classes, tree_of, ReadsAs}
use Rattle.curve.specs.Codec.{kind_curve}
use Rattle.file.specs.Writing.{word_bytes, bytes_of, curve_bytes, body_words, body_place, numbered, file_words, file_in}
use Rattle.file.specs.Smallest.{smallest_tree}
use Rattle.file.specs.Theorems.{SmallestFile, SmallestReads}
use Rattle.file.proofs.RoundTrip.{reads_back}
use Rattle.file.proofs.WriteLaws.Stars.{star, star_right}

pub smallest_words_lem : SmallestFile
unfolding file_words numbered body_words body_place curve_bytes body_bytes class_at smallest_tree
smallest_words_lem = refl

-- it is a star of one leaf
star_class : (i : ℕ) → i < 2 → class_at (star 1 (Straight 65536)) i ≡ class_at smallest_tree i
unfolding class_at smallest_tree
star_class zero h = refl
star_class (suc zero) h = refl
star_class (suc (suc i)) h = absurd (omega arith)

star_smallest : SameTree (star 1 (Straight 65536)) smallest_tree
unfolding smallest_tree
star_smallest = record { counts = refl; classes = star_class }

smallest_right : RightTree smallest_tree
unfolding sum_of curves_of curves_from curve_below class_at
smallest_right =
    same_right (star 1 (Straight 65536)) smallest_tree star_smallest
    (star_right 1 (Straight 65536) (lit< tt) (lit< tt) (straight_right 65536 (record { above = lit≤ tt; below = lit≤ tt })) (lit≤ tt))

says : (order : Order) → tree_of (file_in order smallest_tree) ≡ smallest_tree
unfolding file_in file_words numbered body_words body_place curve_bytes class_at smallest_tree bytes_of word_bytes tree_of first_classes file_class right_kind body_class body_bytes kind_curve offset_of length_of order_of word_at
says Big = refl
says Little = refl

pub smallest_reads : SmallestReads
unfolding file_in
smallest_reads order =
    let file = file_in order smallest_tree in
    let reads : ReadsAs file all_right smallest_tree = record { judged = (reads_back order smallest_tree smallest_right).reads.judged; given = sym (says order) } in
    subst (λ (ws : List ℕ). ReadsAs (bytes_of order ws) all_right smallest_tree) smallest_words_lem reads
