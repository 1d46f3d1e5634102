-- A right tree's file, in either order, reads back as that tree: the file spells the tree, so each check of reading finds what the tree's rules ask.
-- Assumes nothing.
use Prim.Native.Nat.{ℕ, zero, suc, ◌+◌, ◌<◌}
use mathlib.Core.Path.{◌≡◌, refl, sym, ap, ap₂, subst, ◌∙◌}
use mathlib.Core.List.{List}
use mathlib.Core.Logic.{◌⊎◌, inl, inr}
use native.Mathlib.Omega.{arith}
use lib.ListN.{length}
use Rattle.tree.specs.declared.Class.{Class}
use Rattle.tree.specs.declared.Tree.{Tree}
use Rattle.tree.specs.Rules.{RightClass, RightTree}
use Rattle.tree.specs.Rules.Checking.{kept}
use Rattle.tree.proofs.Same.{same_right}
use Rattle.file.specs.declared.Order.{Order}
use Rattle.file.specs.declared.Order.TheVariants.{Big, Little}
use Rattle.file.specs.Format.{mark, word_at, Marked, order_of, count_of, total_of, entry_at, end_of, start_of, kind_of, tree_of, InPlace, SoundBody, HeaderChecks, BodyChecks}
use Rattle.file.specs.Writing.{body_place, total_bytes, file_words, file_in}
use Rattle.file.specs.Theorems.{ReadsBack, FileReadsBack}
use Rattle.file.proofs.WriteLaws.Bodies.{place_first, places_rise, contents_within, file_length}
use Rattle.file.proofs.WriteLaws.Spelled.{Spells, spells_bytes, bytes_of_lem, marked_order}
use Rattle.file.proofs.WriteLaws.Said.{file_small, mark_said, version_said, count_said, total_said, offset_said, length_said, class_said, right_kind_lem, tree_said_lem}

module _ (order : Order) (file : List ℕ) (tree : Tree) (right : RightTree tree) (ordered : order_of file ≡ order) (spelled : Spells order file 0 (file_words tree))
    (long : length file ≡ total_bytes tree) where
  count : count_of file ≡ tree.count
  count = count_said order file tree ordered spelled

  total : total_of file ≡ total_bytes tree
  total = total_said order file tree ordered spelled

  inside : (i : ℕ) → i < count_of file → i < tree.count
  inside i h = subst (λ (n : ℕ). i < n) count h

  marked : (o : Order) → word_at o file 0 ≡ mark → Marked Big file ⊎ Marked Little file
  marked Big e = inl (record { first = e })
  marked Little e = inr (record { first = e })

  end : (i : ℕ) → i < tree.count → end_of file i ≡ body_place tree (suc i)
  unfolding body_place
  end i h = ap₂ ◌+◌ (offset_said order file tree ordered spelled i h) (length_said order file tree ordered spelled i h)

  start : (i : ℕ) → i < tree.count → body_place tree i ≡ start_of file i
  unfolding start_of
  start zero h = place_first tree ∙ ap entry_at (sym count)
  start (suc i) h = sym (end i (omega arith))

  in_place : (i : ℕ) → i < count_of file → InPlace file i
  in_place i h =
      let here = inside i h in
      record {
        start = offset_said order file tree ordered spelled i here ∙ start i here;
        long = record { kind = kind_of file i; right = right_kind_lem order file tree ordered spelled i here };
        within = omega (arith, total, end i here, places_rise tree (suc i) tree.count here);
        last = λ e. end i here ∙ ap (body_place tree) (omega (arith, count)) ∙ sym total;
      }

  sound : (i : ℕ) → i < count_of file → SoundBody file i
  sound i h =
      let here = inside i h in
      record {
        kind = right_kind_lem order file tree ordered spelled i here;
        class = subst (λ (k : Class). RightClass k i) (sym (class_said order file tree ordered spelled i here)) (right.shape.bodies i here);
      }

  -- a file that spells a right tree, and nothing more, reads as that tree
  pub spelled_reads : ReadsBack file tree
  unfolding HeaderChecks BodyChecks tree_of
  spelled_reads =
      let same = tree_said_lem order file tree ordered spelled in
      let again = same_right tree (tree_of file) same right in
      record {
        read = tree_of file;
        reads = record {
          judged =
              kept (omega (arith, contents_within tree))
              (kept (marked order (mark_said order file tree ordered spelled))
              (kept (version_said order file tree ordered spelled)
              (kept again.shape.count
              (kept (record { total = total ∙ sym long; contents = omega (arith, contents_within tree) })
              (kept in_place
              (kept sound
              (kept again.shape.depths
              (kept again.shape.places
              (kept again.fit
              refl)))))))));
          given = refl;
        };
        same = same;
      }

-- the file of a tree that keeps the rules reads back as the same tree, in either order
pub reads_back : FileReadsBack
unfolding file_in file_words
reads_back order tree right =
    let spelled = spells_bytes order (file_words tree) (file_small tree right) in
    let ordered = marked_order order (file_in order tree) (bytes_of_lem order (file_words tree)) spelled.0 in
    spelled_reads order (file_in order tree) tree right ordered spelled (file_length tree order)
