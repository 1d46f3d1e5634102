-- A file that reads as a tree is that tree's file in the order of its mark: reading has held each of its words to the tree's.
-- Assumes nothing.
use Prim.Native.Nat.{ℕ, zero, suc, ◌+◌, ◌*◌, ◌≤◌, ◌<◌}
use mathlib.Core.Path.{◌≡◌, refl, sym, ap, ap₂, subst, subst₂, ◌∙◌}
use mathlib.Core.Bool.{Bool, cond}
use mathlib.Core.List.{List, [], ◌∷◌, ◌++◌}
use native.Mathlib.Nat.{le_step, le_refl, le_of_lt}
use native.Mathlib.Omega.{arith}
use lib.ListN.{length, length-append}
use Rattle.tree.specs.declared.Class.{Class}
use Rattle.tree.specs.declared.Tree.{Tree}
use Rattle.tree.specs.Verdicts.{all_right}
use Rattle.tree.specs.Trees.{no_class, class_at, curve_of, SameTree}
use Rattle.file.specs.declared.Order.{Order}
use Rattle.file.specs.Format.{mark, version, word_at, order_of, word_of, version_of, count_of, total_of, entry_at, offset_of, length_of, start_of, body_word, kind_of, body_bytes, body_class, file_class, tree_of, RightKind, RightTotal, InPlace, SoundBody, HeaderChecks, BodyChecks, ReadsAs}
use Rattle.file.specs.Writing.{bytes_of, curve_bytes, body_words, body_place, total_bytes, numbered, header_words, entry_words, contents_words, bodies_words, file_words, file_in}
use Rattle.curve.specs.Codec.{kind_curve, curve_kind, curve_numbers}
use Rattle.curve.proofs.Laws.Codec.{kind_back}
use Rattle.file.specs.Theorems.{OneFile, FilesOne}
use Rattle.file.proofs.ReadLaws.Judging.{class_at_lem}
use Rattle.file.proofs.ReadLaws.KindTable.{kind_right}
use Rattle.file.proofs.WriteLaws.Bodies.{contents_length, bodies_length, file_length}
use Rattle.file.proofs.WriteLaws.Checks.{was_kept}
use Rattle.file.proofs.WriteLaws.Words.{length_bytes_of}
use Rattle.file.proofs.WriteLaws.Spelled.{Spells, bytes_spelled, marked_order, spells_append, spells_all}

-- what reading has checked of a file that it gives a tree
pub record Passed (file : List ℕ) : Type 0 where
  version_right : version_of file ≡ version
  some : 0 < count_of file
  pub total_right : RightTotal file (length file)
  places : (i : ℕ) → i < count_of file → InPlace file i
  bodies : (i : ℕ) → i < count_of file → SoundBody file i

pub passed : (file : List ℕ) (tree : Tree) → ReadsAs file all_right tree → Passed file
unfolding HeaderChecks BodyChecks
passed file tree reads =
    let two = was_kept (was_kept reads.judged).1 in
    let three = was_kept two.1 in
    let four = was_kept three.1 in
    let five = was_kept four.1 in
    let six = was_kept five.1 in
    let seven = was_kept six.1 in
    record { version_right = three.0; some = omega (arith, four.0.above); total_right = five.0; places = six.0; bodies = seven.0 }

module _ (order : Order) (file : List ℕ) where
  numbers_spelled : (at kind x y z : ℕ) → kind < 4 → word_at order file at ≡ x → word_at order file (at + 4) ≡ y → word_at order file (at + 4 + 4) ≡ z
      → Spells order file at (curve_numbers (kind_curve kind x y z))
  unfolding kind_curve
  numbers_spelled at zero x y z h ex ey ez = tt
  numbers_spelled at (suc zero) x y z h ex ey ez = (ex, tt)
  numbers_spelled at (suc (suc zero)) x y z h ex ey ez = (ex, (ey, (ez, tt)))
  numbers_spelled at (suc (suc (suc zero))) x y z h ex ey ez = (ex, (ey, tt))
  numbers_spelled at (suc (suc (suc (suc kind)))) x y z h ex ey ez = absurd (omega arith)

  module _ (ordered : order_of file ≡ order) (right : Passed file) where
    word : (at : ℕ) → word_at order file at ≡ word_of file at
    word at = sym (ap (λ (o : Order). word_at o file at) ordered)

    module _ (i : ℕ) (here : i < count_of file) where
      kind : RightKind (kind_of file i) (length_of file i)
      kind = (right.bodies i here).kind

      class_is : class_at (tree_of file) i ≡ body_class file i
      unfolding file_class
      class_is =
          class_at_lem file i here
          ∙ ap (λ (b : Bool). cond b (body_class file i) no_class) (kind_right (kind_of file i) (length_of file i) kind)

      kind_is : curve_kind (curve_of (tree_of file) i) ≡ kind_of file i
      unfolding body_class
      kind_is =
          ap (λ (k : Class). curve_kind k.curve) class_is
          ∙ kind_back (kind_of file i) (body_word file i 3) (body_word file i 4) (body_word file i 5) kind.known

      length_is : length_of file i ≡ curve_bytes (curve_of (tree_of file) i)
      unfolding curve_bytes
      length_is = kind.long ∙ ap body_bytes (sym kind_is)

      at_word_lem : (m k : ℕ) → m ≡ offset_of file i + 4 * k → word_at order file m ≡ body_word file i k
      at_word_lem m k e = ap (word_at order file) e ∙ word (offset_of file i + 4 * k)

      body_spelled : Spells order file (offset_of file i) (body_words (body_class file i))
      unfolding body_words body_class
      body_spelled =
          let at = offset_of file i in
          let back = kind_back (kind_of file i) (body_word file i 3) (body_word file i 4) (body_word file i 5) kind.known in (
            at_word_lem at 0 (omega arith),
            (
              at_word_lem (at + 4) 1 refl,
              (
                at_word_lem (at + 4 + 4) 2 (omega arith) ∙ sym back,
                numbers_spelled (at + 4 + 4 + 4) (kind_of file i) (body_word file i 3) (body_word file i 4) (body_word file i 5) kind.known
                    (at_word_lem (at + 4 + 4 + 4) 3 (omega arith))
                    (at_word_lem (at + 4 + 4 + 4 + 4) 4 (omega arith))
                    (at_word_lem (at + 4 + 4 + 4 + 4 + 4) 5 (omega arith)),
              ),
            ),
          )

    start_is : (i : ℕ) → i ≤ count_of file → start_of file i ≡ body_place (tree_of file) i
    unfolding start_of body_place tree_of
    start_is zero h = refl
    start_is (suc i) h = ap₂ ◌+◌ ((right.places i h).start ∙ start_is i (omega arith)) (length_is i h)

    offset_is : (i : ℕ) → i < count_of file → offset_of file i ≡ body_place (tree_of file) i
    offset_is i h = (right.places i h).start ∙ start_is i (omega arith)

    last_is : (n : ℕ) → n ≡ count_of file → total_of file ≡ body_place (tree_of file) n
    unfolding start_of
    last_is zero e = absurd (omega (arith, right.some))
    last_is (suc i) e =
        let here : i < count_of file = omega arith in
        sym ((right.places i here).last (omega arith)) ∙ start_is (suc i) here

    pub total_is : total_of file ≡ total_bytes (tree_of file)
    unfolding tree_of
    total_is = last_is (count_of file) refl

    contents_spelled : Spells order file 16 (contents_words (tree_of file) (count_of file))
    unfolding offset_of length_of
    contents_spelled = spells_all order file 16 (entry_words (tree_of file)) (count_of file) λ i h.
        subst (λ (at : ℕ). Spells order file at (entry_words (tree_of file) i))
        (omega (arith, contents_length (tree_of file) i))
        (word (entry_at i) ∙ offset_is i h, (word (entry_at i + 4) ∙ length_is i h, tt))

    bodies_spelled : Spells order file (entry_at (count_of file)) (bodies_words (tree_of file) (count_of file))
    unfolding tree_of
    bodies_spelled = spells_all order file (entry_at (count_of file)) (λ (k : ℕ). body_words (class_at (tree_of file) k)) (count_of file) λ i h.
        subst₂ (λ (at : ℕ) (k : Class). Spells order file at (body_words k))
        (omega (arith, offset_is i h, bodies_length (tree_of file) i))
        (sym (class_is i h))
        (body_spelled i h)

    file_spelled : word_at order file 0 ≡ mark → Spells order file 0 (file_words (tree_of file))
    unfolding file_words tree_of
    file_spelled first =
        spells_append order file 0 (header_words (tree_of file) ++ contents_words (tree_of file) (count_of file)) (bodies_words (tree_of file) (count_of file))
        (spells_append order file 0 (header_words (tree_of file)) (contents_words (tree_of file) (count_of file))
        (first, (word 4 ∙ right.version_right, (word 8, (word 12 ∙ total_is, tt))))
        contents_spelled)
        (subst (λ (at : ℕ). Spells order file at (bodies_words (tree_of file) (count_of file)))
        (omega (arith, length-append (header_words (tree_of file)) (contents_words (tree_of file) (count_of file)), contents_length (tree_of file) (count_of file)))
        bodies_spelled)

-- a file of bytes with the mark in an order that reads as a tree is that tree's file in that order: there is one file
pub one_file : OneFile
unfolding file_in
one_file order file tree bytes marked reads =
    let right = passed file tree reads in
    let ordered = marked_order order file bytes marked.first in
    let spelled = file_spelled order file ordered right marked.first in
    let words = file_words (tree_of file) in
    bytes_spelled order file words bytes (sym right.total_right.total ∙ total_is order file ordered right ∙ sym (file_length (tree_of file) order) ∙ length_bytes_of order words) spelled
    ∙ ap (file_in order) (sym reads.given)

-- trees that are the same have the same file
module _ (t u : Tree) (same : SameTree t u) where
  same_place : (i : ℕ) → i ≤ t.count → body_place t i ≡ body_place u i
  unfolding body_place
  same_place zero h = ap entry_at same.counts
  same_place (suc i) h = ap₂ ◌+◌ (same_place i (omega arith)) (ap (λ (k : Class). curve_bytes k.curve) (same.classes i h))

  same_numbered : (f g : ℕ → List ℕ) (n : ℕ) → ((i : ℕ) → i < n → f i ≡ g i) → numbered f n ≡ numbered g n
  unfolding numbered
  same_numbered f g zero h = refl
  same_numbered f g (suc n) h = ap₂ ◌++◌ (same_numbered f g n (λ i l. h i (le_step l))) (h n (le_refl (suc n)))

  same_words : file_words t ≡ file_words u
  unfolding file_words
  same_words =
      ap₂ ◌++◌
      (ap₂ ◌++◌
      (ap₂ (λ (n k : ℕ). mark ∷ version ∷ n ∷ k ∷ []) same.counts (same_place t.count (le_refl t.count) ∙ ap (body_place u) same.counts))
      (same_numbered (entry_words t) (entry_words u) t.count
      (λ i h. ap₂ (λ (n k : ℕ). n ∷ k ∷ []) (same_place i (le_of_lt h)) (ap (λ (k : Class). curve_bytes k.curve) (same.classes i h)))
      ∙ ap (contents_words u) same.counts))
      (same_numbered (λ (i : ℕ). body_words (class_at t i)) (λ (i : ℕ). body_words (class_at u i)) t.count (λ i h. ap body_words (same.classes i h))
      ∙ ap (bodies_words u) same.counts)

  pub same_file : (order : Order) → file_in order t ≡ file_in order u
  unfolding file_in
  same_file order = ap (bytes_of order) same_words

-- two files of bytes in one order that read as the same tree are one file
pub files_one : FilesOne
files_one order f g t u bf bg mf mg rf rg same = one_file order f t bf mf rf ∙ same_file t u same order ∙ sym (one_file order g u bg mg rg)
