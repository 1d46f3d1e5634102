-- What a file says that spells a right tree: its header, its contents and its bodies are the tree's.
-- Assumes nothing.
use Prim.Native.Nat.{ℕ, zero, suc, ◌+◌, ◌*◌, ◌≤◌, ◌<◌}
use mathlib.Core.Path.{◌≡◌, sym, ap, subst, ◌∙◌}
use mathlib.Core.Bool.{Bool, cond}
use mathlib.Core.List.{List, ◌++◌}
use native.Mathlib.Omega.{arith}
use lib.Dec.{lit<}
use lib.ListN.{length, get_or, length-append}
use Rattle.curve.specs.Curves.{RightCurve}
use Rattle.curve.specs.declared.Curve.{Curve}
use Rattle.curve.specs.declared.Curve.TheVariants.{None, Straight, FrontLoaded, Delayed}
use Rattle.curve.proofs.Laws.Codec.{said_code, kind_known}
use Rattle.curve.proofs.Laws.Limits.{straight_limits, front_limits, delayed_limits}
use Rattle.tree.specs.declared.Class.{Class}
use Rattle.tree.specs.declared.Tree.{Tree}
use Rattle.tree.specs.Trees.{no_class, class_at, curve_of, SameTree}
use Rattle.tree.specs.Rules.{RightClass, RightTree}
use Rattle.file.specs.declared.Order.{Order}
use Rattle.file.specs.Format.{mark, version, word_at, order_of, word_of, version_of, count_of, total_of, entry_at, offset_of, length_of, body_word, kind_of, body_bytes, body_class, file_class, tree_of, RightKind}
use Rattle.file.specs.Writing.{curve_bytes, body_words, body_place, total_bytes, header_words, entry_words, contents_words, bodies_words, file_words}
use Rattle.curve.specs.Codec.{kind_curve, curve_kind, curve_numbers, code_of}
use Rattle.file.proofs.ReadLaws.Judging.{class_at_lem}
use Rattle.file.proofs.ReadLaws.KindTable.{kind_right, curve_room}
use Rattle.file.proofs.WriteLaws.Bodies.{place_most, contents_length, bodies_length, body_length, body_most}
use Rattle.file.proofs.WriteLaws.Spelled.{AllWords, Spells, words_append, words_numbered, spells_left, spells_right, spells_each, spells_word}

-- the numbers of a right curve are words
numbers_small : (S : Curve) → RightCurve S → AllWords (curve_numbers S)
numbers_small None r = tt
numbers_small (Straight m) r = let limits = straight_limits m r in (omega arith, tt)
numbers_small (FrontLoaded m₁ d m₂) r = let limits = front_limits m₁ d m₂ r in (omega arith, (omega arith, (omega arith, tt)))
numbers_small (Delayed d m) r = let limits = delayed_limits d m r in (omega arith, (omega arith, tt))

-- the words of a right class's body
body_small : (class : Class) (i : ℕ) → i < 64 → RightClass class i → AllWords (body_words class)
unfolding RightClass body_words
body_small class zero h r =
    (omega arith, (omega arith, (omega (arith, kind_known class.curve), subst (λ (S : Curve). AllWords (curve_numbers S)) (sym r.curve) tt)))
body_small class (suc i) h r =
    (omega arith, (omega arith, (omega (arith, kind_known class.curve), numbers_small class.curve r.curve)))

-- every field of a right tree's file is a 32-bit word
pub file_small : (tree : Tree) → RightTree tree → AllWords (file_words tree)
unfolding file_words
file_small tree right =
    let most : tree.count ≤ 64 = right.shape.count.below in
    words_append (header_words tree ++ contents_words tree tree.count) (bodies_words tree tree.count)
    (words_append (header_words tree) (contents_words tree tree.count)
    (lit< tt, (lit< tt, (omega arith, (omega (arith, place_most tree tree.count), tt))))
    (words_numbered (entry_words tree) tree.count
    λ i h. (omega (arith, place_most tree i), (omega (arith, body_most (curve_of tree i)), tt))))
    (words_numbered (λ (i : ℕ). body_words (class_at tree i)) tree.count
    λ i h. body_small (class_at tree i) i (omega arith) (right.shape.bodies i h))

module _ (order : Order) (file : List ℕ) (tree : Tree) (ordered : order_of file ≡ order) (spelled : Spells order file 0 (file_words tree)) where
  said : (at : ℕ) → word_of file at ≡ word_at order file at
  said at = ap (λ (o : Order). word_at o file at) ordered

  front : Spells order file 0 (header_words tree ++ contents_words tree tree.count)
  unfolding file_words
  front = spells_left order file 0 (header_words tree ++ contents_words tree tree.count) (bodies_words tree tree.count) spelled

  header : Spells order file 0 (header_words tree)
  header = spells_left order file 0 (header_words tree) (contents_words tree tree.count) front

  pub mark_said : word_at order file 0 ≡ mark
  mark_said = header.0

  pub version_said : version_of file ≡ version
  version_said = said 4 ∙ header.1.0

  pub count_said : count_of file ≡ tree.count
  count_said = said 8 ∙ header.1.1.0

  pub total_said : total_of file ≡ total_bytes tree
  total_said = said 12 ∙ header.1.1.1.0

  module _ (i : ℕ) (here : i < tree.count) where
    entry : Spells order file (entry_at i) (entry_words tree i)
    entry =
        subst (λ (at : ℕ). Spells order file at (entry_words tree i)) (omega (arith, contents_length tree i))
        (spells_each order file 16 (entry_words tree) tree.count
        (spells_right order file 0 (header_words tree) (contents_words tree tree.count) front)
        i here)

    pub offset_said : offset_of file i ≡ body_place tree i
    unfolding offset_of
    offset_said = said (entry_at i) ∙ entry.0

    pub length_said : length_of file i ≡ curve_bytes (curve_of tree i)
    unfolding length_of
    length_said = said (entry_at i + 4) ∙ entry.1.0

    body : Spells order file (body_place tree i) (body_words (class_at tree i))
    unfolding file_words
    body =
        subst (λ (at : ℕ). Spells order file at (body_words (class_at tree i)))
        (omega (arith, length-append (header_words tree) (contents_words tree tree.count), contents_length tree tree.count, bodies_length tree i))
        (spells_each order file (0 + 4 * length (header_words tree ++ contents_words tree tree.count)) (λ (k : ℕ). body_words (class_at tree k)) tree.count
        (spells_right order file 0 (header_words tree ++ contents_words tree tree.count) (bodies_words tree tree.count) spelled)
        i here)

    body_said : (k : ℕ) → k < length (body_words (class_at tree i)) → body_word file i k ≡ get_or (body_words (class_at tree i)) k 0
    body_said k h =
        said (offset_of file i + 4 * k)
        ∙ ap (λ (at : ℕ). word_at order file (at + 4 * k)) offset_said
        ∙ spells_word order file (body_place tree i) (body_words (class_at tree i)) body k h

    pub kind_said : kind_of file i ≡ curve_kind (curve_of tree i)
    unfolding body_words
    kind_said = body_said 2 (omega arith)

    number_at : (j : ℕ) → get_or (body_words (class_at tree i)) (3 + j) 0 ≡ get_or (curve_numbers (curve_of tree i)) j 0
    unfolding body_words
    number_at j =
        let third : 3 + j ≡ suc (suc (suc j)) = omega arith in
        ap (λ (n : ℕ). get_or (body_words (class_at tree i)) n 0) third

    -- the words of the body that its kind has numbers for are the numbers of the class's curve
    number_said : (j : ℕ) → 16 + 4 * j ≤ body_bytes (kind_of file i) → body_word file i (3 + j) ≡ get_or (curve_numbers (curve_of tree i)) j 0
    unfolding curve_bytes
    number_said j room = body_said (3 + j) (omega (arith, ap body_bytes kind_said, body_length (class_at tree i))) ∙ number_at j

    curve_is : kind_curve (kind_of file i) (body_word file i 3) (body_word file i 4) (body_word file i 5) ≡ curve_of tree i
    unfolding code_of
    curve_is =
        let code = code_of (curve_of tree i) in
        curve_room (kind_of file i) (body_word file i 3) (body_word file i 4) (body_word file i 5) code.first code.second code.third
        (number_said 0) (number_said 1) (number_said 2)
        ∙ ap (λ (k : ℕ). kind_curve k code.first code.second code.third) kind_said
        ∙ said_code (curve_of tree i)

    -- a body says its class
    pub class_said : body_class file i ≡ class_at tree i
    unfolding body_class body_words
    class_said = λ e. record {
      parent = body_said 0 (omega arith) e;
      share = body_said 1 (omega arith) e;
      curve = curve_is e;
    }

    pub right_kind_lem : RightKind (kind_of file i) (length_of file i)
    unfolding curve_bytes
    right_kind_lem = record {
      known = subst (λ (k : ℕ). k < 4) (sym kind_said) (kind_known (curve_of tree i));
      long = length_said ∙ ap body_bytes (sym kind_said);
    }

    pub file_class_said : file_class file i ≡ class_at tree i
    unfolding file_class
    file_class_said =
        ap (λ (b : Bool). cond b (body_class file i) no_class) (kind_right (kind_of file i) (length_of file i) right_kind_lem)
        ∙ class_said

  -- the tree that the file says is the tree that it spells
  pub tree_said_lem : SameTree tree (tree_of file)
  unfolding tree_of
  tree_said_lem = record {
    counts = sym count_said;
    classes = λ i h. sym (file_class_said i h) ∙ sym (class_at_lem file i (rw count_said h));
  }
