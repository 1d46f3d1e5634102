-- The class that a body says, by the test of its kind; and a file's classes by those of its entries.
-- Assumes nothing.
use Prim.Native.Nat.{ℕ, zero, suc, ◌+◌, ◌-◌, ◌≤◌, ◌<◌}
use mathlib.Core.Path.{◌≡◌, refl, ◌∙◌, sym, ap}
use mathlib.Core.Bool.{Bool, true, false, cond}
use mathlib.Core.List.{List, [], ◌∷◌, ◌++◌, append_assoc}
use native.Mathlib.Numerals.{add-one}
use lib.ListN.{length, set, replicate, length-append}
use lib.Seq.{set_at}
use native.Mathlib.Omega.{arith}
use Rattle.curve.specs.Codec.{kind_curve}
use Rattle.tree.specs.Trees.{no_class}
use Rattle.tree.specs.declared.Class.{Class}
use Rattle.tree.specs.declared.Tree.{Tree}
use Rattle.file.specs.Format.{order_of, offset_of, length_of, RightLength, right_kind, body_class, file_class, first_classes, count_of, tree_of}
use Rattle.file.specs.Steps.{word_from, class_from}
use Rattle.file.specs.declared.Order.{Order}
use Rattle.file.proofs.ReadLaws.KindTable.{least_bytes}

-- a body holds its parent, share and kind
pub least_length : (bytes : ℕ) → RightLength bytes → 12 ≤ bytes
least_length bytes r = omega (arith, least_bytes r.kind r.right.known)

module _ (order : Order) (file : List ℕ) (offset bytes : ℕ) where
  abbrev pub kind_at : ℕ
  kind_at = word_from order file offset 2

  abbrev said : Class
  said = record {
    parent = word_from order file offset 0;
    share = word_from order file offset 1;
    curve = kind_curve kind_at (word_from order file offset 3) (word_from order file offset 4) (word_from order file offset 5);
  }

  pub class_none : right_kind kind_at bytes ≡ false → class_from order file offset bytes ≡ no_class
  unfolding class_from
  class_none e = ap (λ (b : Bool). cond b said no_class) e

  pub class_some : right_kind kind_at bytes ≡ true → class_from order file offset bytes ≡ said
  unfolding class_from
  class_some e = ap (λ (b : Bool). cond b said no_class) e

-- the class of a file, by its entry
pub class_is : (file : List ℕ) (i : ℕ) → class_from (order_of file) file (offset_of file i) (length_of file i) ≡ file_class file i
unfolding class_from file_class body_class
class_is file i = refl

-- a file's first n classes, and no class above them
abbrev pub filled : List ℕ → ℕ → List Class
filled file n = first_classes file n ++ replicate (64 - n) no_class

pub first_length : (file : List ℕ) (n : ℕ) → length (first_classes file n) ≡ n
unfolding first_classes
first_length file zero = refl
first_length file (suc n) = simp length-append (omega (arith, first_length file n))

first_next : (file : List ℕ) (n : ℕ) → first_classes file (n + 1) ≡ first_classes file n ++ (file_class file n ∷ [])
unfolding first_classes
first_next file n = ap (first_classes file) (add-one n)

pub filled_next : (file : List ℕ) (n : ℕ) → n < 64 → set (filled file n) n (file_class file n) ≡ filled file (n + 1)
filled_next file n h =
    let rest : List Class = replicate (64 - (n + 1)) no_class in
    let room : 64 - n ≡ suc (64 - (n + 1)) = omega arith in
    ap (λ (k : ℕ). set (first_classes file n ++ replicate k no_class) n (file_class file n)) room
    ∙ (set_at (first_classes file n) no_class rest (file_class file n) n (first_length file n)
    ∙ (sym (append_assoc (first_classes file n) (file_class file n ∷ []) rest)
    ∙ ap (λ (l : List Class). l ++ rest) (sym (first_next file n))))

-- the tree of a file
pub tree_is : (file : List ℕ) (tree : Tree) → tree.count ≡ count_of file → tree.classes ≡ filled file (count_of file) → tree ≡ tree_of file
unfolding tree_of
tree_is file tree p q = λ i. record { count = p i; classes = q i }
