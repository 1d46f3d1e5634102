-- A tree as a list of words, in the order of the file's header and bodies: the count, then for each class parent, share, kind and three numbers.
-- Assumes nothing.
use Rattle.std.specs.Prelude.{ℕ, zero, suc, ◌+◌, ◌*◌, cond, List, [], ◌∷◌, ◌++◌, get_or, ltb}
use Rattle.tree.specs.declared.Class.{Class}
use Rattle.tree.specs.declared.Tree.{Tree}
use Rattle.tree.specs.Trees.{no_class}
use Rattle.state.specs.Table.{CLASSES}
use Rattle.curve.specs.Codec.{kinds, kind_curve}

-- the word at a place; 0 past the end
abbrev pub word_at : List ℕ → ℕ → ℕ
word_at words at = get_or words at 0

-- "Body: parent, share, kind, then numbers.": the class whose words stand from a place on, or no class where its kind is unknown.
-- A kind of fewer numbers leaves the last of the three unread.
unfoldable pub class_from : List ℕ → ℕ → Class
class_from words at =
    cond (ltb (word_at words (at + 2)) kinds)
    (record {
      parent = word_at words at;
      share = word_at words (at + 1);
      curve = kind_curve (word_at words (at + 2)) (word_at words (at + 3)) (word_at words (at + 4)) (word_at words (at + 5));
    })
    no_class

-- the first n classes
unfoldable pub first_classes : List ℕ → ℕ → List Class
first_classes words zero = []
first_classes words (suc n) = first_classes words n ++ (class_from words (1 + 6 * n) ∷ [])

-- the tree that the words say. "A tree is its count and the classes numbered below it; nothing else held with it counts."
unfoldable pub tree_said : List ℕ → Tree
tree_said words = record { count = word_at words 0; classes = first_classes words CLASSES }
