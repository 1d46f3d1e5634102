-- Document 01, "The class-tree file": its example.
-- Assumes nothing.
use Rattle.std.specs.Prelude.{ℕ, List, [], ◌∷◌, replicate}
use Rattle.curve.specs.declared.Curve.TheVariants.{None, Straight}
use Rattle.tree.specs.Trees.{no_class}
use Rattle.tree.specs.declared.Tree.{Tree}

-- "The smallest straight tree in full, as words"
abbrev pub smallest_words : List ℕ
smallest_words =
    0x01020304 ∷ 0x00000001 ∷ 0x00000002 ∷ 0x0000003C ∷ 0x00000020 ∷ 0x0000000C ∷ 0x0000002C ∷ 0x00000010 ∷ 0x00000000 ∷ 0x00010000 ∷ 0x00000000
    ∷ 0x00000000 ∷ 0x00010000 ∷ 0x00000001 ∷ 0x00010000 ∷ []

-- the tree: a root, and a leaf with a straight curve of the whole link
unfoldable pub smallest_tree : Tree
smallest_tree = record {
  count = 2;
  classes =
      record { parent = 0; share = 65536; curve = None }
      ∷ record { parent = 0; share = 65536; curve = Straight 65536 }
      ∷ replicate 62 no_class;
}
