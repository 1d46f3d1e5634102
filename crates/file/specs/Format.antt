-- Document 01, "The class-tree file" and "Numbers of refusal": what a file says, and what it reads as.
-- A file is the list of its bytes. The checks are over the bytes at hand and the number of bytes given, which of a whole file is its length.
-- Assumes nothing.
use Rattle.std.specs.Prelude.{ℕ, zero, suc, ◌+◌, ◌-◌, ◌*◌, ◌≤◌, ◌<◌, ◌≡◌, Bool, true, false, ◌&&◌, cond, List, [], ◌∷◌, ◌++◌, ◌⊎◌, Result, Ok, Err, length, get_or, replicate, ltb, eqb}
use Rattle.curve.specs.Curves.{Within}
use Rattle.curve.specs.Fit.{CurvesFit}
use Rattle.curve.specs.Codec.{kinds, kind_curve}
use Rattle.tree.specs.Rules.{RightClass, RightDepth, RightPlace, OfTree, OfClasses}
use Rattle.tree.specs.Trees.{most_classes, no_class, empty_tree, curves_of}
use Rattle.tree.specs.declared.Class.{Class}
use Rattle.tree.specs.declared.Tree.{Tree}
use Rattle.tree.specs.declared.Fault.{Fault}
use Rattle.tree.specs.Verdicts.{Verdict, all_right}
use Rattle.file.specs.declared.Order.{Order}
use Rattle.file.specs.declared.Order.TheVariants.{Big, Little}

-- the byte at a place; 0 past the end
abbrev pub byte_at : List ℕ → ℕ → ℕ
byte_at file at = get_or file at 0

-- four bytes, the first of them the big end
abbrev pub joined : ℕ → ℕ → ℕ → ℕ → ℕ
joined a b c d = 16777216 * a + (65536 * b + (256 * c + d))

-- "32-bit words": the word at a place, "read big-endian or little-endian"
unfoldable pub word_at : Order → List ℕ → ℕ → ℕ
word_at Big file at = joined (byte_at file at) (byte_at file (at + 1)) (byte_at file (at + 2)) (byte_at file (at + 3))
word_at Little file at = joined (byte_at file (at + 3)) (byte_at file (at + 2)) (byte_at file (at + 1)) (byte_at file at)

-- the mark, "0x01020304"
abbrev pub mark : ℕ
mark = 0x01020304

-- "All fields are 32-bit words in the file's own order, which its first word shows: 0x01020304 read big-endian or little-endian."
pub record Marked (order : Order) (file : List ℕ) : Type 0 where
  pub first : word_at order file 0 ≡ mark

abbrev pub order_if : Bool → Order
order_if true = Big
order_if false = Little

-- the order that the mark shows; a file with the mark in neither order is refused before its order is asked for
unfoldable pub order_of : List ℕ → Order
order_of file = order_if (eqb (word_at Big file 0) mark)

-- the word at a place, in the file's own order
abbrev pub word_of : List ℕ → ℕ → ℕ
word_of file at = word_at (order_of file) file at

-- "Header: mark, version 1, class count, total bytes."
abbrev pub version : ℕ
version = 1

abbrev pub header_bytes : ℕ
header_bytes = 16

abbrev pub version_of : List ℕ → ℕ
version_of file = word_of file 4

abbrev pub count_of : List ℕ → ℕ
count_of file = word_of file 8

abbrev pub total_of : List ℕ → ℕ
total_of file = word_of file 12

-- "Then the contents: for each class, in number order, offset and length of its body."
-- where the entry of class i stands; of the class past the last, the end of the contents
abbrev pub entry_at : ℕ → ℕ
entry_at i = header_bytes + 8 * i

unfoldable pub offset_of : List ℕ → ℕ → ℕ
offset_of file i = word_of file (entry_at i)

unfoldable pub length_of : List ℕ → ℕ → ℕ
length_of file i = word_of file (entry_at i + 4)

-- where the body of class i ends, by its entry: no sum wraps
abbrev pub end_of : List ℕ → ℕ → ℕ
end_of file i = offset_of file i + length_of file i

-- "bodies follow in the same order with no gap": where the body of class i has to start,
-- "where the one before ended (first: the end of the contents)"
unfoldable pub start_of : List ℕ → ℕ → ℕ
start_of file zero = entry_at (count_of file)
start_of file (suc i) = end_of file i

-- "Body: parent, share, kind, then numbers.": word k of the body of class i
abbrev pub body_word : List ℕ → ℕ → ℕ → ℕ
body_word file i k = word_of file (offset_of file i + 4 * k)

abbrev pub kind_of : List ℕ → ℕ → ℕ
kind_of file i = body_word file i 2

-- the table of kinds (its first two columns are `kind_curve` of the curve layer), its first and last columns: "0: 12", "1: 16", "2: 24", "3: 20" body bytes. Another kind has none.
unfoldable pub body_bytes : ℕ → ℕ
body_bytes zero = 12
body_bytes (suc zero) = 16
body_bytes (suc (suc zero)) = 24
body_bytes (suc (suc (suc zero))) = 20
body_bytes (suc (suc (suc (suc kind)))) = 0

-- the meaning of a body: a class with its parent, share and curve
unfoldable pub body_class : List ℕ → ℕ → Class
body_class file i = record {
  parent = body_word file i 0;
  share = body_word file i 1;
  curve = kind_curve (kind_of file i) (body_word file i 3) (body_word file i 4) (body_word file i 5);
}

-- a kind of the table, with a body of its length
pub record RightKind (kind bytes : ℕ) : Type 0 where
  pub known : kind < kinds
  pub long : bytes ≡ body_bytes kind

-- the same as a test
unfoldable pub right_kind : ℕ → ℕ → Bool
right_kind kind bytes = ltb kind kinds && eqb bytes (body_bytes kind)

-- the class that a file gives class i: what its body says, or no class where its kind is unknown or against the length
unfoldable pub file_class : List ℕ → ℕ → Class
file_class file i = cond (right_kind (kind_of file i) (length_of file i)) (body_class file i) no_class

-- the first n classes of a file
unfoldable pub first_classes : List ℕ → ℕ → List Class
first_classes file zero = []
first_classes file (suc n) = first_classes file n ++ (file_class file n ∷ [])

-- the tree that a file says: "A tree is its count and the classes numbered below it"; above them stands no class
unfoldable pub tree_of : List ℕ → Tree
tree_of file = record {
  count = count_of file;
  classes = first_classes file (count_of file) ++ replicate (most_classes - count_of file) no_class;
}

-- 5, "total differs from the bytes given, or contents don't fit in them": what is kept
pub record RightTotal (bytes : List ℕ) (given : ℕ) : Type 0 where
  pub total : total_of bytes ≡ given
  pub contents : entry_at (count_of bytes) ≤ given

-- "its length is not 12, 16, 20 or 24": the lengths of the kinds' bodies
pub record RightLength (bytes : ℕ) : Type 0 where
  pub kind : ℕ
  pub right : RightKind kind bytes

-- 6, "a body's offset is not where the one before ended (first: the end of the contents), its length is not 12, 16, 20 or 24,
-- it passes the total, or the last doesn't end at the total"
pub record InPlace (file : List ℕ) (i : ℕ) : Type 0 where
  pub start : offset_of file i ≡ start_of file i
  pub long : RightLength (length_of file i)
  pub within : end_of file i ≤ total_of file
  pub last : i + 1 ≡ count_of file → end_of file i ≡ total_of file

-- 7, "kind unknown or against the length; parent, share or curve number breaks a rule above"
pub record SoundBody (file : List ℕ) (i : ℕ) : Type 0 where
  pub kind : RightKind (kind_of file i) (length_of file i)
  pub class : RightClass (body_class file i) i

-- "Reading checks 1 to 10 in that order, each over all classes before the next, and names the lowest class at fault
-- (0 for 1 to 5 and 10; the last class for a wrong end)."
unfoldable pub HeaderChecks : List ℕ → ℕ → (Verdict → Type 0) → Verdict → Type 0
HeaderChecks bytes given Next =
    OfTree 1 (header_bytes ≤ given)
    (OfTree 2 (Marked Big bytes ⊎ Marked Little bytes)
    (OfTree 3 (version_of bytes ≡ version)
    (OfTree 4 (Within 2 most_classes (count_of bytes))
    (OfTree 5 (RightTotal bytes given)
    Next))))

-- from 6 on the number of bytes given is the total that the file states
unfoldable pub BodyChecks : List ℕ → (Verdict → Type 0) → Verdict → Type 0
BodyChecks file Next =
    OfClasses 6 (count_of file) (InPlace file)
    (OfClasses 7 (count_of file) (SoundBody file)
    (OfClasses 8 (count_of file) (RightDepth (tree_of file))
    (OfClasses 9 (count_of file) (RightPlace (tree_of file))
    (OfTree 10 (CurvesFit (curves_of (tree_of file)))
    Next))))

abbrev pub FileJudged : List ℕ → ℕ → Verdict → Type 0
FileJudged bytes given = HeaderChecks bytes given (BodyChecks bytes (λ v. v ≡ all_right))

-- the tree that is read with a verdict: the one that was judged, or, "A refusal gives a tree of no classes."
abbrev pub tree_by : Tree → Verdict → Tree
tree_by tree (Ok _) = tree
tree_by tree (Err fault) = empty_tree

-- what a file reads as
pub record ReadsAs (file : List ℕ) (verdict : Verdict) (tree : Tree) : Type 0 where
  pub judged : FileJudged file (length file) verdict
  pub given : tree ≡ tree_by (tree_of file) verdict

-- the verdict and the tree of an answer that is a tree or the fault: "A refusal gives a tree of no classes."
abbrev pub verdict_in : Result Tree Fault → Verdict
verdict_in (Ok tree) = all_right
verdict_in (Err fault) = Err fault

abbrev pub tree_in : Result Tree Fault → Tree
tree_in (Ok tree) = tree
tree_in (Err fault) = empty_tree
