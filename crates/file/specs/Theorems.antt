-- What is proved of files. Each statement stands here under a name; a comment names the law of proofs/ that proves it.
-- Assumes nothing.
use Rattle.std.specs.Prelude.{ℕ, ◌≤◌, ◌<◌, ◌≡◌, List, [], ◌∷◌, Ok, length, take}
use Rattle.tree.specs.declared.Tree.{Tree}
use Rattle.tree.specs.declared.Refusal.{Refusal}
use Rattle.tree.specs.Verdicts.{Verdict, all_right, refused}
use Rattle.tree.specs.Numbers.{number_of}
use Rattle.tree.specs.Trees.{SameTree}
use Rattle.tree.specs.Rules.{RightTree}
use Rattle.file.specs.declared.Order.{Order}
use Rattle.file.specs.Format.{Marked, ReadsAs}
use Rattle.file.specs.Fronts.{most_file_bytes}
use Rattle.file.specs.Writing.{bytes_of, file_words, file_in, Writes}
use Rattle.file.specs.Smallest.{smallest_words, smallest_tree}

-- a list of bytes: every element is below 256
abbrev pub AllBytes : List ℕ → Type 0
AllBytes [] = Unit {0}
AllBytes (b ∷ bs) = (b < 256) × AllBytes bs

-- a file reads as a tree, which is the same as this one
pub record ReadsBack (file : List ℕ) (tree : Tree) : Type 0 where
  pub read : Tree
  pub reads : ReadsAs file all_right read
  pub same : SameTree tree read

-- the file of a tree that keeps the rules reads back as the same tree, in either order: `reads_back`
abbrev pub FileReadsBack : Type 0
FileReadsBack = (order : Order) (tree : Tree) → RightTree tree → ReadsBack (file_in order tree) tree

-- where bytes are written the tree is right, and the bytes read back as the same tree: `written_reads_back`
abbrev pub WrittenReadsBack : Type 0
WrittenReadsBack = (tree : Tree) (old : List ℕ) (n : ℕ) (new : List ℕ) → Writes tree old (Ok n) new → ReadsBack (take n new) tree

-- a file of bytes with the mark in an order that reads as a tree is that tree's file in that order: `one_file`
abbrev pub OneFile : Type 0
OneFile = (order : Order) (file : List ℕ) (tree : Tree) → AllBytes file → Marked order file → ReadsAs file all_right tree → file ≡ file_in order tree

-- two files of bytes in one order that read as the same tree are one file: `files_one`
abbrev pub FilesOne : Type 0
FilesOne =
    (order : Order) (f g : List ℕ) (t u : Tree) → AllBytes f → AllBytes g → Marked order f → Marked order g → ReadsAs f all_right t → ReadsAs g all_right u → SameTree t u → f ≡ g

-- no right tree's file is longer: `file_most`
abbrev pub FileMost : Type 0
FileMost = (order : Order) (tree : Tree) → RightTree tree → length (file_in order tree) ≤ most_file_bytes

-- no file that reads as a tree is longer: `read_most`
abbrev pub ReadMost : Type 0
ReadMost = (file : List ℕ) (tree : Tree) → ReadsAs file all_right tree → length file ≤ most_file_bytes

-- a refusal that a longer file can have: 2 to 6, or 7 at the root
pub record LongRefusal (verdict : Verdict) : Type 0 where
  pub why : Refusal
  pub class : ℕ
  pub is : verdict ≡ refused why class
  pub least : 2 ≤ number_of why
  pub most : number_of why ≤ 7
  pub root : number_of why ≡ 7 → class ≡ 0

-- a longer file has such a one (document 02, 1: "A longer file is refused as 01 refuses it"): `long_refused`
abbrev pub LongRefused : Type 0
LongRefused = (file : List ℕ) (verdict : Verdict) (tree : Tree) → ReadsAs file verdict tree → most_file_bytes < length file → LongRefusal verdict

-- a right tree whose file is that long
pub record Longest (order : Order) : Type 0 where
  pub tree : Tree
  pub right : RightTree tree
  pub long : length (file_in order tree) ≡ most_file_bytes

-- there is one: `longest_attained`
abbrev pub LongestAttained : Type 0
LongestAttained = (order : Order) → Longest order

-- "The smallest straight tree in full, as words": its file has those words, `smallest_words_lem`
abbrev pub SmallestFile : Type 0
SmallestFile = file_words smallest_tree ≡ smallest_words

-- and those words, as bytes in either order, read as that tree: `smallest_reads`
abbrev pub SmallestReads : Type 0
SmallestReads = (order : Order) → ReadsAs (bytes_of order smallest_words) all_right smallest_tree
