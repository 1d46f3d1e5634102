-- Document 01, "The class-tree file": the one file of a tree in each order, as a list of bytes; and what writing it answers.
-- Assumes nothing.
use Rattle.std.specs.Prelude.{ℕ, zero, suc, ◌+◌, ◌/◌, ◌%◌, ◌≤◌, ◌≡◌, List, [], ◌∷◌, ◌++◌, length, drop, Result, Ok, Err}
use Rattle.curve.specs.declared.Curve.{Curve}
use Rattle.curve.specs.Codec.{curve_kind, curve_numbers}
use Rattle.tree.specs.declared.Class.{Class}
use Rattle.tree.specs.declared.Tree.{Tree}
use Rattle.tree.specs.declared.Fault.{Fault}
use Rattle.tree.specs.Verdicts.{Verdict, all_right}
use Rattle.tree.specs.Trees.{class_at, curve_of}
use Rattle.tree.specs.Rules.{Checked, OfTree}
use Rattle.file.specs.Format.{mark, version, entry_at, body_bytes}
use Rattle.file.specs.declared.Order.{Order}
use Rattle.file.specs.declared.Order.TheVariants.{Big, Little}

-- "All fields are 32-bit words in the file's own order": a word's four bytes in an order
unfoldable pub word_bytes : Order → ℕ → List ℕ
word_bytes Big n = n / 16777216 % 256 ∷ n / 65536 % 256 ∷ n / 256 % 256 ∷ n % 256 ∷ []
word_bytes Little n = n % 256 ∷ n / 256 % 256 ∷ n / 65536 % 256 ∷ n / 16777216 % 256 ∷ []

-- words, one after another
unfoldable pub bytes_of : Order → List ℕ → List ℕ
bytes_of order [] = []
bytes_of order (w ∷ ws) = word_bytes order w ++ bytes_of order ws

-- "Body: parent, share, kind, then numbers."
unfoldable pub body_words : Class → List ℕ
body_words class = class.parent ∷ class.share ∷ curve_kind class.curve ∷ curve_numbers class.curve

-- the table's last column, by the curve: the "body bytes" of its class
unfoldable pub curve_bytes : Curve → ℕ
curve_bytes S = body_bytes (curve_kind S)

-- where the body of class i goes: "the end of the contents", and after that "bodies follow in the same order with no gap"
unfoldable pub body_place : Tree → ℕ → ℕ
body_place tree zero = entry_at tree.count
body_place tree (suc i) = body_place tree i + curve_bytes (curve_of tree i)

-- "total bytes": the place after the last body
abbrev pub total_bytes : Tree → ℕ
total_bytes tree = body_place tree tree.count

-- "Header: mark, version 1, class count, total bytes."
abbrev pub header_words : Tree → List ℕ
header_words tree = mark ∷ version ∷ tree.count ∷ total_bytes tree ∷ []

-- the words of each class below n, "in number order"
unfoldable pub numbered : (ℕ → List ℕ) → ℕ → List ℕ
numbered words zero = []
numbered words (suc n) = numbered words n ++ words n

-- "Then the contents: for each class, in number order, offset and length of its body."
abbrev pub entry_words : Tree → ℕ → List ℕ
entry_words tree i = body_place tree i ∷ curve_bytes (curve_of tree i) ∷ []

abbrev pub contents_words : Tree → ℕ → List ℕ
contents_words tree n = numbered (entry_words tree) n

-- "bodies follow in the same order with no gap"
abbrev pub bodies_words : Tree → ℕ → List ℕ
bodies_words tree n = numbered (λ (i : ℕ). body_words (class_at tree i)) n

-- header, contents, bodies
unfoldable pub file_words : Tree → List ℕ
file_words tree = header_words tree ++ contents_words tree tree.count ++ bodies_words tree tree.count

-- the file of a tree in an order
unfoldable pub file_in : Order → Tree → List ℕ
file_in order tree = bytes_of order (file_words tree)

-- "The writer always writes big-endian": the file of a tree
abbrev pub file_of : Tree → List ℕ
file_of tree = file_in Big tree

-- "Writing checks 4, 7, 8, 9, 10, 17", and 17 is "writer's buffer too small", "0 for 17": the verdict with `room` bytes to write to
abbrev pub WriteJudged : Tree → ℕ → Verdict → Type 0
WriteJudged tree room = Checked tree (OfTree 17 (total_bytes tree ≤ room) (λ v. v ≡ all_right))

-- what was written: so many bytes, or nothing, since the tree is refused for a class
abbrev pub Written : Type 0
Written = Result ℕ Fault

-- the answer by the verdict
abbrev pub written_by : Tree → Verdict → Written
written_by tree (Ok _) = Ok (total_bytes tree)
written_by tree (Err fault) = Err fault

-- the buffer by the verdict: "it writes the total and no byte beyond, and on refusal none"
abbrev pub buffer_by : Tree → List ℕ → Verdict → List ℕ
buffer_by tree old (Ok _) = file_of tree ++ drop (total_bytes tree) old
buffer_by tree old (Err fault) = old

-- what writing a tree to a buffer answers, and leaves in the buffer
pub record Writes (tree : Tree) (old : List ℕ) (answer : Written) (new : List ℕ) : Type 0 where
  pub verdict : Verdict
  pub judged : WriteJudged tree (length old) verdict
  pub answered : answer ≡ written_by tree verdict
  pub buffer : new ≡ buffer_by tree old verdict
