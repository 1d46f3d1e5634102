-- What the reader's private functions tell one another. No public promise cites a definition of this file.
-- Assumes nothing.
use Rattle.std.specs.Prelude.{ℕ, ◌+◌, ◌*◌, ◌≤◌, ◌≡◌, cond, List, length}
use Rattle.tree.specs.Rules.{OfClasses, EveryClass}
use Rattle.tree.specs.Trees.{most_classes, no_class}
use Rattle.tree.specs.declared.Class.{Class}
use Rattle.tree.specs.Verdicts.{Verdict, all_right}
use Rattle.file.specs.Format.{word_at, order_of, count_of, RightTotal, RightLength, HeaderChecks, InPlace, right_kind}
use Rattle.file.specs.Fronts.{Counts}
use Rattle.curve.specs.Codec.{kind_curve}
use Rattle.curve.specs.Curves.{Within}
use Rattle.file.specs.declared.Order.{Order}
use Rattle.file.specs.declared.reader.entries.Entry.{Entry}

-- the header has passed its checks, with so many bytes given, and says this order and this count
pub record Opened (file : List ℕ) (given : ℕ) (order : Order) (count : ℕ) : Type 0 where
  pub own : order ≡ order_of file
  pub counted : count ≡ count_of file
  pub within : Within 2 most_classes count
  pub right : RightTotal file given

-- the entry at a place of the contents: offset and length
unfoldable pub entry_of : List ℕ → Order → ℕ → Entry
entry_of file order place = record { offset = word_at order file place; bytes = word_at order file (place + 4) }

-- a body by its entry: it starts where the one before ended, is as long as a body can be, and ends within the total
pub record Fitting (offset bytes start total : ℕ) : Type 0 where
  pub follows : offset ≡ start
  pub long : RightLength bytes
  pub within : offset + bytes ≤ total

-- the verdict of the header's checks alone
abbrev pub Passed : Verdict → Type 0
Passed v = v ≡ all_right

abbrev pub HeaderJudged : List ℕ → ℕ → Verdict → Type 0
HeaderJudged file given = HeaderChecks file given Passed

-- the verdict of the header's checks, whichever the length is of which so many bytes were counted
abbrev pub HeaderCounted : List ℕ → ℕ → Verdict → Type 0
HeaderCounted bytes given v = (long : ℕ) → Counts given long → HeaderJudged bytes long v

-- the verdict of check 6 alone
abbrev pub PlacesJudged : List ℕ → Verdict → Type 0
PlacesJudged file = OfClasses 6 (count_of file) (InPlace file) Passed

abbrev pub AllPlaced : List ℕ → Type 0
AllPlaced file = EveryClass (InPlace file) (count_of file)

-- a body that lies within the file
pub record Lying (file : List ℕ) (offset bytes : ℕ) : Type 0 where
  pub long : RightLength bytes
  pub within : offset + bytes ≤ length file

-- word k of a body with this offset
abbrev pub word_from : Order → List ℕ → ℕ → ℕ → ℕ
word_from order file offset k = word_at order file (offset + 4 * k)

-- the class that a body of this offset and length says
unfoldable pub class_from : Order → List ℕ → ℕ → ℕ → Class
class_from order file offset bytes =
    cond (right_kind (word_from order file offset 2) bytes)
    (record {
      parent = word_from order file offset 0;
      share = word_from order file offset 1;
      curve =
          kind_curve (word_from order file offset 2)
          (word_from order file offset 3) (word_from order file offset 4) (word_from order file offset 5);
    })
    no_class
