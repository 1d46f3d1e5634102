-- The tree that a text is, or the first line of it that is wrong, as docs/FORMS.md sets it down.
-- Assumes nothing.
use Rattle.std.specs.Prelude.{ℕ, ◌+◌, Bool, true, false, cond, ◌||◌, List, [], ◌∷◌, Option, None, Some, Ok, Err, set, ltb, eqb}
use Rattle.wording.specs.Letters.{line_feed}
use Rattle.tree.specs.declared.Class.{Class}
use Rattle.tree.specs.declared.Tree.{Tree}
use Rattle.tree.specs.Trees.{most_classes, empty_tree}
use Rattle.print.specs.declared.Wrong.{Wrong}
use Rattle.print.specs.declared.Wrong.TheVariants as wrong
use Rattle.treetext.specs.declared.Entry.TheVariants.{Head, ClassOf}
use Rattle.treetext.specs.declared.EntryError.TheVariants.{TooLarge, NotAClass}
use Rattle.treetext.specs.declared.Fault.{Fault}
use Rattle.treetext.specs.declared.Draft.{Draft}
use Rattle.treetext.specs.Entries.{Said, entry_of}

-- a byte at the front of the first line
abbrev pub onto : ℕ → List (List ℕ) → List (List ℕ)
onto b [] = (b ∷ []) ∷ []
onto b (line ∷ lines) = (b ∷ line) ∷ lines

-- the lines of a text: "A file ends a line with a line feed; the last line may have none."
unfoldable pub lines_of : List ℕ → List (List ℕ)
lines_of [] = []
lines_of (b ∷ s) = cond (eqb b line_feed) ([] ∷ lines_of s) (onto b (lines_of s))

-- before the first line
abbrev pub blank_draft : Draft
blank_draft = record { lines = 0; headed = false; fault = None; tree = empty_tree }

-- the next line says nothing, or it is wrong
abbrev pub passed : Draft → Draft
passed d = record { lines = d.lines + 1; headed = d.headed; fault = None; tree = d.tree }

abbrev pub faulty : Draft → Wrong → Draft
faulty d why = record { lines = d.lines + 1; headed = d.headed; fault = Some (record { line = d.lines + 1; wrong = why }); tree = d.tree }

-- it is `tree`, which comes once
abbrev pub opened : Draft → Draft
opened d = record { lines = d.lines + 1; headed = true; fault = None; tree = d.tree }

abbrev pub with_head : Draft → Draft
with_head d = cond d.headed (faulty d wrong.NotAClass) (opened d)

-- it is a class more; what is past the most is counted and not kept
abbrev pub with_class : Tree → Class → Tree
with_class t class = record { count = t.count + 1; classes = set t.classes t.count class }

abbrev pub grown : Draft → Class → Draft
grown d class = record { lines = d.lines + 1; headed = true; fault = None; tree = with_class d.tree class }

-- "`tree` comes first", and then "classes in number order from 0"
abbrev pub classed : Draft → ℕ → Class → Draft
classed d number class =
    cond d.headed (cond (eqb number d.tree.count) (grown d class) (faulty d (wrong.NextClass d.tree.count))) (faulty d wrong.TreeFirst)

-- a draft after what the next line says
abbrev pub with_entry : Draft → Said → Draft
with_entry d (Ok None) = passed d
with_entry d (Ok (Some Head)) = with_head d
with_entry d (Ok (Some (ClassOf number class))) = classed d number class
with_entry d (Err TooLarge) = faulty d wrong.TooLarge
with_entry d (Err NotAClass) = faulty d wrong.NotAClass

-- nothing more is read after a wrong line, nor after a class more than the most
abbrev pub is_faulty : Option Fault → Bool
is_faulty None = false
is_faulty (Some fault) = true

unfoldable pub is_done : Draft → Bool
is_done d = is_faulty d.fault || ltb most_classes d.tree.count

-- a draft after one line more
unfoldable pub with_line : Draft → List ℕ → Draft
with_line d line = cond (is_done d) d (with_entry d (entry_of line))

unfoldable pub with_lines : Draft → List (List ℕ) → Draft
with_lines d [] = d
with_lines d (line ∷ lines) = with_lines (with_line d line) lines

-- the text read to its end
unfoldable pub tree_in : List ℕ → Draft
tree_in text = with_lines blank_draft (lines_of text)
