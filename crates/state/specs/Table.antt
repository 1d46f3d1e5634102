-- The state's two arrays: a table of words, in which column f of class i stands at CLASSES·f + i, and the lengths of the packets that wait.
-- Assumes nothing.
use Rattle.std.specs.Prelude.{ℕ, ◌+◌, ◌*◌, ◌%◌, List, get_or, set}
use Rattle.tree.specs.Trees.{most_classes}
use Rattle.rules.specs.Limits.{room}
use Rattle.state.specs.Columns.{HEADER}

-- a row for each class that a tree may have
abbrev pub CLASSES : ℕ
CLASSES = most_classes

-- a column for the header and one for each thing that is kept of a class
abbrev pub COLUMNS : ℕ
COLUMNS = 24

abbrev pub CELLS : ℕ
CELLS = CLASSES * COLUMNS

-- a leaf has this many slots, one for each packet that may wait in it
abbrev pub SLOTS : ℕ
SLOTS = room

abbrev pub PLACES : ℕ
PLACES = CLASSES * SLOTS

-- what column f has for class i
unfoldable pub at : List ℕ → ℕ → ℕ → ℕ
at m i f = get_or m (CLASSES * f + i) 0

-- the table with v there
unfoldable pub with : List ℕ → ℕ → ℕ → ℕ → List ℕ
with m i f v = set m (CLASSES * f + i) v

-- a cell of the header, and the table with v there
abbrev pub header_at : List ℕ → ℕ → ℕ
header_at m cell = at m cell HEADER

abbrev pub with_header : List ℕ → ℕ → ℕ → List ℕ
with_header m cell v = with m cell HEADER v

-- the slot of packet p of class i
abbrev pub slot_of : ℕ → ℕ → ℕ
slot_of i p = SLOTS * i + p % SLOTS
