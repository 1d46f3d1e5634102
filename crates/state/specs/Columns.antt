-- The columns of the state's table by their numbers, as src/table.rt has them.
-- Assumes nothing.
use Rattle.std.specs.Prelude.{ℕ, ◌^◌, ◌-◌}

-- the header's cells, how many they are, and their column
abbrev pub HEADER : ℕ
HEADER = 0

abbrev pub header_cells : ℕ
header_cells = 4

abbrev pub CLOCK : ℕ
CLOCK = 0

abbrev pub STAMP : ℕ
STAMP = 1

abbrev pub ACCEPTED : ℕ
ACCEPTED = 2

abbrev pub COUNT : ℕ
COUNT = 3

-- the tree: parent, share, the code of the curve, links
abbrev pub PARENT : ℕ
PARENT = 1

abbrev pub SHARE : ℕ
SHARE = 2

abbrev pub KIND : ℕ
KIND = 3

abbrev pub FIRST : ℕ
FIRST = 4

abbrev pub SECOND : ℕ
SECOND = 5

abbrev pub THIRD : ℕ
THIRD = 6

abbrev pub CHILD : ℕ
CHILD = 7

abbrev pub SIBLING : ℕ
SIBLING = 8

-- a leaf: numbers of its packets, bytes by the real-time rule; its kept pieces, and the times of its head
abbrev pub NEXT_NUMBER : ℕ
NEXT_NUMBER = 9

abbrev pub HEAD_NUMBER : ℕ
HEAD_NUMBER = 10

abbrev pub SENT_REAL_TIME : ℕ
SENT_REAL_TIME = 11

abbrev pub STEEP_START : ℕ
STEEP_START = 12

abbrev pub STEEP_SENT : ℕ
STEEP_SENT = 13

abbrev pub FLAT_START : ℕ
FLAT_START = 14

abbrev pub FLAT_SENT : ℕ
FLAT_SENT = 15

abbrev pub ELIGIBLE : ℕ
ELIGIBLE = 16

abbrev pub DEADLINE : ℕ
DEADLINE = 17

-- a class among its parent's children, and as a parent
abbrev pub SENT : ℕ
SENT = 18

abbrev pub FAIR_START : ℕ
FAIR_START = 19

abbrev pub FAIR_SENT : ℕ
FAIR_SENT = 20

abbrev pub VIRTUAL : ℕ
VIRTUAL = 21

abbrev pub MARK : ℕ
MARK = 22

abbrev pub ACTIVE : ℕ
ACTIVE = 23

-- where the columns of a leaf begin, those of its pieces and times, and those of a class among its parent's children
abbrev pub leaf_from : ℕ
leaf_from = NEXT_NUMBER

abbrev pub times_from : ℕ
times_from = STEEP_START

abbrev pub fair_from : ℕ
fair_from = SENT

-- the largest number that a cell holds
abbrev pub LARGEST : ℕ
LARGEST = 2 ^ 64 - 1

-- the eligible time of a leaf that has none: later than any clock
abbrev pub NEVER : ℕ
NEVER = LARGEST
