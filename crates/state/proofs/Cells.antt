-- Cells of the state's table: what a store makes of each, and that equal cells make equal tables.
-- Assumes nothing.
use Prim.Native.Nat.{ℕ, ◌+◌, ◌*◌, ◌/◌, ◌%◌, ◌<◌}
use mathlib.Core.Path.{◌≡◌, sym, ◌∙◌}
use mathlib.Core.List.{List}
use native.Mathlib.Omega.{arith}
use lib.ListN.{length, length-set}
use lib.Seq.{get_or-set_same, get_or-set_other, ext_get_or}
use Rattle.state.specs.Table.{at, with, CLASSES, COLUMNS, CELLS}

pub length_with : (m : List ℕ) (i f v : ℕ) → length (with m i f v) ≡ length m
unfolding with
length_with m i f v = length-set m (CLASSES * f + i) v

-- the cell that is stored to
pub at_with_same : (m : List ℕ) (i f v : ℕ) → length m ≡ CELLS → i < CLASSES → f < COLUMNS → at (with m i f v) i f ≡ v
unfolding at with
at_with_same m i f v s l k = get_or-set_same m (CLASSES * f + i) v 0 (omega arith)

-- a cell of another class
pub at_with_class : (m : List ℕ) (i f v j g : ℕ) → i < CLASSES → j < CLASSES → (j ≡ i → ⊥) → at (with m i f v) j g ≡ at m j g
unfolding at with
at_with_class m i f v j g l k n = get_or-set_other m (CLASSES * f + i) (CLASSES * g + j) v 0 (λ e. n (omega arith))

-- a cell of another column
pub at_with_column : (m : List ℕ) (i f v j g : ℕ) → i < CLASSES → j < CLASSES → (g ≡ f → ⊥) → at (with m i f v) j g ≡ at m j g
unfolding at with
at_with_column m i f v j g l k n = get_or-set_other m (CLASSES * f + i) (CLASSES * g + j) v 0 (λ e. n (omega arith))

-- equal cells make equal tables
pub cells_equal : (m m' : List ℕ) → length m ≡ CELLS → length m' ≡ CELLS → ((i f : ℕ) → i < CLASSES → f < COLUMNS → at m i f ≡ at m' i f) → m ≡ m'
unfolding at
cells_equal m m' s s' h = ext_get_or 0 m m' (s ∙ sym s') (λ n l. rw (split n) at (h (n % CLASSES) (n / CLASSES) (omega arith) (omega arith)))
  where
    split : (n : ℕ) → CLASSES * (n / CLASSES) + n % CLASSES ≡ n
    split n = omega arith
