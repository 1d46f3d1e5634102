-- What a start makes of the two arrays, step by step.
-- Assumes nothing.
use Rattle.std.specs.Prelude.{ℕ, ◌≤◌, ◌<◌, ◌≡◌, cond, List, length, get_or, eqb}
use Rattle.curve.specs.Codec.{code_of}
use Rattle.curve.specs.declared.codec.Code.{Code}
use Rattle.tree.specs.declared.Class.{Class}
use Rattle.tree.specs.declared.Tree.{Tree}
use Rattle.tree.specs.Trees.{class_at, parent_of}
use Rattle.state.specs.Table.{at, with, header_at, CLASSES, COLUMNS, CELLS}
use Rattle.state.specs.Columns.{header_cells, CLOCK, STAMP, ACCEPTED, COUNT, PARENT, SHARE, KIND, FIRST, SECOND, THIRD, CHILD, SIBLING, ELIGIBLE, DEADLINE, NEVER}
use Rattle.state.specs.State.{first_child, next_sibling}
use Rattle.state.specs.Steps.{with_times}

-- n numbers, every one of them 0
pub record AllZero (m : List ℕ) (n : ℕ) : Type 0 where
  pub size : length m ≡ n
  pub zero : (k : ℕ) → get_or m k 0 ≡ 0

-- the table with the code of class i's curve
unfoldable pub with_code : List ℕ → ℕ → Code → List ℕ
with_code m i c = with (with (with (with m i KIND c.kind) i FIRST c.first) i SECOND c.second) i THIRD c.third

-- the table with class i, which has no head to time
unfoldable pub with_class : List ℕ → ℕ → Class → List ℕ
with_class m i c = with_code (with_times (with (with m i PARENT c.parent) i SHARE c.share) i NEVER 0) i (code_of c.curve)

-- what a planted class has in column f, its links aside
unfoldable pub planted_cell : Class → ℕ → ℕ
planted_cell c f =
    cond (eqb f THIRD) (code_of c.curve).third
    (cond (eqb f SECOND) (code_of c.curve).second
    (cond (eqb f FIRST) (code_of c.curve).first
    (cond (eqb f KIND) (code_of c.curve).kind
    (cond (eqb f DEADLINE) 0
    (cond (eqb f ELIGIBLE) NEVER
    (cond (eqb f SHARE) c.share
    (cond (eqb f PARENT) c.parent 0)))))))

-- the first n classes are planted, and no row after them has anything; the header is as it was
pub record PlantedBelow (m m' : List ℕ) (tree : Tree) (n : ℕ) : Type 0 where
  pub size : length m' ≡ CELLS
  pub header : (k : ℕ) → k < CLASSES → header_at m' k ≡ header_at m k
  pub rows : (k f : ℕ) → k < n → 1 ≤ f → f < COLUMNS → at m' k f ≡ planted_cell (class_at tree k) f
  pub others : (k f : ℕ) → n ≤ k → k < CLASSES → 1 ≤ f → f < COLUMNS → at m' k f ≡ 0

-- nothing stands in the table but in its header
pub record OnlyHeader (m : List ℕ) : Type 0 where
  pub size : length m ≡ CELLS
  pub rows : (k f : ℕ) → k < CLASSES → 1 ≤ f → f < COLUMNS → at m k f ≡ 0

-- the links are made: each class's first child and next sibling; all else is as it was
pub record Linked (m m' : List ℕ) (tree : Tree) : Type 0 where
  pub size : length m' ≡ CELLS
  pub child : (k : ℕ) → k < tree.count → at m' k CHILD ≡ first_child tree k
  pub sibling : (k : ℕ) → k < tree.count → at m' k SIBLING ≡ next_sibling tree k
  pub others : (k f : ℕ) → k < CLASSES → f < COLUMNS → (f ≡ CHILD → ⊥) → (f ≡ SIBLING → ⊥) → at m' k f ≡ at m k f
  pub blank : (k f : ℕ) → tree.count ≤ k → k < CLASSES → f < COLUMNS → at m' k f ≡ at m k f

-- what linking asks: no links yet, and a right tree's parents
pub record Linkable (m : List ℕ) (tree : Tree) : Type 0 where
  pub size : length m ≡ CELLS
  pub few : tree.count ≤ CLASSES
  pub some : 1 ≤ tree.count
  pub root : parent_of tree 0 ≡ 0
  pub lower : (k : ℕ) → 0 < k → k < tree.count → parent_of tree k < k
  pub parents : (k : ℕ) → k < tree.count → at m k PARENT ≡ parent_of tree k
  pub children : (k : ℕ) → k < CLASSES → at m k CHILD ≡ 0
  pub siblings : (k : ℕ) → k < CLASSES → at m k SIBLING ≡ 0

-- a table with a stamp and a count in its header, and nothing else
pub record Headed (m : List ℕ) (first n : ℕ) : Type 0 where
  pub size : length m ≡ CELLS
  pub clock : header_at m CLOCK ≡ 0
  pub stamp : header_at m STAMP ≡ first
  pub accepted : header_at m ACCEPTED ≡ 0
  pub count : header_at m COUNT ≡ n
  pub rest : (k : ℕ) → header_cells ≤ k → k < CLASSES → header_at m k ≡ 0
  pub rows : (k f : ℕ) → k < CLASSES → 1 ≤ f → f < COLUMNS → at m k f ≡ 0
