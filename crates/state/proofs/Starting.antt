-- The classes of a started table: what storing one class makes of each cell, and that the classes stored so far are planted.
-- Assumes nothing.
use Prim.Native.Nat.{ℕ, ◌+◌, ◌<◌}
use mathlib.Core.Path.{◌≡◌, refl, ap, sym, subst, ◌∙◌}
use mathlib.Core.Bool.{cond}
use mathlib.Core.List.{List}
use mathlib.Core.Logic.{⊎_elim}
use native.Mathlib.Omega.{arith}
use lib.ListN.{length}
use lib.Dec.{eqb}
use borrow.Author.Tests.{eq-eqb, ne_eqb}
use Rattle.curve.specs.declared.codec.Code.{Code}
use Rattle.curve.specs.Codec.{code_of}
use Rattle.tree.specs.declared.Class.{Class}
use Rattle.tree.specs.declared.Tree.{Tree}
use Rattle.tree.specs.Trees.{class_at}
use Rattle.rules.proofs.Tests.{equal_or_not, cond_yes, cond_no}
use Rattle.state.specs.Table.{at, with, CLASSES, COLUMNS, CELLS}
use Rattle.state.specs.Columns.{HEADER, PARENT, SHARE, KIND, FIRST, SECOND, THIRD, ELIGIBLE, DEADLINE, NEVER}
use Rattle.state.specs.Steps.{with_times}
use Rattle.state.specs.Planting.{with_code, with_class, planted_cell, PlantedBelow, OnlyHeader}
use Rattle.state.proofs.Cells.{length_with, at_with_same, at_with_class, at_with_column}

-- parent, share, times and then the curve's code are a class
pub class_stored : (m : List ℕ) (i : ℕ) (c : Class) {m₁ m₂ m₃ m₄ : List ℕ} {code : Code} → m₁ ≡ with m i PARENT c.parent → m₂ ≡ with m₁ i SHARE c.share
    → m₃ ≡ with_times m₂ i NEVER 0 → code ≡ code_of c.curve → m₄ ≡ with_code m₃ i code → m₄ ≡ with_class m i c
unfolding with_class
class_stored m i c p q r s u = rw (u, r, q, p, s) refl

-- a table of which the cell of class i in column f has x
record Cell (m : List ℕ) (i f x : ℕ) : Type 0 where
  size : length m ≡ CELLS
  held : at m i f ≡ x

cell_with : {m : List ℕ} {i f x : ℕ} (g v : ℕ) → i < CLASSES → g < COLUMNS → Cell m i f x → Cell (with m i g v) i f (cond (eqb f g) v x)
cell_with {m} {i} {f} {x} g v l k c =
    record {
      size = length_with m i g v ∙ c.size;
      held =
          ⊎_elim
          (λ (e : f ≡ g).
          ap (at (with m i g v) i) e ∙ at_with_same m i g v c.size l k ∙ sym (cond_yes v x (eq-eqb f g e)))
          (λ (n : f ≡ g → ⊥). at_with_column m i g v i f l l n ∙ c.held ∙ sym (cond_no v x (ne_eqb f g n)))
          (equal_or_not f g);
    }

pub length_class : (m : List ℕ) (i : ℕ) (c : Class) → length (with_class m i c) ≡ length m
unfolding with_class with_code
length_class m i c = simp length_with

-- the row that is stored to
pub class_row : (m : List ℕ) (i : ℕ) (c : Class) (f : ℕ) → length m ≡ CELLS → i < CLASSES → at m i f ≡ 0 → at (with_class m i c) i f ≡ planted_cell c f
unfolding with_class with_code planted_cell
class_row m i c f s l z =
    (cell_with THIRD _ l (omega arith)
    (cell_with SECOND _ l (omega arith)
    (cell_with FIRST _ l (omega arith)
    (cell_with KIND _ l (omega arith)
    (cell_with DEADLINE 0 l (omega arith)
    (cell_with ELIGIBLE NEVER l (omega arith)
    (cell_with SHARE _ l (omega arith)
    (cell_with PARENT _ l (omega arith)
    (record { size = s; held = z }))))))))).held

-- another row
pub class_other : (m : List ℕ) (i : ℕ) (c : Class) (k f : ℕ) → i < CLASSES → k < CLASSES → (k ≡ i → ⊥) → at (with_class m i c) k f ≡ at m k f
unfolding with_class with_code
class_other m i c k f l h n =
    at_with_class _ i THIRD _ k f l h n
    ∙ at_with_class _ i SECOND _ k f l h n
    ∙ at_with_class _ i FIRST _ k f l h n
    ∙ at_with_class _ i KIND _ k f l h n
    ∙ at_with_class _ i DEADLINE _ k f l h n
    ∙ at_with_class _ i ELIGIBLE _ k f l h n
    ∙ at_with_class _ i SHARE _ k f l h n
    ∙ at_with_class _ i PARENT _ k f l h n

-- the header
pub class_header : (m : List ℕ) (i : ℕ) (c : Class) (k : ℕ) → i < CLASSES → k < CLASSES → at (with_class m i c) k HEADER ≡ at m k HEADER
unfolding with_class with_code
class_header m i c k l h =
    at_with_column _ i THIRD _ k HEADER l h (λ e. omega arith)
    ∙ at_with_column _ i SECOND _ k HEADER l h (λ e. omega arith)
    ∙ at_with_column _ i FIRST _ k HEADER l h (λ e. omega arith)
    ∙ at_with_column _ i KIND _ k HEADER l h (λ e. omega arith)
    ∙ at_with_column _ i DEADLINE _ k HEADER l h (λ e. omega arith)
    ∙ at_with_column _ i ELIGIBLE _ k HEADER l h (λ e. omega arith)
    ∙ at_with_column _ i SHARE _ k HEADER l h (λ e. omega arith)
    ∙ at_with_column _ i PARENT _ k HEADER l h (λ e. omega arith)

pub planted_none : (m : List ℕ) (tree : Tree) → OnlyHeader m → PlantedBelow m m tree 0
planted_none m tree o =
    record {
      size = o.size;
      header = λ k l. refl;
      rows = λ k f l a b. absurd (omega arith);
      others = λ k f n l a b. o.rows k f l a b;
    }

pub planted_more : {m m' m'' : List ℕ} {tree : Tree} {i : ℕ} → i < CLASSES → PlantedBelow m m' tree i → m'' ≡ with_class m' i (class_at tree i)
    → PlantedBelow m m'' tree (i + 1)
planted_more {m} {m'} {m''} {tree} {i} l p e =
    let c = class_at tree i in
    subst (λ (n : List ℕ). PlantedBelow m n tree (i + 1)) (sym e)
    (record {
      size = length_class m' i c ∙ p.size;
      header = λ k h. class_header m' i c k l h ∙ p.header k h;
      rows =
          λ k f h a b.
          ⊎_elim
          (λ (q : k ≡ i).
          subst (λ (j : ℕ). at (with_class m' i c) j f ≡ planted_cell (class_at tree j) f) (sym q)
          (class_row m' i c f p.size l (p.others i f (omega arith) l a b)))
          (λ (q : k ≡ i → ⊥). class_other m' i c k f l (omega arith) q ∙ p.rows k f (omega (arith, h, q)) a b)
          (equal_or_not k i);
      others = λ k f n h a b. class_other m' i c k f l h (λ q. omega arith) ∙ p.others k f (omega arith) h a b;
    })
