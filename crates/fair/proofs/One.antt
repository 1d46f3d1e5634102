-- Each step's promise allows one table: two that it allows of the same table are equal.
-- Assumes nothing.
use Prim.Native.Nat.{ℕ, ◌<◌}
use mathlib.Core.Path.{◌≡◌, sym, ◌∙◌}
use mathlib.Core.List.{List}
use mathlib.Core.Logic.{⊎_elim}
use Rattle.curve.proofs.Laws.Order.{le_or_lt}
use Rattle.tree.specs.declared.Tree.{Tree}
use Rattle.rules.specs.declared.Rule.TheVariants.{RealTime}
use Rattle.state.specs.Heads.{SomeCalls, EveryCalls}
use Rattle.state.specs.Table.{at, CLASSES, COLUMNS}
use Rattle.state.specs.Columns.{SENT, VIRTUAL, ACTIVE, fair_from}
use Rattle.state.proofs.Cells.{cells_equal}
use Rattle.state.proofs.One.{by_column, fair_columns}
use Rattle.fair.specs.Steps.{KeepsOthers, BeforeWaking, AfterWaking, BeforeRaise, AfterRaise, BeforeRest, AfterRest}

-- tables that leave the rest alone are equal if they agree on the classes
rows_one : (m r s : List ℕ) (tree : Tree) → KeepsOthers m r tree → KeepsOthers m s tree → ((k f : ℕ) → k < tree.count → k < CLASSES → f < COLUMNS → at r k f ≡ at s k f) → r ≡ s
rows_one m r s tree p q h =
    cells_equal r s p.size q.size
    (λ k f room column.
    ⊎_elim (λ l. p.rows k f l room column ∙ sym (q.rows k f l room column)) (λ l. h k f l room column) (le_or_lt tree.count k))

pub wake_one : (m : List ℕ) (j : ℕ) → SomeCalls (λ tree cs. BeforeWaking m tree cs j) → (r s : List ℕ)
    → EveryCalls (λ tree cs. BeforeWaking m tree cs j) (λ tree cs. AfterWaking m r tree cs j)
    → EveryCalls (λ tree cs. BeforeWaking m tree cs j) (λ tree cs. AfterWaking m s tree cs j)
    → r ≡ s
wake_one m j w r s f g =
    let p = f w.tree w.calls w.holds in
    let q = g w.tree w.calls w.holds in
    rows_one m r s w.tree p.alone q.alone
    (λ k f class room column.
    ⊎_elim (λ l. fair_columns (p.fairs 0 0 k class) (q.fairs 0 0 k class) f l column)
    (λ l. p.alone.columns k f room l ∙ sym (q.alone.columns k f room l)) (le_or_lt fair_from f))

pub raise_one : (m : List ℕ) (j bytes : ℕ) → SomeCalls (λ tree cs. BeforeRaise m tree cs j bytes) → (r s : List ℕ)
    → EveryCalls (λ tree cs. BeforeRaise m tree cs j bytes) (λ tree cs. AfterRaise m r tree cs j)
    → EveryCalls (λ tree cs. BeforeRaise m tree cs j bytes) (λ tree cs. AfterRaise m s tree cs j)
    → r ≡ s
raise_one m j bytes w r s f g =
    let p = f w.tree w.calls w.holds in
    let q = g w.tree w.calls w.holds in
    rows_one m r s w.tree p.alone q.alone
    (λ k f class room column.
    by_column (λ x. at r k x ≡ at s k x) SENT f (p.sents 0 RealTime k class ∙ sym (q.sents 0 RealTime k class))
    (λ a. by_column (λ x. at r k x ≡ at s k x) VIRTUAL f (p.virtuals 0 RealTime k class ∙ sym (q.virtuals 0 RealTime k class))
    (λ b. p.others k f room column a b ∙ sym (q.others k f room column a b))))

pub rest_one : (m : List ℕ) (j : ℕ) → SomeCalls (λ tree cs. BeforeRest m tree cs j) → (r s : List ℕ)
    → EveryCalls (λ tree cs. BeforeRest m tree cs j) (λ tree cs. AfterRest m r tree cs j)
    → EveryCalls (λ tree cs. BeforeRest m tree cs j) (λ tree cs. AfterRest m s tree cs j)
    → r ≡ s
rest_one m j w r s f g =
    let p = f w.tree w.calls w.holds in
    let q = g w.tree w.calls w.holds in
    rows_one m r s w.tree p.alone q.alone
    (λ k f class room column.
    by_column (λ x. at r k x ≡ at s k x) ACTIVE f (p.actives 0 RealTime k class ∙ sym (q.actives 0 RealTime k class))
    (λ a. p.others k f room column a ∙ sym (q.others k f room column a)))
