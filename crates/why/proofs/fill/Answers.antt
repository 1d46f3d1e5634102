-- `why::fill` meets its contract: the lines of the leaves among the classes passed are in place, and the next one goes behind them.
-- Assumes nothing.
use Rattle.std.specs.Prelude.{Option}
use Prim.Native.Nat.{ℕ, ◌+◌, ◌*◌, ◌≤◌, ◌<◌}
use mathlib.Core.Path.{◌≡◌, sym, ◌∙◌, subst}
use mathlib.Core.Bool.{true}
use mathlib.Core.List.{List}
use native.Mathlib.Omega.{arith}
use lib.ListN.{length}
use Rattle.tree.specs.declared.Tree.{Tree}
use Rattle.tree.specs.Trees.{is_leaf}
use Rattle.rules.specs.Calls.{Call}
use Rattle.state.specs.declared.choice.Sender.{Sender}
use Rattle.state.specs.StepsChoosing.{Chosen}
use Rattle.state.specs.Table.{at}
use Rattle.state.specs.Columns.{CHILD}
use Rattle.state.proofs.Resting.{count_within}
use Rattle.state.proofs.Chain.{cell_leaf, cell_interior}
use Rattle.state.proofs.Choosing.{count_most}
use Rattle.reason.specs.Reasons.{numbers}
use Rattle.reason.specs.Lines.{PutLine}
use Rattle.why.specs.Promises.{line_number}
use Rattle.why.specs.Steps.{Fillable, Filled, Asked}
use Rattle.why.proofs.Sheets.{number_none, number_leaf, number_interior, number_past, filled_none, filled_interior, filled_leaf}
use Rattle.why.proofs.fill.Invariants.{Onward}
use Rattle.why.proofs.fill.Goals as goal
use Rattle.why.proofs.fill.Goals.{In-loop-i, then-get-eq0, else-get-eq0}

-- a class at which the loop stands, in the tree that the table tells of
module _ (c : In-loop-i) {tree : Tree} {cs : List Call} (f : Fillable c.args.words.now tree cs c.args.tick c.args.sheet.now) where
  below : c.loop-i.i < tree.count
  below = omega (arith, f.told.count, c.header-count.ensures, c.loop-i-test.true)

  now : Onward tree cs c.args.tick c.loop-i.i c.loop-i.at c.args.sheet.now c.loop-i.sheet
  now = c.loop-i.invariant.2 tree cs f

-- and a leaf
module _ {m : List ℕ} {tree : Tree} {cs : List Call} {tick : ℕ} {s : List ℕ} {i : ℕ} (f : Fillable m tree cs tick s) (below : i < tree.count) (cell : at m i CHILD ≡ 0) where
  leaf : is_leaf tree i ≡ true
  leaf = cell_leaf (f.told.trees i below) below cell

  room : numbers * line_number tree i + numbers ≤ length s
  room = omega (arith, f.room, number_past tree tree.count i below leaf)

  asked : {sender : Option Sender} → Chosen tree cs tick sender → Asked m tree cs tick sender i
  asked chosen = record { told = f.told; leaf = leaf; chosen = chosen }

pub loop-i-init : goal.loop-i-init
loop-i-init c =
    let p = c.requires in
    let s = c.args.sheet.now in (
      omega arith,
      omega (arith, c.header-count.ensures, p.holds.told.count, count_most p.tree p.holds.told.grown),
      λ tree cs f. record { place = omega (arith, number_none tree); so_far = filled_none tree cs c.args.tick s },
    )

pub of_leaf-reason-requires : goal.of_leaf-reason-requires
of_leaf-reason-requires c =
    let p = c.requires in
    let at_class = below (goal.at.of_leaf-reason-requires c).In-loop-i p.holds in
    record { tree = p.tree; calls = p.calls; holds = asked p.holds at_class (sym c.get.ensures ∙ c.if-get-eq0.true) (c.choose-sender.ensures p.tree p.calls p.holds.told) }

pub put-requires : goal.put-requires
put-requires c =
    let p = c.requires in
    let turn = (goal.at.put-requires c).In-loop-i in
    let so = now turn p.holds in
    omega (arith, so.place, so.so_far.size, room p.holds (below turn p.holds) (sym c.get.ensures ∙ c.if-get-eq0.true))

pub overflow_add-at : goal.overflow_add-at
overflow_add-at c =
    let p = c.requires in
    let turn = (goal.at.overflow_add-at c).In-loop-i in
    let so = now turn p.holds in
    omega (arith, so.place, count_within c.loop-i.i (is_leaf p.tree), below turn p.holds, count_most p.tree p.holds.told.grown)

pub loop-i-preserved : goal.loop-i-preserved
loop-i-preserved c =
    let turn = (goal.at.loop-i-preserved c).In-loop-i in
    let head = c.loop-i in (
      omega arith,
      omega arith,
      λ tree cs f.
          let at_class = below turn f in
          let so = now turn f in
          elim c.if-get-eq0.branch [
            | then-get-eq0 w ↦
                let cell : at c.args.words.now head.i CHILD ≡ 0 = sym c.get.ensures ∙ w.if-get-eq0.true in
                let reason = w.of_leaf-reason.result in
                let put : PutLine head.sheet (numbers * line_number tree head.i) head.i reason c.if-get-eq0.sheet =
                subst (λ (k : ℕ). PutLine head.sheet k head.i reason c.if-get-eq0.sheet) so.place (w.sheet-is ∙ w.put.ensures)
                in
                record {
                  place = omega (arith, w.at-is, so.place, number_leaf (f.told.trees head.i at_class) at_class cell);
                  so_far =
                      filled_leaf tree cs c.args.tick so.so_far c.if-get-eq0.sheet reason (leaf f at_class cell)
                      (w.of_leaf-reason.ensures tree cs (asked f at_class cell (c.choose-sender.ensures tree cs f.told))) (room f at_class cell) put;
                }
            | else-get-eq0 w ↦
                let some : at c.args.words.now head.i CHILD ≡ 0 → ⊥ = λ e. w.if-get-eq0.false (c.get.ensures ∙ e) in
                let shows = f.told.trees head.i at_class in
                record {
                  place = omega (arith, w.at-is, so.place, number_interior shows at_class some);
                  so_far =
                      subst (λ (s : List ℕ). Filled tree cs c.args.tick (head.i + 1) c.args.sheet.now s) (sym w.sheet-is)
                      (filled_interior tree cs c.args.tick so.so_far (cell_interior shows at_class some));
                }
          ],
    )
