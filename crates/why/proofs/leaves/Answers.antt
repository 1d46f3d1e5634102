-- `why::leaves` meets its contract: the leaves among the classes passed are counted.
-- Assumes nothing.
use Prim.Native.Nat.{◌<◌}
use mathlib.Core.Path.{sym, ◌∙◌}
use native.Mathlib.Omega.{arith}
use Rattle.state.proofs.Choosing.{count_most}
use Rattle.why.proofs.Sheets.{number_none, number_leaf, number_interior}
use Rattle.why.proofs.leaves.Goals as goal
use Rattle.why.proofs.leaves.Goals.{then-get-eq0, else-get-eq0}

pub loop-i-init : goal.loop-i-init
loop-i-init c =
    let told = c.requires.holds in
    (omega arith, omega (arith, c.header-count.ensures, told.count, count_most c.requires.tree told.grown), omega arith, λ tree cs t. sym (number_none tree))

pub loop-i-preserved : goal.loop-i-preserved
loop-i-preserved c =
    let turn = c in
    let head = turn.loop-i in
    let m = turn.args.words.now in (
      omega arith,
      omega arith,
      elim c.if-get-eq0.branch [ then-get-eq0 w ↦ omega arith | else-get-eq0 w ↦ omega arith ],
      λ tree cs told.
          let below : head.i < tree.count = omega (arith, told.count, turn.header-count.ensures, turn.loop-i-test.true) in
          let was = head.invariant.3 tree cs told in
          elim c.if-get-eq0.branch [
            | then-get-eq0 w ↦ omega (arith, number_leaf (told.trees head.i below) below (sym c.get.ensures ∙ w.if-get-eq0.true))
            | else-get-eq0 w ↦ omega (arith, number_interior (told.trees head.i below) below (λ e. w.if-get-eq0.false (c.get.ensures ∙ e)))
          ],
    )
