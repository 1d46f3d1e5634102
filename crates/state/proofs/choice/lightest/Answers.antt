-- `state::choice::lightest` meets its contract: of the children passed, the best is the first that is active.
-- Assumes nothing.
use Prim.Native.Nat.{◌≤◌, ◌<◌}
use mathlib.Core.Path.{refl, sym, ◌∙◌}
use mathlib.Core.Logic.{⊎_elim}
use mathlib.Core.List.{List}
use native.Mathlib.Omega.{arith}
use Rattle.tree.specs.declared.Tree.{Tree}
use Rattle.rules.specs.Calls.{Call}
use Rattle.state.specs.Table.{CLASSES}
use Rattle.state.specs.StepsChoosing.{Stepping}
use Rattle.state.proofs.Choosing.{count_most, walked_is, walked_none, walked_below, walked_passive, walked_later, walked_first, walked_falls, lightest_right}
use Rattle.state.proofs.choice.lightest.Goals as goal
use Rattle.state.proofs.choice.lightest.Goals.{In-loop-child, then-get-ne0+then-time-least, then-get-ne0+else-time-least, else-get-ne0}

-- the child at which the walk stands is a class
below : (c : In-loop-child) (tree : Tree) (cs : List Call) → Stepping c.args.words.now tree cs c.args.class
    → (1 ≤ c.loop-child.child) × (c.loop-child.child < tree.count)
below c tree cs s =
    let start = c in
    let head = c.loop-child in
    walked_below start.args.words.now tree start.args.class head.best head.least head.child (head.invariant tree cs s) c.loop-child-test.true
    (count_most tree s.told.grown)

small : (c : In-loop-child) → c.loop-child.child < CLASSES
small c =
    let pre = c.requires in
    omega (arith, (below c pre.tree pre.calls pre.holds).1, count_most pre.tree pre.holds.told.grown)

pub get-child-requires : goal.get-child-requires
get-child-requires c =
    let s = c.requires.holds in
    (omega (arith, s.class, count_most c.requires.tree s.told.grown), omega arith)

pub loop-child-init : goal.loop-child-init
loop-child-init c = λ tree cs s.
    walked_is c.args.words.now tree c.args.class refl refl c.get-child.ensures (walked_none c.args.words.now tree cs c.args.class s)

pub get-requires : goal.get-requires
get-requires c = (small c, omega arith)

pub get-time-requires : goal.get-time-requires
get-time-requires c = (small c.before.before, omega arith)

pub get-child-requires-in-loop-child : goal.get-child-requires-in-loop-child
get-child-requires-in-loop-child c = (small c.before.before, omega arith)

pub loop-child-smaller : goal.loop-child-smaller
loop-child-smaller c =
    let turn = c in
    let start = turn in
    let head = turn.loop-child in
    let pre = start.requires in
    let s = pre.holds in
    let class = below turn.before.before.before pre.tree pre.calls s in
    let most = count_most pre.tree s.told.grown in
    let stored = c.get-child-in-loop-child.ensures in
    ⊎_elim (λ e. omega arith) (λ e. omega arith)
    (walked_falls start.args.words.now pre.tree start.args.class head.best head.least head.child (head.invariant pre.tree pre.calls s)
    turn.loop-child-test.true (s.told.trees head.child class.1).sibling most)

pub loop-child-preserved : goal.loop-child-preserved
loop-child-preserved c = λ tree cs s.
    let turn = c in
    let start = turn in
    let head = turn.loop-child in
    let m = start.args.words.now in
    let i = start.args.class in
    let w0 = head.invariant tree cs s in
    let some = turn.loop-child-test.true in
    let shows = (s.told.trees head.child (below turn.before.before.before tree cs s).1).sibling in
    let active = c.get.ensures in
    elim c.if-get-ne0.branch [
      | then-get-ne0+then-time-least w ↦
          walked_is m tree i w.best-is (w.least-is ∙ w.get-time.ensures) c.get-child-in-loop-child.ensures
          (walked_first m tree i head.best head.least head.child w0 some shows (λ e. w.if-get-ne0.true (active ∙ e)) (omega (arith, w.get-time.ensures, w.if-time-least.true)))
      | then-get-ne0+else-time-least w ↦
          walked_is m tree i w.best-is w.least-is c.get-child-in-loop-child.ensures
          (walked_later m tree i head.best head.least head.child w0 some shows (omega (arith, w.get-time.ensures, w.if-time-least.false)))
      | else-get-ne0 w ↦
          walked_is m tree i w.best-is w.least-is c.get-child-in-loop-child.ensures
          (walked_passive m tree i head.best head.least head.child w0 some shows (sym active ∙ w.if-get-ne0.false))
    ]

pub returns : goal.returns
returns c = λ tree cs s.
    let start = c in
    let head = c.loop-child in
    lightest_right start.args.words.now tree cs start.args.class s head.best head.least head.child (head.invariant tree cs s) c.loop-child-test.false
