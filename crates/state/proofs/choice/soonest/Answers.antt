-- `state::choice::soonest` meets its contract: of the classes passed, the best is the first that is eligible, if any is.
-- Assumes nothing.
use mathlib.Core.Path.{◌≡◌}
use mathlib.Core.List.{List}
use native.Mathlib.Omega.{arith}
use Rattle.tree.specs.declared.Tree.{Tree}
use Rattle.rules.specs.Calls.{Call}
use Rattle.state.specs.StepsChoosing.{Told}
use Rattle.state.proofs.Choosing.{count_most, looked_none, soonest_some, soonest_none}
use Rattle.state.proofs.choice.soonest.Goals as goal
use Rattle.state.proofs.choice.soonest.Goals.{After-loop-i}

module _ (c : After-loop-i) {tree : Tree} {cs : List Call} (told : Told c.args.words.now tree cs) where
  all : c.loop-i.i ≡ tree.count
  all = omega (arith, told.count, c.header-count.ensures, c.loop-i-test.false, c.loop-i.invariant.0)

pub loop-i-init : goal.loop-i-init
loop-i-init c =
    let told = c.requires.0.holds in
    (omega arith, omega (arith, c.header-count.ensures, told.count, count_most c.requires.0.tree told.grown), looked_none c.args.words.now c.args.tick)

pub returns-then-least : goal.returns-then-least
returns-then-least c = λ tree cs told.
    let done = c in
    let start = done in
    let head = done.loop-i in
    soonest_none start.args.words.now tree cs told start.args.tick start.requires.1 head.i head.least head.best (all done.before told) head.invariant.2 c.if-least.true

pub returns-else-least : goal.returns-else-least
returns-else-least c = λ tree cs told.
    let done = c in
    let start = done in
    let head = done.loop-i in
    soonest_some start.args.words.now tree cs told start.args.tick start.requires.1 head.i head.least head.best (all done.before told) head.invariant.2 c.if-least.false
