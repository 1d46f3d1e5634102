-- `fair::spread_of` meets its contract: the chain of siblings meets every child, in increasing order.
-- Assumes nothing.
use Prim.Native.Nat.{ℕ}
use mathlib.Core.Path.{refl, ◌∙◌, ap₂}
use mathlib.Core.Bool.{Bool}
use native.Mathlib.Omega.{arith}
use Rattle.fair.specs.StepsWaking.{spread_with}
use Rattle.fair.proofs.WakingChildren.{gathered_first, gathered_more, gathered_all, walk_narrow, walk_falls}
use Rattle.fair.proofs.spread_of.Goals as goal

pub loop-child-init : goal.loop-child-init
loop-child-init c = λ tree family.
    gathered_first c.args.words.now tree c.args.parent c.args.class family _ c.get-child.result refl c.get-child.ensures

pub is_other-other-requires : goal.is_other-other-requires
is_other-other-requires c =
    walk_narrow c.args.words.now c.args.parent c.args.class c.loop-child.spread c.loop-child.child c.requires c.loop-child.invariant c.loop-child-test.true

pub get-requires : goal.get-requires
get-requires c = (
  walk_narrow c.args.words.now c.args.parent c.args.class c.loop-child.spread c.loop-child.child c.requires c.loop-child.invariant c.loop-child-test.true,
  omega arith,
)

pub get-child-requires-in-loop-child : goal.get-child-requires-in-loop-child
get-child-requires-in-loop-child c = (
  walk_narrow c.args.words.now c.args.parent c.args.class c.loop-child.spread c.loop-child.child c.requires c.loop-child.invariant c.loop-child-test.true,
  omega arith,
)

pub loop-child-smaller : goal.loop-child-smaller
loop-child-smaller c =
    walk_falls c.args.words.now c.args.parent c.args.class c.loop-child.spread c.loop-child.child c.requires c.loop-child.invariant c.loop-child-test.true
    c.get-child-in-loop-child.result c.get-child-in-loop-child.ensures

pub loop-child-preserved : goal.loop-child-preserved
loop-child-preserved c = λ tree family.
    gathered_more c.args.words.now tree c.args.parent c.args.class family c.loop-child.spread c.loop-child.child c.get-child-in-loop-child.result c.loop-child-test.true
    (c.loop-child.invariant tree family) c.get-child-in-loop-child.ensures c.with-spread.result
    (c.with-spread.ensures
    ∙ ap₂ (λ (v : ℕ) (o : Bool). spread_with c.loop-child.spread v o) c.get.ensures c.is_other-other.ensures)

pub returns : goal.returns
returns c = λ tree family.
    gathered_all c.args.words.now tree c.args.parent c.args.class family c.loop-child.spread c.loop-child.child c.loop-child-test.false
    (c.loop-child.invariant tree family)
