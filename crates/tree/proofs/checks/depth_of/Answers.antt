-- `tree::checks::depth_of` meets its contract: the loop's invariant is that the steps taken and the depth of the class reached are the depth asked for.
-- Assumes nothing.
use Prim.Native.Nat.{suc, ◌<◌}
use mathlib.Core.Path.{◌≡◌}
use native.Mathlib.Omega.{arith}
use Rattle.tree.specs.Trees.{depth}
use Rattle.tree.proofs.Depths.{lower_parent, depth_root, depth_up}
use Rattle.tree.proofs.checks.depth_of.Goals as goal
use Rattle.tree.proofs.checks.depth_of.Goals.{After-class_at-here}

-- the step from the class reached: up to a lower number, and one less deep
step : (c : After-class_at-here) →
    (c.class_at-here.result.parent < c.loop-here.here)
    × (depth c.args.tree c.loop-here.here
    ≡ suc (depth c.args.tree c.class_at-here.result.parent))
step c =
    let start = c.before.before.before in
    let tree = start.args.tree in
    let here = c.loop-here.here in
    let class : here < tree.count = omega arith in
    let lower = lower_parent tree tree.count start.requires.every_class in
    rw c.class_at-here.ensures (lower here (omega arith) class, depth_up tree tree.count lower here (omega arith) class)

pub loop-here-smaller : goal.loop-here-smaller
loop-here-smaller c = (step c).0

pub loop-here-preserved : goal.loop-here-preserved
loop-here-preserved c = let up = step c in (omega arith, omega arith)

pub returns : goal.returns
returns c =
    let tree = c.args.tree in
    let root : c.loop-here.here ≡ 0 = omega arith in
    let none : depth tree c.loop-here.here ≡ 0 = rw root (depth_root tree) in
    omega arith
