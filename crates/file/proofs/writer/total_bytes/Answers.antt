-- `file::writer::total_bytes` meets its contract: the loop's invariant: `at` is the place of body `i`. The measure is what is left of the count.
-- Assumes nothing.
use native.Mathlib.Omega.{arith}
use Rattle.tree.specs.Trees.{curve_of}
use Rattle.file.proofs.WriteLaws.Bodies.{place_first, place_next, place_most, body_most}
use Rattle.file.proofs.writer.total_bytes.Goals as goal

pub loop-i-init : goal.loop-i-init
loop-i-init c = omega (arith, place_first c.args.tree)

pub overflow_add-at : goal.overflow_add-at
overflow_add-at c =
    let tree = c.args.tree in
    let i = c.loop-i.i in
    omega (arith, place_most tree i, body_most (curve_of tree i))

pub loop-i-preserved : goal.loop-i-preserved
loop-i-preserved c = omega (arith, place_next c.args.tree c.loop-i.i)
