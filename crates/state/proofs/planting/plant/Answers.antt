-- `state::planting::plant` meets its contract: the loop's invariant is that the classes passed are planted.
-- Assumes nothing.
use native.Mathlib.Omega.{arith}
use Rattle.tree.specs.Trees.{class_at}
use Rattle.state.proofs.Starting.{planted_more}
use Rattle.state.proofs.planting.plant.Goals as goal

pub loop-i-preserved : goal.loop-i-preserved
unfolding class_at
loop-i-preserved c = planted_more (omega (arith, c.requires.1)) c.loop-i.invariant c.plant_class.ensures
