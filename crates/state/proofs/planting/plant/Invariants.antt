use Rattle.std.specs.Prelude.{◌-◌}
use Rattle.state.specs.Planting.{PlantedBelow}
use Rattle.state.proofs.planting.plant.Given as goal

abbrev pub invariant-loop-i : goal.invariant-loop-i
invariant-loop-i l = PlantedBelow l.initial.words l.words l.tree l.i

abbrev pub decreases-loop-i : goal.decreases-loop-i
decreases-loop-i l = l.tree.count - l.i
