-- `state::table::put` meets its contract: the place is the definition's.
-- Assumes nothing.
use mathlib.Core.Path.{refl}
use Rattle.state.specs.Table.{with}
use Rattle.state.proofs.table.put.Goals as goal

pub returns : goal.returns
unfolding with
returns c = refl
