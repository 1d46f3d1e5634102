-- `state::table::get` meets its contract: the place is the definition's.
-- Assumes nothing.
use mathlib.Core.Path.{refl}
use Rattle.state.specs.Table.{at}
use Rattle.state.proofs.table.get.Goals as goal

pub returns : goal.returns
unfolding at
returns c = refl
