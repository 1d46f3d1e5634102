-- `state::planting::plant_code` meets its contract: four stores, one after the other.
-- Assumes nothing.
use Rattle.state.specs.Planting.{with_code}
use Rattle.state.proofs.LeafCells.{stored}
use Rattle.state.proofs.planting.plant_code.Goals as goal

pub returns : goal.returns
unfolding with_code
returns c =
    let third = c in
    let second = third in
    let first = second in
    stored _ _ _ c.put-4.ensures (stored _ _ _ third.put-3.ensures (stored _ _ _ second.put-2.ensures first.put.ensures))
