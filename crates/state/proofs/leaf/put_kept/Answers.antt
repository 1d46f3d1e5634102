-- `state::leaf::put_kept` meets its contract: four stores, in the definition's order.
-- Assumes nothing.
use Rattle.state.specs.Steps.{with_kept}
use Rattle.state.proofs.LeafCells.{stored}
use Rattle.state.proofs.leaf.put_kept.Goals as goal

pub returns : goal.returns
unfolding with_kept
returns c =
    let third = c in
    let second = third in
    let first = second in
    stored _ _ _ c.put-4.ensures (stored _ _ _ third.put-3.ensures (stored _ _ _ second.put-2.ensures first.put.ensures))
