-- `state::planting::plant_class` meets its contract: parent, share and times, then the code of the curve.
-- Assumes nothing.
use Rattle.state.proofs.Starting.{class_stored}
use Rattle.state.proofs.planting.plant_class.Goals as goal

pub returns : goal.returns
returns c =
    let encoded = c in
    let timed = encoded in
    let second = timed in
    let first = second in
    class_stored _ _ _ first.put.ensures second.put-2.ensures timed.put_times.ensures encoded.from.ensures c.plant_code.ensures
