-- `state::planting::clear_lengths` meets its contract: what is stored is a list of zeros.
-- Assumes nothing.
use Rattle.state.specs.Table.{PLACES}
use Rattle.state.proofs.Zeros.{zeros}
use Rattle.state.proofs.planting.clear_lengths.Goals as goal

pub returns : goal.returns
returns c = zeros PLACES
