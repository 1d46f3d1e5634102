-- `state::planting::clear_words` meets its contract: what is stored is a list of zeros.
-- Assumes nothing.
use Rattle.state.specs.Table.{CELLS}
use Rattle.state.proofs.Zeros.{zeros}
use Rattle.state.proofs.planting.clear_words.Goals as goal

pub returns : goal.returns
returns c = zeros CELLS
