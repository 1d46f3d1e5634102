-- `curve::codec::decode` meets its contract: the code of the four numbers says the curve.
-- Assumes nothing.
use Rattle.curve.proofs.Laws.Codec.{said_or_none}
use Rattle.curve.proofs.codec.decode.Goals as goal

pub returns : goal.returns
returns c = cc (said_or_none _ _ c.try_from.ensures)
