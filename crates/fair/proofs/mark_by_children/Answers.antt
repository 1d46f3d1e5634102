-- `fair::mark_by_children` meets its contract: what was gathered of the children gives it.
-- Assumes nothing.
use Rattle.fair.proofs.WakingChildren.{met_sum, met_some, met_none}
use Rattle.fair.proofs.mark_by_children.Goals as goal

pub overflow_add-result : goal.overflow_add-result
overflow_add-result c =
    record {
      fits =
          met_sum c.args.words.now c.requires.it c.args.parent c.args.class c.requires.holds
          c.spread_of-spread.result (c.spread_of-spread.ensures c.requires.it c.requires.holds) c.if-spread.true;
    }

pub returns-then-spread : goal.returns-then-spread
returns-then-spread c = λ tree family.
    met_some c.args.words.now tree c.args.parent c.args.class family c.spread_of-spread.result (c.spread_of-spread.ensures tree family) c.if-spread.true

pub returns-else-spread : goal.returns-else-spread
returns-else-spread c = λ tree family.
    met_none c.args.words.now tree c.args.parent c.args.class family c.spread_of-spread.result (c.spread_of-spread.ensures tree family) c.if-spread.false
