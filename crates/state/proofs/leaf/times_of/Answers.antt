-- `state::leaf::times_of` meets its contract: the times are those of the columns.
-- Assumes nothing.
use mathlib.Core.Path.{sym, ◌∙◌}
use Rattle.state.proofs.NextTimes.{times_bare, times_some}
use Rattle.state.proofs.leaf.times_of.Goals as goal

pub returns-then-get-eq0 : goal.returns-then-get-eq0
returns-then-get-eq0 c = times_bare _ _ (sym c.get.ensures ∙ c.if-get-eq0.true)

pub returns : goal.returns
returns c = times_some _ _ (λ e. c.if-get-eq0.false (c.get.ensures ∙ e)) c.get-2.ensures c.get-3.ensures
