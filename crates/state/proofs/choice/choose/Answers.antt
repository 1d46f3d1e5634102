-- `state::choice::choose` meets its contract: the real-time rule where it finds a leaf, else the descent from an active root.
-- Assumes nothing.
use mathlib.Core.Path.{sym, ◌∙◌}
use Rattle.state.proofs.ChoosingDown.{root_descends, root_passive}
use Rattle.state.proofs.choice.choose.Goals as goal

pub descend-requires : goal.descend-requires
descend-requires c =
    let pre = c.requires.0 in
    record { tree = pre.tree; calls = pre.calls; holds = root_descends pre.holds (λ e. c.if-get-eq0.false (c.get.ensures ∙ e)) }

pub returns-then-get-eq0 : goal.returns-then-get-eq0
returns-then-get-eq0 c = λ tree cs told. root_passive told (sym c.get.ensures ∙ c.if-get-eq0.true)

pub returns : goal.returns
returns c = λ tree cs told.
    record {
      none = c.in_default.ensures tree cs told;
      goes_down = c.descend.ensures tree cs (root_descends told (λ e. c.if-get-eq0.false (c.get.ensures ∙ e)));
    }
