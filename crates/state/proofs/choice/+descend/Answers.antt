-- `state::choice::descend` meets its contract.
-- Assumes nothing.
use mathlib.Core.Path.{sym, ◌∙◌}
use native.Mathlib.Omega.{arith}
use Rattle.rules.specs.Choice.{reached, down}
use Rattle.state.proofs.Choosing.{count_most}
use Rattle.state.proofs.ChoosingDown.{deep_leaf, childless, steps_down, descends_on}
use Rattle.state.proofs.choice.+descend.Goals as goal
use Rattle.state.proofs.choice.+descend.Goals.{then-depth-eq0-via-then-depth-eq0, then-depth-eq0-via-else-depth-eq0+then-get-eq0}

pub returns-then-depth-eq0 : goal.returns-then-depth-eq0
returns-then-depth-eq0 t c = λ tree cs d.
    elim c.then-depth-eq0.branch [
      | then-depth-eq0-via-then-depth-eq0 w ↦ reached (deep_leaf d w.if-depth-eq0.true)
      | then-depth-eq0-via-else-depth-eq0+then-get-eq0 w ↦ reached (childless d (sym w.get.ensures ∙ w.if-get-eq0.true))
    ]

pub get-requires : goal.get-requires
get-requires t c =
    let d = c.requires.holds in
    (omega (arith, d.class, count_most c.requires.tree d.told.grown), omega arith)

pub lightest-requires : goal.lightest-requires
lightest-requires t c =
    let pre = c.requires in
    record { tree = pre.tree; calls = pre.calls; holds = steps_down pre.holds (λ e. c.if-get-eq0.false (c.get.ensures ∙ e)) }

pub descend-requires : goal.descend-requires
descend-requires t c =
    let pre = c.requires in
    let some = c.if-depth-eq0.false in
    let s = steps_down pre.holds (λ e. c.if-get-eq0.false (c.get.ensures ∙ e)) in
    (omega (arith, c.decreases), record { tree = pre.tree; calls = pre.calls; holds = descends_on pre.holds c.lightest.result some (c.lightest.ensures pre.tree pre.calls s) })

pub returns : goal.returns
returns t c = λ tree cs d.
    let some = c.if-depth-eq0.false in
    let first = c.lightest.ensures tree cs (steps_down d (λ e. c.if-get-eq0.false (c.get.ensures ∙ e))) in
    down first (c.descend.ensures tree cs (descends_on d c.lightest.result some first))
