-- `state::leaf::time_next` meets its contract: the eligible time by the rule, and the deadline, where the leaf has a curve.
-- Assumes nothing.
use mathlib.Core.Path.{◌≡◌, refl, ◌∙◌}
use Rattle.state.specs.Table.{at}
use Rattle.state.specs.Columns.{KIND}
use Rattle.state.specs.Steps.{NextRipe, timed}
use Rattle.state.proofs.NextTimes.{ripe_real, ripe_fair}
use Rattle.state.proofs.leaf.time_next.Goals as goal
use Rattle.state.proofs.leaf.time_next.Goals.{Else-get-eq0, Joined-rule, in-RealTime, in-Fair}

-- where the leaf has a curve
some : (c : Else-get-eq0) → at c.args.words.now c.args.class KIND ≡ 0 → ⊥
some c e = c.if-get-eq0.false (c.get.ensures ∙ e)

-- by either rule
ripened : (c : Joined-rule)
    → NextRipe c.args.rule c.args.words.now c.args.class c.match-rule.eligible
ripened c =
    elim c.match-rule.branch [
      | in-RealTime w ↦ rw w.eligible-is (ripe_real c.args.rule c.args.words.now c.args.class w.in-RealTime.is refl w.ripe_next-eligible.ensures)
      | in-Fair w ↦ rw w.eligible-is (ripe_fair c.args.rule c.args.words.now c.args.class w.in-Fair.is refl w.get-eligible.ensures)
    ]

pub returns : goal.returns
returns c =
    let asked = c in
    let met = asked in
    timed (some met.before.before.before.before) met.match-rule.eligible asked.due-deadline.result (ripened met.before.before.before) asked.due-deadline.ensures c.put_times.ensures
