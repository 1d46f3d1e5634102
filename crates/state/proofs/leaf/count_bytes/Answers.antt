-- `state::leaf::count_bytes` meets its contract: by the rule.
-- Assumes nothing.
use mathlib.Core.Path.{◌∙◌}
use Rattle.state.proofs.NextTimes.{counted_real, counted_fair}
use Rattle.state.proofs.leaf.count_bytes.Goals as goal

pub returns-in-RealTime : goal.returns-in-RealTime
returns-in-RealTime c =
    let start = c in
    c.put.ensures
    ∙ counted_real start.args.words.now start.args.class start.args.rule start.args.bytes c.in-RealTime.is
    c.get-sent.ensures

pub returns-in-Fair : goal.returns-in-Fair
returns-in-Fair c =
    let start = c in
    counted_fair start.args.words.now start.args.class start.args.rule start.args.bytes c.in-Fair.is
