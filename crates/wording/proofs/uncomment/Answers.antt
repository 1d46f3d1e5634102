-- `wording::uncomment` meets its contract: the bytes before the first `#` are taken.
-- Assumes nothing.
use Rattle.std.proofs.Common.{rules, tests}
use Rattle.std.proofs.lemmas.Iterator.{YieldsList-from_slice}
use Rattle.std.proofs.lemmas.Iterator.Consumers.{count_from_yields_List}
use Rattle.std.proofs.lemmas.Iterator.Search.{YieldsList-from_take_while}
use Rattle.wording.specs.Words.{is_text, uncommented}
use Rattle.wording.proofs.Spans.{span_counted}
use Rattle.wording.proofs.uncomment.Goals as goal

pub returns : goal.returns
unfolding uncommented
returns c =
    let line = c.args.line.now in
    let n = count_from_yields_List c.take_while.result c.count-n.result c.count-n.ensures.ran (YieldsList-from_take_while _ is_text (YieldsList-from_slice line cc) c.take_while.ensures.closure c.take_while.ensures.done (λ x b q k. search (rules, tests))) in
    rw (n, span_counted)
