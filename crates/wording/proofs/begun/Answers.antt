-- `wording::begun` meets its contract: the white space in front is passed.
-- Assumes nothing.
use Rattle.std.proofs.Common.{rules, tests, ap, ◌∙◌, drop}
use Rattle.std.proofs.lemmas.Iterator.{YieldsList-from_slice}
use Rattle.std.proofs.lemmas.Iterator.Consumers.{count_from_yields_List}
use Rattle.std.proofs.lemmas.Iterator.Search.{YieldsList-from_take_while}
use Rattle.wording.specs.Words.{is_blank, begun}
use Rattle.wording.proofs.Spans.{span_counted, part_on}
use Rattle.wording.proofs.begun.Goals as goal

pub returns : goal.returns
unfolding begun
returns c =
    let text = c.args.text.now in
    let n = count_from_yields_List c.take_while.result c.count-n.result c.count-n.ensures.ran (YieldsList-from_take_while _ is_blank (YieldsList-from_slice text cc) c.take_while.ensures.closure c.take_while.ensures.done (λ x b q k. search (rules, tests))) in
    part_on text c.count-n.result ∙ ap (λ m. drop m text) (n ∙ span_counted is_blank text)
