-- `wording::word_length` meets its contract: the bytes before the next white space are counted.
-- Assumes nothing.
use Rattle.std.proofs.Common.{rules, tests, ◌∙◌}
use Rattle.std.proofs.lemmas.Iterator.{YieldsList-from_slice}
use Rattle.std.proofs.lemmas.Iterator.Consumers.{count_from_yields_List}
use Rattle.std.proofs.lemmas.Iterator.Search.{YieldsList-from_take_while}
use Rattle.wording.specs.Words.{is_dark}
use Rattle.wording.proofs.Spans.{span_counted}
use Rattle.wording.proofs.word_length.Goals as goal

pub returns-clause-counted : goal.returns-clause-counted
returns-clause-counted c =
    let begun = c.args.begun.now in
    count_from_yields_List c.take_while.result _ c.count.ensures.ran (YieldsList-from_take_while _ is_dark (YieldsList-from_slice begun cc) c.take_while.ensures.closure c.take_while.ensures.done (λ x b q k. search (rules, tests)))
    ∙ span_counted is_dark begun
