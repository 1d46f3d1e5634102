-- `wording::line_end` meets its contract: the bytes of the line from there are counted.
-- Assumes nothing.
use Prim.Native.Nat.{◌-◌}
use Rattle.std.proofs.Common.{rules, tests, length, drop}
use Rattle.std.proofs.Math.ListN.{take}
use Rattle.std.proofs.lemmas.Iterator.{YieldsList-from_slice}
use Rattle.std.proofs.lemmas.Iterator.Consumers.{count_from_yields_List}
use Rattle.std.proofs.lemmas.Iterator.Search.{YieldsList-from_take_while}
use Rattle.wording.specs.Words.{is_inner}
use Rattle.wording.proofs.Spans.{span_counted, part_on}
use Rattle.wording.proofs.line_end.Goals as goal

pub returns-clause-counted : goal.returns-clause-counted
returns-clause-counted c =
    let text = c.args.text.now in
    let rest = take (length text - c.args.at) (drop c.args.at text) in
    let n = count_from_yields_List c.take_while.result c.count.result c.count.ensures.ran (YieldsList-from_take_while _ is_inner (YieldsList-from_slice rest cc) c.take_while.ensures.closure c.take_while.ensures.done (λ x b q k. search (rules, tests))) in
    rw (n, span_counted is_inner rest, part_on text c.args.at)
