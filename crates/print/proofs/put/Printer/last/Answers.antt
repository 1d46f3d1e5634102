-- `print::put::Printer::last` meets its contract: the word and the number, and then the line feed.
-- Assumes nothing.
use mathlib.Core.Path.{sym}
use mathlib.Core.List.{[], ◌∷◌, append_assoc}
use Rattle.wording.specs.Letters.{space, line_feed}
use Rattle.wording.specs.Decimal.{decimal}
use Rattle.print.specs.Lines.{further}
use Rattle.print.proofs.Stores.{then, same_as}
use Rattle.print.proofs.put.Printer.last.Goals as goal

pub returns-clause-prints : goal.returns-clause-prints
unfolding further
returns-clause-prints c = same_as (sym (append_assoc c.args.word.now (space ∷ decimal c.args.n) (line_feed ∷ []))) (then c.named.ensures.prints c.text.ensures)
