-- `print::put::Printer::spelled` meets its contract: the library's digits are the number's.
-- Assumes nothing.
use mathlib.Core.Path.{sym, ◌∙◌}
use Rattle.print.proofs.Digits.{same_digits}
use Rattle.print.proofs.Stores.{same_as}
use Rattle.print.proofs.put.Printer.spelled.Goals as goal

pub returns-clause-prints : goal.returns-clause-prints
returns-clause-prints c = same_as (same_digits c.args.n c.ranges.n.fits ∙ sym (c.as_bytes.ensures.value ∙ c.format.ensures.text)) c.text.ensures
