-- `printlog::refused` meets its contract: the record, and then the refusal's number as the last of the line.
-- Assumes nothing.
use Prim.Native.Nat.{ℕ}
use mathlib.Core.Path.{ap, sym}
use mathlib.Core.List.{[], ◌∷◌, ◌++◌}
use Rattle.wording.specs.Decimal.{decimal}
use Rattle.print.specs.Spelled.{refused_word}
use Rattle.print.specs.Lines.{further}
use Rattle.printlog.specs.Spelled.{record_word}
use Rattle.printlog.specs.Lines.{with_colon, log_line_of}
use Rattle.print.proofs.Stores.{then, same_as}
use Rattle.printlog.proofs.refused.Goals as goal

pub returns : goal.returns
unfolding further log_line_of
returns c = same_as (ap (λ (k : ℕ). record_word ++ further (with_colon (decimal c.args.number) ∷ refused_word ∷ decimal k ∷ [])) (sym c.number.ensures)) (then c.numbered.ensures.prints c.last.ensures.prints)
