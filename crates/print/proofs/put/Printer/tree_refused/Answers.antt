-- `print::put::Printer::tree_refused` meets its contract: the refusal's number, and then the class as the last of the line.
-- Assumes nothing.
use Prim.Native.Nat.{ℕ}
use mathlib.Core.Path.{ap, sym}
use mathlib.Core.List.{[], ◌∷◌, ◌++◌}
use Rattle.wording.specs.Decimal.{decimal}
use Rattle.print.specs.Spelled.{refused_word, class_word}
use Rattle.print.specs.Lines.{further, line_of}
use Rattle.print.proofs.Stores.{then, same_as}
use Rattle.print.proofs.put.Printer.tree_refused.Goals as goal

pub returns : goal.returns
unfolding further line_of
returns c = same_as (ap (λ (k : ℕ). refused_word ++ further (decimal k ∷ class_word ∷ decimal c.args.class ∷ [])) (sym c.number.ensures)) (then c.named.ensures.prints c.last.ensures.prints)
