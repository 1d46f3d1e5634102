-- `print::put::Printer::faulty` meets its contract: the line's number, its colon, and then what is wrong.
-- Assumes nothing.
use Prim.Native.Nat.{ℕ}
use mathlib.Core.Path.{ap}
use mathlib.Core.List.{List, [], ◌∷◌, ◌++◌, append_assoc}
use Rattle.wording.specs.Letters.{space, colon}
use Rattle.wording.specs.Decimal.{decimal}
use Rattle.print.specs.Spelled.{line_word}
use Rattle.print.specs.Lines.{words_of_wrong, further, line_of}
use Rattle.print.proofs.Stores.{then, same_as}
use Rattle.print.proofs.put.Printer.faulty.Goals as goal

pub returns : goal.returns
unfolding further line_of
returns c =
    same_as
    (ap (λ (s : List ℕ). line_word ++ (space ∷ s)) (append_assoc (decimal c.args.number) (colon ∷ []) (further (words_of_wrong c.args.wrong))))
    (then c.named.ensures.prints (then c.text.ensures c.fault.ensures))
