-- `printwhy::line` meets its contract: the leaf's number, its colon, and then the reason.
-- Assumes nothing.
use Prim.Native.Nat.{ℕ}
use mathlib.Core.Path.{ap}
use mathlib.Core.List.{List, [], ◌∷◌, ◌++◌, append_assoc}
use Rattle.wording.specs.Letters.{space, colon}
use Rattle.wording.specs.Decimal.{decimal}
use Rattle.print.specs.Lines.{further}
use Rattle.print.proofs.Stores.{then, same_as}
use Rattle.printwhy.specs.Spelled.{leaf_word}
use Rattle.printwhy.specs.Lines.{why_words_of, why_line_of}
use Rattle.printwhy.proofs.line.Goals as goal

pub returns-clause-prints : goal.returns-clause-prints
unfolding further why_line_of
returns-clause-prints c =
    same_as
    (ap (λ (s : List ℕ). leaf_word ++ (space ∷ s)) (append_assoc (decimal c.args.leaf) (colon ∷ []) (further (why_words_of c.args.reason))))
    (then c.named.ensures.prints (then c.text.ensures c.why.ensures.prints))
