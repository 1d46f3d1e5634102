-- The order of a file: the first word, read big-endian, is the mark or is not.
-- Assumes nothing.
use mathlib.Core.Path.{◌∙◌, sym, ap}
use borrow.Author.Tests.{eq-eqb, ne_eqb}
use Rattle.file.specs.Format.{order_of, order_if}
use Rattle.file.proofs.reader.words.order_of.Goals as goal

pub returns-then-word-eq-MARK : goal.returns-then-word-eq-MARK
unfolding order_of
returns-then-word-eq-MARK c = sym (ap order_if (eq-eqb _ _ (sym c.word.ensures ∙ c.if-word-eq-MARK.true)))

pub returns-else-word-eq-MARK : goal.returns-else-word-eq-MARK
unfolding order_of
returns-else-word-eq-MARK c = sym (ap order_if (ne_eqb _ _ (λ e. c.if-word-eq-MARK.false (c.word.ensures ∙ e))))
