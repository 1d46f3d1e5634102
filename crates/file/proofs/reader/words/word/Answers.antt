-- The word at a place: the four bytes from there on, joined in the order that is asked.
-- Assumes nothing.
use mathlib.Core.Path.{◌≡◌, subst⁻¹}
use native.Mathlib.Omega.{arith}
use Rattle.file.specs.Format.{word_at}
use Rattle.file.specs.declared.Order.{Order}
use Rattle.file.proofs.reader.words.word.Goals as goal

pub returns-in-Big : goal.returns-in-Big
unfolding word_at
returns-in-Big c = subst⁻¹ (λ (o : Order). c.from_be_bytes.result ≡ word_at o c.args.file.now c.args.at) c.in-Big.is (omega (arith, c.from_be_bytes.ensures))

pub returns-in-Little : goal.returns-in-Little
unfolding word_at
returns-in-Little c = subst⁻¹ (λ (o : Order). c.from_le_bytes.result ≡ word_at o c.args.file.now c.args.at) c.in-Little.is (omega (arith, c.from_le_bytes.ensures))
