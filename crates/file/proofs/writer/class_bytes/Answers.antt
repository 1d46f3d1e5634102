-- `file::writer::class_bytes` meets its contract: the class is the tree's, and the bytes are those of its curve's kind.
-- Assumes nothing.
use mathlib.Core.Path.{ap, ◌∙◌}
use Rattle.curve.specs.declared.codec.Code.{Code}
use Rattle.curve.proofs.Laws.Codec.{code_kind}
use Rattle.tree.specs.declared.Class.{Class}
use Rattle.file.specs.Format.{body_bytes}
use Rattle.file.specs.Writing.{curve_bytes}
use Rattle.file.proofs.writer.class_bytes.Goals as goal

pub returns : goal.returns
unfolding curve_bytes
returns c =
    c.body_bytes.ensures
    ∙ ap (λ (k : Code). body_bytes k.kind) c.from-code.ensures
    ∙ ap body_bytes (code_kind c.class_at.result.curve)
    ∙ ap (λ (k : Class). curve_bytes k.curve) c.class_at.ensures
