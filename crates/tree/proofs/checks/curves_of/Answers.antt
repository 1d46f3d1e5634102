-- `tree::checks::curves_of` meets its contract: the loop's invariant is that every entry passed is the curve of the class of its number.
-- Assumes nothing.
use mathlib.Core.Path.{◌≡◌, sym, ◌∙◌}
use native.Mathlib.Omega.{arith}
use lib.ListN.{length}
use lib.Seq.{ext_get_or}
use Rattle.curve.specs.declared.Curve.TheVariants.{None}
use Rattle.tree.specs.Trees.{most_classes, curves_of}
use Rattle.tree.proofs.Curves.{curves_length, curves_at}
use Rattle.tree.proofs.checks.curves_of.Goals as goal

pub returns : goal.returns
returns c =
    let tree = c.args.tree in
    let last = c.loop-i in
    let held : length last.curves ≡ most_classes = last.invariant.1 in
    ext_get_or None last.curves (curves_of tree) (held ∙ sym (curves_length tree))
    (λ k l. last.invariant.2 k (omega arith) ∙ sym (curves_at tree k (omega arith)))
