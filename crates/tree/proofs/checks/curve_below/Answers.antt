-- `tree::checks::curve_below` meets its contract: the definition goes by whether there is such a class, as the code does.
-- Assumes nothing.
use mathlib.Core.Path.{sym, ap, ◌∙◌}
use Rattle.tree.specs.declared.Class.{Class}
use Rattle.tree.proofs.Curves.{curve_below_lem, curve_above}
use Rattle.tree.proofs.checks.curve_below.Goals as goal

pub returns-then-tree-class : goal.returns-then-tree-class
returns-then-tree-class c = sym (curve_above c.args.tree c.args.class c.if-tree-class.true)

pub returns : goal.returns
returns c =
    let args = c.args in
    ap (λ (k : Class). k.curve) c.class_at.ensures ∙ sym (curve_below_lem args.tree args.class c.if-tree-class.false)
