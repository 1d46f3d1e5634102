-- `tree::check` meets its contract: a shape that is refused is refused so; and where it is right the curves decide.
-- Assumes nothing.
use mathlib.Core.List.{List}
use mathlib.Core.Path.{◌≡◌, subst}
use borrow.Author.Rules.{rules}
use Rattle.std.specs.Prelude.{Err}
use Rattle.curve.specs.Answers.{Exactly}
use Rattle.curve.specs.Fit.{CurvesFit}
use Rattle.curve.specs.declared.Curve.{Curve}
use Rattle.curve.proofs.Laws.Answers.{told_yes, told_no}
use Rattle.tree.specs.Rules.{RightShape, FitChecked}
use Rattle.tree.specs.Trees.{curves_of}
use Rattle.tree.specs.Verdicts.{Verdict, all_right}
use Rattle.tree.proofs.Verdicts.{shape_refused, judged_shape, refused-10, right_judged}
use Rattle.tree.proofs.check.Goals as goal
use Rattle.tree.proofs.check.Goals.{After-fits, In_ok-shape}

abbrev Last : Verdict → Type 0
Last v = v ≡ all_right

-- what the steps passed have shown
shaped : (c : In_ok-shape) → RightShape c.args.tree
shaped c = judged_shape _ c.in_ok-shape.ensures

fit : (c : After-fits) → Exactly c.fits.result (CurvesFit (curves_of c.args.tree))
fit c = subst (λ (l : List Curve). Exactly c.fits.result (CurvesFit l)) c.curves_of.ensures c.fits.ensures

pub returns-in_err-shape : goal.returns-in_err-shape
returns-in_err-shape c =
    let said : c.from_residual.result ≡ Err c.in_err-shape.field-0.0 = search rules in
    rw said (shape_refused c.args.tree (FitChecked c.args.tree Last) _ _ c.in_err-shape.ensures)

pub returns-then-fits : goal.returns-then-fits
returns-then-fits c =
    right_judged _ (record { shape = shaped c.before.before.before; fit = told_yes c.fits.result (fit c.before) c.if-fits.true })

pub returns-else-fits : goal.returns-else-fits
returns-else-fits c =
    let asked = c.before.before in
    rw c.refused.ensures
    (refused-10 _ Last (shaped asked.before.before) (told_no asked.fits.result (fit asked) c.if-fits.false))
