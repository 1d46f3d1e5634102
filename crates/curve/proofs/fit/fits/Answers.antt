-- `curve::fit::fits` meets its contract. Its invariant: the curves fit at each bend passed. A bend at which they do not refutes fit; all bends and
-- the last slopes are enough for it.
-- Assumes nothing.
use mathlib.Core.Path.{ap}
use mathlib.Core.Bool.{not}
use native.Mathlib.Omega.{arith}
use Rattle.curve.proofs.Laws.Answers.{untold_no, exactly_iff}
use Rattle.curve.proofs.Laws.Fit.{bends_enough, slopes_needed, fit_at, every_bend}
use Rattle.curve.proofs.fit.fits.Goals as goal

pub returns-then-not-fits_at : goal.returns-then-not-fits_at
returns-then-not-fits_at c = λ fit. untold_no c.fits_at.result c.fits_at.ensures (ap not c.if-not-fits_at.true) (fit_at _ fit _)

pub returns : goal.returns
returns c = exactly_iff c.slopes_fit.result (bends_enough _ (every_bend _ _ (λ k l. c.loop-curve.invariant k (omega arith)))) (slopes_needed _) c.slopes_fit.ensures
