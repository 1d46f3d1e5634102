-- `why::by_deadline` meets its contract: each test reads a column of the leaf, or compares it with the chosen leaf's.
-- Assumes nothing.
use mathlib.Core.Path.{sym, ◌∙◌, subst}
use Prim.Native.Nat.{ℕ}
use native.Mathlib.Omega.{arith}
use Rattle.reason.specs.declared.Reason.TheVariants.{NotEligible}
use Rattle.why.specs.Why.{Holds}
use Rattle.why.proofs.Deadlines.{asked_narrow, chosen_narrow, is_bare, is_early, is_later, is_higher}
use Rattle.why.proofs.by_deadline.Goals as goal

pub get-requires : goal.get-requires
get-requires c = (asked_narrow c.requires.holds, omega arith)

pub returns-then-get-eq0 : goal.returns-then-get-eq0
returns-then-get-eq0 c = λ tree cs a. is_bare a (sym c.get.ensures ∙ c.if-get-eq0.true)

pub get-eligible-requires : goal.get-eligible-requires
get-eligible-requires c = (asked_narrow c.requires.holds, omega arith)

pub returns-then-tick-eligible : goal.returns-then-tick-eligible
returns-then-tick-eligible c = λ tree cs a.
    let some = c in
    subst (λ (e : ℕ). Holds tree cs some.args.tick some.args.leaf (NotEligible e)) (sym c.get-eligible.ensures)
    (is_early a (λ e. some.if-get-eq0.false (some.get.ensures ∙ e)) (omega (arith, c.get-eligible.ensures, c.if-tick-eligible.true)))

pub get-requires-2 : goal.get-requires-2
get-requires-2 c = (chosen_narrow c.requires.holds, omega arith)

pub get-requires-3 : goal.get-requires-3
get-requires-3 c = (asked_narrow c.requires.holds, omega arith)

pub returns-then-get : goal.returns-then-get
returns-then-get c = λ tree cs a.
    let later = c in
    let some = later in
    is_later a (λ e. some.if-get-eq0.false (some.get.ensures ∙ e)) (omega (arith, later.get-eligible.ensures, later.if-tick-eligible.false))
    (omega (arith, c.get-2.ensures, c.get-3.ensures, c.if-get.true))

pub returns : goal.returns
returns c = λ tree cs a.
    let later = c in
    let some = later in
    is_higher a (λ e. some.if-get-eq0.false (some.get.ensures ∙ e)) (omega (arith, later.get-eligible.ensures, later.if-tick-eligible.false))
    some.if-leaf-chosen.false (omega (arith, c.get-2.ensures, c.get-3.ensures, c.if-get.false))
