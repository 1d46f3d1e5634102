-- The proof of the cycle of calls {raise_from}: each call brings up one class, and goes on with its parent. The measure is the class's number.
-- Assumes nothing.
use native.Mathlib.Omega.{arith}
use Rattle.fair.proofs.RestingSteps.{some_of}
use Rattle.fair.proofs.RestingLift.{lifting_narrow, lifting_sum, lifted_last, raises_here, falls_step, lifting_step, lifted_step}
use Rattle.fair.proofs.+raise_from.Goals as goal

pub get-sent-requires : goal.get-sent-requires
get-sent-requires t c = (lifting_narrow c.requires.holds.holds, omega arith)

pub overflow_add-sent : goal.overflow_add-sent
overflow_add-sent t c = record { fits = omega (arith, lifting_sum c.requires.holds.holds, c.get-sent.ensures) }

pub put-requires : goal.put-requires
put-requires t c = (lifting_narrow c.requires.holds.holds, omega arith)

pub returns-then-class-eq0 : goal.returns-then-class-eq0
returns-then-class-eq0 t c = λ tree cs leaf b. lifted_last b c.get-sent.ensures c.put.ensures c.if-class-eq0.true

pub bring_up-requires : goal.bring_up-requires
bring_up-requires t c =
    raises_here c.requires.holds.holds c.get-sent.ensures c.put.ensures (some_of c.if-class-eq0.false)

pub get-parent-requires : goal.get-parent-requires
get-parent-requires t c = (lifting_narrow c.requires.holds.holds, omega arith)

pub raise_from-requires : goal.raise_from-requires
raise_from-requires t c = (
  rw c.decreases at
      (falls_step c.requires.holds.holds c.get-sent.ensures c.put.ensures (some_of c.if-class-eq0.false) c.bring_up.ensures
      c.get-parent.result c.get-parent.ensures),
  record {
    tree = c.requires.tree;
    calls = c.requires.calls;
    holds = record {
      it = c.requires.holds.it;
      holds = lifting_step c.requires.holds.holds c.get-sent.ensures c.put.ensures (some_of c.if-class-eq0.false) c.bring_up.ensures
          c.get-parent.result c.get-parent.ensures;
    };
  },
)

pub returns : goal.returns
returns t c = λ tree cs leaf b.
    lifted_step b c.get-sent.ensures c.put.ensures (some_of c.if-class-eq0.false) c.bring_up.ensures
    c.get-parent.result c.get-parent.ensures
    (λ lifting. c.raise_from.ensures tree cs leaf lifting)
