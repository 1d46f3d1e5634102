-- `curve::Curve::earliest` meets its contract: each kind of curve has its own quotient. Up to what a front-loaded one has at its bend its first slope
-- decides, past it its last.
-- Assumes nothing.
use native.Mathlib.Omega.{arith}
use Rattle.curve.specs.Curves.{Rising}
use Rattle.curve.proofs.Laws.Division.{line_most, straight_least, front_least, front_past_least, delayed_least}
use Rattle.curve.proofs.Curve.earliest.Goals as goal

pub overflow_add-result : goal.overflow_add-result
unfolding Rising
overflow_add-result c =
    let right = rw c.in-FrontLoaded.is at c.requires.0 in
    omega (arith, line_most right.last.above c.rise_time-else-parts-turn.ensures, right.bend.below, c.requires.1)

pub overflow_add-result-in-Delayed-2 : goal.overflow_add-result-in-Delayed-2
unfolding Rising
overflow_add-result-in-Delayed-2 c =
    let right = rw c.in-Delayed-2.is at c.requires.0 in
    omega (arith, line_most right.rate.above c.rise_time-in-Delayed-2.ensures, right.bend.below, c.requires.1)

pub returns-in-Straight : goal.returns-in-Straight
returns-in-Straight c = rw c.in-Straight.is (straight_least _ _ c.rise_time.ensures)

pub returns-then-parts-turn : goal.returns-then-parts-turn
returns-then-parts-turn c =
    rw c.in-FrontLoaded.is
    (front_least _ _ _ _ (rw (c.from.ensures, c.from-in-FrontLoaded.ensures) at c.if-parts-turn.true) c.rise_time-then-parts-turn.ensures)

pub returns-else-parts-turn : goal.returns-else-parts-turn
returns-else-parts-turn c =
    rw (c.in-FrontLoaded.is, c.from-else-parts-turn.ensures)
    (front_past_least _ _ _ _ (rw (c.from.ensures, c.from-in-FrontLoaded.ensures) at c.if-parts-turn.false)
    (rw (c.from.ensures, c.from-in-FrontLoaded.ensures) at c.rise_time-else-parts-turn.ensures))

pub returns-in-Delayed-2 : goal.returns-in-Delayed-2
returns-in-Delayed-2 c =
    rw (c.in-Delayed-2.is, c.from-in-Delayed-2.ensures) (delayed_least _ _ _ (omega arith) c.rise_time-in-Delayed-2.ensures)
