-- `state::ticks::tick` meets its contract: the tests are the definition's, in its order.
-- Assumes nothing.
use Rattle.std.specs.Prelude.{Ok, Err}
use Prim.Native.Nat.{ℕ, ◌+◌, ◌≤◌, ◌<◌}
use mathlib.Core.Path.{◌≡◌, refl, ap, ◌∙◌}
use native.Mathlib.Omega.{arith}
use borrow.Author.Tests.{le-leb, lt-leb, lt-ltb, le-ltb}
use Rattle.curve.proofs.Laws.Answers.{told_yes, told_no}
use Rattle.tree.specs.declared.Refusal.TheVariants.{StampTooFar, ClockFull}
use Rattle.rules.specs.Limits.{last_tick, too_far}
use Rattle.rules.specs.Clock.{elapsed_ticks}
use Rattle.state.specs.Steps.{tick_of}
use Rattle.state.proofs.ticks.tick.Goals as goal
use Rattle.state.proofs.ticks.tick.Goals.{Else-too_far}

-- `read` is the last kept stamp as the code has it
module _ (clock last stamp read : ℕ) (same : read ≡ last) where
  ticks_are : elapsed_ticks stamp read ≡ elapsed_ticks stamp last
  ticks_are = ap (elapsed_ticks stamp) same

  far : too_far ≤ elapsed_ticks stamp read → Err StampTooFar ≡ tick_of clock last stamp
  unfolding tick_of
  far h = rw (le-leb too_far (elapsed_ticks stamp last) (omega (arith, ticks_are))) refl

  module _ (near : too_far ≤ elapsed_ticks stamp read → ⊥) (now elapsed : ℕ) (k : now ≡ clock) (e : elapsed ≡ elapsed_ticks stamp read) where
    full : last_tick < now + elapsed → Err ClockFull ≡ tick_of clock last stamp
    unfolding tick_of
    full l =
        rw (lt-leb too_far (elapsed_ticks stamp last) (omega (arith, ticks_are)), lt-ltb last_tick (clock + elapsed_ticks stamp last) (omega (arith, ticks_are))) refl

    kept : now + elapsed ≤ last_tick → Ok (now + elapsed) ≡ tick_of clock last stamp
    unfolding tick_of
    kept l =
        rw (lt-leb too_far (elapsed_ticks stamp last) (omega (arith, ticks_are)), le-ltb last_tick (clock + elapsed_ticks stamp last) (omega (arith, ticks_are)))
        (λ i. Ok (k i + (e ∙ ticks_are) i))

-- fewer than 2^31 ticks have elapsed
near-told : (c : Else-too_far) → too_far ≤ elapsed_ticks c.args.stamp c.header-last.result → ⊥
near-told c = told_no c.too_far.result c.too_far.ensures c.if-too_far.false

pub returns-then-too_far : goal.returns-then-too_far
returns-then-too_far c =
    let asked = c in
    far _ _ _ _ asked.header-last.ensures (told_yes asked.too_far.result asked.too_far.ensures c.if-too_far.true)

pub returns-then-now-gt-LAST_TICK : goal.returns-then-now-gt-LAST_TICK
returns-then-now-gt-LAST_TICK c =
    let read = c in
    full _ _ _ _ read.header-last.ensures (near-told read.before.before.before) read.header.result c.elapsed.result read.header.ensures
    c.elapsed.ensures c.if-now-gt-LAST_TICK.true

pub returns : goal.returns
returns c =
    let read = c in
    kept _ _ _ _ read.header-last.ensures (near-told read.before.before.before) read.header.result c.elapsed.result read.header.ensures
    c.elapsed.ensures c.if-now-gt-LAST_TICK.false
