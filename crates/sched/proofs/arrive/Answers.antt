-- `sched::arrive` meets its contract: 14 and 15, then what the leaf answers; the clock moves exactly where the packet was accepted. Assumes nothing.
use mathlib.Core.Path.{◌≡◌}
use borrow.Author.Rules.{rules}
use Rattle.std.specs.Prelude.{Err}
use Rattle.state.proofs.Shown.{clock_shown, stamp_shown}
use Rattle.sched.proofs.Arriving.{promised, tick_refuses, accepted_right, unmoved_right}
use Rattle.sched.proofs.arrive.Goals as goal

pub tick-requires : goal.tick-requires
tick-requires c =
    let pre = c.requires in
    (clock_shown pre.lawful pre.shows, stamp_shown pre.lawful pre.shows)

-- clauses: right reached
pub returns-in_err-now : goal.returns-in_err-now
returns-in_err-now c =
    let said : c.from_residual.result ≡ Err c.in_err-now.field-0.0 = search rules in
    let both = promised c.requires (λ h law s. tick_refuses law s c.args.stamp c.args.class c.args.length c.tick.ensures _ c.in_err-now.was) in
    rw said (record { right = both.0; reached = both.1 })

-- clauses: right reached
pub returns-in_err-number : goal.returns-in_err-number
returns-in_err-number c =
    let said : c.from_residual-in_err-number.result ≡ Err c.in_err-number.field-0.0 = search rules in
    let both = promised c.requires (λ h law s.
    unmoved_right law s c.args.stamp c.args.class c.args.length c.tick.ensures _ c.in_ok-now.was _ _ _ (c.in_err-number.ensures h law s)) in
    rw said (record { right = both.0; reached = both.1 })

-- clauses: right reached
pub returns : goal.returns
returns c =
    let both = promised c.requires (λ h law s.
    accepted_right law s c.args.stamp c.args.class c.args.length c.tick.ensures _ c.in_ok-now.was _ _ c.ranges.stamp.fits (c.in_ok-number.ensures h law s) c.move_clock.ensures) in
    record { right = both.0; reached = both.1 }
