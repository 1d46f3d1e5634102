-- `sched::depart` meets its contract: refused by the tick, or none waits, or the packet that the rules choose leaves; for every history that the arrays
-- show. Assumes nothing.
use Rattle.std.specs.Prelude.{Some, None, Ok, Err}
use Prim.Native.Nat.{ℕ}
use mathlib.Core.List.{List}
use mathlib.Core.Path.{◌≡◌}
use borrow.Author.Rules.{rules}
use Rattle.rules.specs.Calls.{left, History}
use Rattle.rules.specs.Lawful.{Allowed, Lawful}
use Rattle.rules.proofs.Allowed.{left_allowed}
use Rattle.rules.specs.Answers.{outcome, passed, departure_checks, ticks, next_clock}
use Rattle.state.specs.Heads.{EveryHistory}
use Rattle.state.specs.State.{Shows}
use Rattle.state.specs.Kinds.{NextClock}
use Rattle.state.specs.Steps.{tick_of}
use Rattle.state.specs.Table.{header_at}
use Rattle.state.specs.Columns.{CLOCK, STAMP}
use Rattle.state.specs.declared.choice.Sender.{Sender}
use Rattle.rules.specs.Choice.{Choice}
use Rattle.sched.specs.Promises.{DepartRight}
use Rattle.state.proofs.Shown.{clock_shown, stamp_shown, tick_passes, tick_timely, shown_told}
use Rattle.sched.proofs.DepartingCall.{refused_right, none_right, leaves_right, departs_reached}
use Rattle.sched.proofs.depart.Goals as goal

-- the clock has passed the checks 14 and 15, and the packet that leaves is the one that the rules choose
module _ {m l : List ℕ} {h : History} (law : Lawful h) (shows : Shows m l h) (stamp : ℕ) {ticked : NextClock}
    (told : ticked ≡ tick_of (header_at m CLOCK) (header_at m STAMP) stamp) {now : ℕ} (was : ticked ≡ Ok now) where
  passes : (outcome (departure_checks h.calls (ticks h stamp)) ≡ passed) × (now ≡ next_clock h stamp)
  passes = tick_passes h law shows stamp told now was

  allowed : {sender : Sender} → Choice h.tree h.calls now sender.class sender.rule → Allowed h.tree h.calls (left now sender.class sender.rule)
  allowed chosen = left_allowed (ticks h stamp) passes.1 passes.0 chosen

pub tick-requires : goal.tick-requires
tick-requires c = let p = c.requires in (clock_shown p.lawful p.shows, stamp_shown p.lawful p.shows)

pub choose-requires : goal.choose-requires
choose-requires c =
    let p = c.requires in
    (record { tree = p.history.tree; calls = p.history.calls; holds = shown_told p.lawful p.shows }, (tick_timely p.history p.lawful p.shows c.args.stamp c.tick.ensures _ c.in_ok-now.was).in_time)

pub take-packet-requires : goal.take-packet-requires
take-packet-requires c =
    let p = c.requires in
    record {
      history = p.history;
      lawful = p.lawful;
      shows = p.shows;
      holds =
          record {
            it = c.in_ok-now.now;
            holds = allowed p.lawful p.shows c.args.stamp c.tick.ensures c.in_ok-now.was (c.in-Some.ensures p.history.tree p.history.calls (shown_told p.lawful p.shows));
          };
    }

pub returns-in_err-now : goal.returns-in_err-now
returns-in_err-now c =
    let said : c.from_residual.result ≡ Err c.in_err-now.field-0.0 = search rules in
    let right : EveryHistory c.args.words.now c.args.lengths.now
    (λ h. DepartRight h c.args.stamp (Err c.in_err-now.field-0.0) c.args.words.now c.args.lengths.now) =
    λ h law shows. refused_right h law shows c.args.stamp c.tick.ensures _ c.in_err-now.was
    in
    rw said (record { right = right; reached = let p = c.requires in departs_reached p.lawful c.args.stamp _ (right p.history p.lawful p.shows) })

pub returns-in_default : goal.returns-in_default
returns-in_default c =
    let right : EveryHistory c.args.words.now c.args.lengths.now
    (λ h. DepartRight h c.args.stamp (Ok None) c.move_clock.new.words c.args.lengths.now) =
    λ h law shows.
    let timely = passes law shows c.args.stamp c.tick.ensures c.in_ok-now.was in
    none_right h law c.args.stamp c.ranges.stamp.fits shows timely.0 timely.1 (c.in_default.ensures h.tree h.calls (shown_told law shows)) c.move_clock.ensures
    in
    record { right = right; reached = let p = c.requires in departs_reached p.lawful c.args.stamp (Ok None) (right p.history p.lawful p.shows) }

pub returns : goal.returns
returns c =
    let right : EveryHistory c.args.words.now c.args.lengths.now
    (λ h. DepartRight h c.args.stamp (Ok (Some c.take-packet.result)) c.move_clock-2.new.words c.take-packet.new.lengths) =
    λ h law shows.
    let timely = passes law shows c.args.stamp c.tick.ensures c.in_ok-now.was in
    let may = allowed law shows c.args.stamp c.tick.ensures c.in_ok-now.was (c.in-Some.ensures h.tree h.calls (shown_told law shows)) in
    leaves_right h law c.args.stamp c.ranges.stamp.fits timely.0 timely.1 may (c.take-packet.ensures h law shows c.in_ok-now.now may) c.move_clock-2.ensures
    in
    record { right = right; reached = let p = c.requires in departs_reached p.lawful c.args.stamp (Ok (Some c.take-packet.result)) (right p.history p.lawful p.shows) }
