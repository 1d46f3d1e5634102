-- `sched::receive` meets its contract: the checks 11, 12, 13 and 16, and an accepted packet in its queue.
-- Assumes nothing.
use mathlib.Core.Path.{refl}
use Rattle.sched.proofs.Arriving.{now_allowed}
use Rattle.sched.proofs.receive.Goals as goal

pub accept-requires : goal.accept-requires
accept-requires c =
    let pre = c.requires.reached in
    record {
      history = pre.history;
      lawful = pre.lawful;
      shows = pre.shows;
      holds =
          now_allowed pre.lawful pre.shows c.requires.stamp c.args.class c.args.length c.requires.ticked _ refl
          (c.in_ok-admit.ensures c.args.lengths.now pre.history pre.lawful pre.shows);
    }

pub returns : goal.returns
returns c = λ h law s.
    let opened = c.in_ok-admit.ensures c.args.lengths.now h law s in
    record {
      checked = opened;
      right = c.accept.ensures h law s (now_allowed law s c.requires.stamp c.args.class c.args.length c.requires.ticked _ refl opened);
    }
