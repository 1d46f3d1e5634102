-- `judge::judge_part` meets its contract: what is left to judge decides, from the history that the arrays show.
-- Assumes nothing.
use Prim.Native.Nat.{ℕ, ◌+◌, ◌*◌, ◌/◌}
use mathlib.Core.Path.{◌≡◌, subst}
use mathlib.Core.Bool.{false}
use native.Mathlib.Omega.{arith}
use lib.ListN.{length}
use Rattle.std.specs.Prelude.{Err}
use Rattle.judge.specs.declared.Rejection.TheVariants.{Malformed}
use Rattle.judge.specs.Kinds.{no_flaw}
use Rattle.judge.specs.Judging.{holds}
use Rattle.judge.specs.Promises.{PartRight}
use Rattle.judge.proofs.Judging.{Onward, onward_next, onward_wrong, onward_short, onward_ended}
use Rattle.judge.proofs.judge_part.Goals as goal

pub returns-then-is_err : goal.returns-then-is_err
returns-then-is_err c =
    let finds = rw c.record_at.ensures at c.replay-finding.ensures.right in
    let found : holds c.replay-finding.result ≡ false = grind arith in
    record {
      right = λ h law shows. rw c.name.ensures (onward_wrong (c.loop-record.invariant.1 h law shows) (omega arith) finds found);
      reached = c.replay-finding.ensures.reached;
    }

pub loop-record-preserved : goal.loop-record-preserved
loop-record-preserved c =
    let finds = rw c.record_at.ensures at c.replay-finding.ensures.right in
    let right : c.replay-finding.result ≡ no_flaw = grind arith in
    let next : 4 * c.loop-record.record + 4 ≡ 4 * (c.loop-record.record + 1) = omega arith in (
      c.replay-finding.ensures.reached,
      λ h law shows.
          subst (λ (at : ℕ). Onward h c.args.log.now (c.loop-record.record + 1) at c.replay-finding.new.words c.replay-finding.new.lengths) next
          (onward_next (c.loop-record.invariant.1 h law shows) (omega arith) finds right),
    )

pub returns-then-records-log : goal.returns-then-records-log
returns-then-records-log c =
    let all : c.loop-record.record ≡ length c.args.log.now / 4 = omega arith in
    record {
      right = λ h law shows.
          subst (λ (k : ℕ). PartRight h c.args.log.now (Err (Malformed k)) c.loop-record.words c.loop-record.lengths) all
          (onward_short (c.loop-record.invariant.1 h law shows) (omega arith) (omega arith));
      reached = c.loop-record.invariant.0;
    }

pub returns : goal.returns
returns c =
    record { right = λ h law shows. onward_ended (c.loop-record.invariant.1 h law shows) (omega arith); reached = c.loop-record.invariant.0 }
