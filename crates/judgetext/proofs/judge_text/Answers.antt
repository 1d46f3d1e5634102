-- `judgetext::judge_text` meets its contract: what is left of the text decides, from the history that the arrays show.
-- Assumes nothing.
use Rattle.std.proofs.Common.{sym, ◌∙◌, arith}
use Rattle.judgetext.proofs.Onward.{onward_next, onward_stopped, onward_ended}
use Rattle.judgetext.proofs.judge_text.Goals as goal

pub returns-then-not-is_right : goal.returns-then-not-is_right
returns-then-not-is_right c =
    let loop = c.loop-byte in
    record { right = λ h law shows. onward_stopped (loop.invariant.1 h law shows) (omega arith) (sym c.is_right.ensures ∙ c.if-not-is_right.true); reached = loop.invariant.0 }

pub loop-byte-preserved : goal.loop-byte-preserved
loop-byte-preserved c =
    let loop = c.loop-byte in (
      c.read-here.ensures.reached,
      λ h law shows. onward_next (loop.invariant.1 h law shows) (omega arith) (sym c.is_right.ensures ∙ c.if-not-is_right.false) c.read-here.ensures.right,
    )

pub returns : goal.returns
returns c =
    let loop = c.loop-byte in
    record { right = λ h law shows. onward_ended (loop.invariant.1 h law shows) (omega arith); reached = loop.invariant.0 }
