-- `judge::judge` meets its contract: the start's refusal, or the judgement of the records from the history that it starts.
-- Assumes nothing.
use Rattle.std.proofs.Common.{rules}
use Rattle.judge.proofs.Judging.{judged_unstarted, judged_replayed}
use Rattle.judge.proofs.judge.Goals as goal

pub returns-in_err-start : goal.returns-in_err-start
returns-in_err-start c = judged_unstarted c.start.ensures.right (λ u e. search rules) (λ fault e. search rules)

pub returns : goal.returns
returns c = judged_replayed c.start.ensures.right (search rules) (search rules) c.judge_part.ensures.right
