-- `judgetext::take` meets its contract: a number is held, or completes a record, which is replayed.
-- Assumes nothing.
use Rattle.judgetext.proofs.Steps.{number_right}
use Rattle.judgetext.proofs.take.Goals as goal

pub returns-in-Class : goal.returns-in-Class
returns-in-Class c =
    let replays = rw c.record_of-said.ensures at c.replay.ensures.right in record {
      right = λ h law shows.
          let right = replays h law shows in
          number_right {next = right.next} right.shows c.in-Class.is
          (record { found = c.replay.result; replayed = right.replayed; stands = c.complete.ensures });
      reached = c.replay.ensures.reached;
    }
