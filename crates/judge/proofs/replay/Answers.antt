-- `judge::replay` meets its contract: each record is replayed by its call, and found to be what the answer says.
-- Assumes nothing.
use Rattle.judge.proofs.Replaying.{departure_replayed, empty_replayed}
use Rattle.judge.proofs.replay.Goals as goal

pub returns-in-Departed : goal.returns-in-Departed
returns-in-Departed c = record { right = rw c.in-Departed.is (λ h law shows. departure_replayed (c.depart.ensures.right h law shows) c.of_departure.ensures); reached = c.depart.ensures.reached }

pub returns-in-FoundEmpty : goal.returns-in-FoundEmpty
returns-in-FoundEmpty c = record { right = rw c.in-FoundEmpty.is (λ h law shows. empty_replayed (c.depart-in-FoundEmpty.ensures.right h law shows) c.of_empty.ensures); reached = c.depart-in-FoundEmpty.ensures.reached }
