-- What was seen so far is a part of some file, whose end was not told. Each turn but the last raises the count of bytes seen, which stops at 2^32.
use Rattle.std.proofs.Common.{◌-◌, ◌≡◌, length}
use Rattle.std.specs.Prelude.{false}
use Rattle.file.specs.Fronts.{most_seen}
use Rattle.bursts.specs.Theorems.{HoldsSome}
use Rattle.console.proofs.trees.turns.Given as goal

abbrev pub invariant-loop-seen : goal.invariant-loop-seen
invariant-loop-seen g l = record { not_ended : l.seen.ended ≡ false; turn : length l.bytes ≡ 65536; some : HoldsSome l.kept l.seen.count }

abbrev pub decreases-loop-seen : goal.decreases-loop-seen
decreases-loop-seen g l = most_seen - l.seen.count
