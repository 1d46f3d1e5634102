use Rattle.std.specs.Prelude.{◌*◌}
use Rattle.state.specs.State.{Reached}
use Rattle.state.specs.Heads.{EveryHistory}
use Rattle.judge.proofs.Judging.{Onward}
use Rattle.judge.proofs.judge_part.Given as goal

abbrev pub invariant-loop-record : goal.invariant-loop-record
invariant-loop-record l = Reached l.words l.lengths × EveryHistory l.initial.words l.initial.lengths (λ h. Onward h l.log l.«record» (4 * l.«record») l.words l.lengths)
