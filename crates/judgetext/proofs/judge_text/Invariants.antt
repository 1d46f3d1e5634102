use Rattle.state.specs.State.{Reached}
use Rattle.state.specs.Heads.{EveryHistory}
use Rattle.judgetext.proofs.Onward.{Onward}
use Rattle.judgetext.proofs.judge_text.Given as goal

abbrev pub invariant-loop-byte : goal.invariant-loop-byte
invariant-loop-byte l = Reached l.words l.lengths × EveryHistory l.initial.words l.initial.lengths (λ h. Onward h l.initial.here l.text l.byte-index l.here l.words l.lengths)
