-- Every promise names one answer: two results that it allows are equal. Of the calls, `arrives_one` and `departs_one` (Answers) say it of the rules.
-- Assumes nothing.
use Rattle.std.proofs.Common.{◌≡◌, ℕ, sym, ◌∙◌}
use Rattle.rules.specs.Limits.{weigh}
use Rattle.rules.specs.Clock.{elapsed_ticks}

pub weigh_one : (length r s : ℕ) → r ≡ weigh length → s ≡ weigh length → r ≡ s
weigh_one length r s p q = p ∙ sym q

pub elapsed_one : (stamp last r s : ℕ) → r ≡ elapsed_ticks stamp last → s ≡ elapsed_ticks stamp last → r ≡ s
elapsed_one stamp last r s p q = p ∙ sym q
