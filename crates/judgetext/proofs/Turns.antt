-- A text that is read in turns.
-- Assumes nothing.
use Rattle.std.proofs.Common.{◌≡◌, ℕ, false, List, ◌++◌, refl}
use Rattle.rules.specs.Calls.{History}
use Rattle.rules.proofs.Tests.{never}
use Rattle.judgetext.specs.declared.Progress.{Progress}
use Rattle.judgetext.specs.Texts.{is_right, TextFollows, ended, stopped, read}
use Rattle.judgetext.specs.Theorems.{TextTurns}

-- what is over stays as it is
pub over_stays : {h next : History} {at after : Progress} (text : List ℕ) → is_right at.standing ≡ false → TextFollows h at text after next → (after ≡ at) × (next ≡ h)
over_stays text over ended = (refl, refl)
over_stays text over (stopped e) = (refl, refl)
over_stays text over (read going reads follows) = never going over

turned : {h between next : History} {at mid after : Progress} {front rest : List ℕ} → TextFollows h at front mid between → TextFollows between mid rest after next
    → TextFollows h at (front ++ rest) after next
turned ended second = second
turned {rest = rest} (stopped {h = h} {at = at} {b = b} {text = text} over) second =
    let same = over_stays rest over second in
    rw (same.0, same.1) (stopped {h = h} {at = at} {b = b} {text = text ++ rest} over)
turned (read going reads first) second = read going reads (turned first second)

pub follows_turns : TextTurns
follows_turns h between next at mid after front rest first second = turned first second
