-- The text of a log of our own calls is accepted.
-- Assumes nothing.
use Rattle.std.proofs.Common.{◌≡◌, ℕ, true, List, ◌∷◌, sym, ap, ◌∙◌, subst}
use Rattle.rules.specs.Calls.{History}
use Rattle.rules.proofs.Tests.{never, and_left, and_right}
use Rattle.judge.specs.Kinds.{accepted}
use Rattle.judge.specs.Judging.{Judges, replayed}
use Rattle.judge.proofs.One.{judge_one}
use Rattle.judge.proofs.Own.{own_log_accepted}
use Rattle.logtext.specs.Scans.{before_text, seen_at}
use Rattle.logtext.specs.Texts.{is_no_error, numbers_of, is_well, scan_over}
use Rattle.logtext.proofs.Turns.{in_turns}
use Rattle.judgetext.specs.declared.Standing.{Standing}
use Rattle.judgetext.specs.declared.Standing.TheVariants.{Right, Wrong, NotANumber}
use Rattle.judgetext.specs.declared.Progress.{Progress}
use Rattle.judgetext.specs.Texts.{judgement_of}
use Rattle.judgetext.specs.Theorems.{UpTo, Means, OwnTextAccepted}
use Rattle.judgetext.proofs.Meaning.{text_judged}

-- a text with a word that is no number is not well
no_number : {A : Type 0} {h next : History} {text : List ℕ} {line : ℕ} → is_well before_text text ≡ true → UpTo h text line next → A
unfolding is_well
no_number well up =
    let front = up.front in
    let b = up.byte in
    let here = subst (λ (x : List ℕ). is_well before_text x ≡ true) up.text_is well in
    let all = sym (in_turns before_text front (b ∷ up.rest)).well ∙ here in
    let fine = and_left (is_no_error (seen_at (scan_over before_text front) b)) _ (and_right (is_well before_text front) _ all) in
    never fine (ap is_no_error up.no_number)

-- by how the text stands: its numbers are judged as the log is, or there is a word that is none
module _ {h next : History} (text : List ℕ) (well : is_well before_text text ≡ true) (at : Progress) where
  judged_by : (s : Standing) → Means h text s at next → Judges h 0 (numbers_of before_text text) (judgement_of at) next
  judged_by Right means = means.1
  judged_by (Wrong found) means = means
  judged_by (NotANumber line) means = no_number well means

pub own_text_accepted : OwnTextAccepted
own_text_accepted tree first log m l h small logs text well numbers fits start at next starts follows =
    let means = text_judged start text at next fits follows in
    let judges = subst (λ (x : List ℕ). Judges start 0 x (judgement_of at) next) numbers (judged_by text well at at.standing means) in (
      judge_one tree first log (judgement_of at) accepted small (replayed starts judges) (own_log_accepted tree first log m l h logs),
      λ line e. no_number well (subst (λ (s : Standing). Means start text s at next) e means),
    )
