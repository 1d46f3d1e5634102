-- Two log lines with the same text are equal, and a record's text is its numbers.
-- Assumes nothing.
use mathlib.Core.Path.{◌≡◌, refl, sym, ap, ◌∙◌}
use mathlib.Core.Bool.{true}
use mathlib.Core.List.{◌∷◌}
use Rattle.wording.proofs.Plain.{decimal_plain}
use Rattle.tree.proofs.Numbers.{refusal_by_number}
use Rattle.print.specs.Lines.{further}
use Rattle.print.proofs.Split.{plains, line_words}
use Rattle.print.proofs.LineOne.{plain_colon, plain_line, line_one}
use Rattle.printlog.specs.declared.LogLine.{LogLine}
use Rattle.printlog.specs.declared.LogLine.TheVariants.{Accepted, Malformed, Refused, AnotherChoice, Ours, Record}
use Rattle.printlog.specs.Lines.{log_head_of, log_words_of, log_line_of}
use Rattle.printlog.specs.Theorems.{LogLineOne, RecordLine}
use Rattle.printlog.proofs.LogBack.{why_in, why_number, why_back, answer_in, answer_text, answer_back, line_back}

-- every word of a line is plain
plain_log : (l : LogLine) → plains (log_head_of l ∷ log_words_of l) ≡ true
plain_log (Accepted records) = simp decimal_plain
plain_log (Malformed at) = simp plain_colon
plain_log (Refused at why) = simp (plain_colon, decimal_plain)
plain_log (AnotherChoice at) = simp plain_colon
plain_log (Ours answer) = plain_line answer
plain_log (Record n) = simp decimal_plain

-- so two lines with the same text have the same words
log_words : (k l : LogLine) → log_line_of k ≡ log_line_of l → log_head_of k ∷ log_words_of k ≡ log_head_of l ∷ log_words_of l
unfolding log_line_of
log_words k l = line_words (log_head_of k) (log_head_of l) (log_words_of k) (log_words_of l) (plain_log k) (plain_log l)

-- and are the line that is found from those
pub log_line_one : LogLineOne
log_line_one k l e =
    let words = log_words k l e in
    let why = refusal_by_number (why_in k) (why_in l) (sym (why_back k) ∙ ap why_number words ∙ why_back l) in
    let answer = line_one (answer_in k) (answer_in l) (sym (answer_back k) ∙ ap answer_text words ∙ answer_back l) in
    sym (line_back k) ∙ rw (why, answer, words) (line_back l)

pub record_line : RecordLine
unfolding log_line_of further
record_line a b c d = refl
