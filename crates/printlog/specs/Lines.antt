-- The lines of a judged log, and of a log's record, as docs/FORMS.md sets them down: words, each set off by a space, and the line's end.
-- Assumes nothing.
use Rattle.std.specs.Prelude.{ℕ, List, [], ◌∷◌, ◌++◌}
use Rattle.wording.specs.Letters.{colon}
use Rattle.wording.specs.Decimal.{decimal}
use Rattle.tree.specs.Numbers.{number_of}
use Rattle.print.specs.Spelled.{accepted_word, refused_word}
use Rattle.print.specs.Lines.{head_of, words_of, further}
use Rattle.printlog.specs.declared.LogLine.{LogLine}
use Rattle.printlog.specs.declared.LogLine.TheVariants.{Accepted, Malformed, Refused, AnotherChoice, Ours, Record}
use Rattle.printlog.specs.Spelled.{record_word, records_word, malformed_word, another_word, choice_word, our_word, rules_word}

-- a word with a colon behind it
abbrev pub with_colon : List ℕ → List ℕ
with_colon word = word ++ (colon ∷ [])

-- the first word of a line, and the others. `our rules:` stands before the line of an answer; a record's line is its four numbers.
abbrev pub log_head_of : LogLine → List ℕ
log_head_of (Accepted records) = accepted_word
log_head_of (Malformed at) = record_word
log_head_of (Refused at why) = record_word
log_head_of (AnotherChoice at) = record_word
log_head_of (Ours answer) = our_word
log_head_of (Record n) = decimal n.kind

abbrev pub log_words_of : LogLine → List (List ℕ)
log_words_of (Accepted records) = decimal records ∷ records_word ∷ []
log_words_of (Malformed at) = with_colon (decimal at) ∷ malformed_word ∷ []
log_words_of (Refused at why) = with_colon (decimal at) ∷ refused_word ∷ decimal (number_of why) ∷ []
log_words_of (AnotherChoice at) = with_colon (decimal at) ∷ another_word ∷ choice_word ∷ []
log_words_of (Ours answer) = with_colon rules_word ∷ head_of answer ∷ words_of answer
log_words_of (Record n) = decimal n.stamp ∷ decimal n.class ∷ decimal n.length ∷ []

-- the line
unfoldable pub log_line_of : LogLine → List ℕ
log_line_of line = log_head_of line ++ further (log_words_of line)
