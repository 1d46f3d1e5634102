-- The lines of a sheet, as docs/FORMS.md sets them down: words, each set off by a space, and the line's end.
-- Assumes nothing.
use Rattle.std.specs.Prelude.{ℕ, zero, suc, ◌+◌, ◌*◌, List, [], ◌∷◌, ◌++◌, get_or}
use Rattle.wording.specs.Letters.{colon}
use Rattle.wording.specs.Decimal.{decimal}
use Rattle.print.specs.Spelled.{class_word, number_word, real_time_word, eligible_word, deadline_word, waits_word, share_word, not_word, article_word}
use Rattle.print.specs.Lines.{further}
use Rattle.reason.specs.declared.Reason.{Reason}
use Rattle.reason.specs.declared.Reason.TheVariants.{NothingWaits, ChosenByDeadline, NoCurve, NotEligible, LaterDeadline, HigherNumber, ChosenByShare, PassedOver}
use Rattle.reason.specs.Reasons.{numbers, reason_of}
use Rattle.printwhy.specs.Spelled.{leaf_word, nothing_word, chosen_word, by_word, has_word, no_word, curve_word, until_word, behind_word, later_word, an_word, equal_word, and_word, higher_word, passed_word, over_word, at_word, for_word, child_word, with_word, virtual_word, time_word}

-- the words of a reason, which are request 5's: "nothing waits", "chosen by deadline", "has no real-time curve", "not eligible until a named tick" and the others
abbrev pub why_words_of : Reason → List (List ℕ)
why_words_of NothingWaits = nothing_word ∷ waits_word ∷ []
why_words_of ChosenByDeadline = chosen_word ∷ by_word ∷ deadline_word ∷ []
why_words_of NoCurve = has_word ∷ no_word ∷ real_time_word ∷ curve_word ∷ []
why_words_of (NotEligible until) = not_word ∷ eligible_word ∷ until_word ∷ decimal until ∷ []
why_words_of (LaterDeadline chosen) = behind_word ∷ leaf_word ∷ decimal chosen ∷ by_word ∷ article_word ∷ later_word ∷ deadline_word ∷ []
why_words_of (HigherNumber chosen) =
    behind_word ∷ leaf_word ∷ decimal chosen ∷ by_word ∷ an_word ∷ equal_word ∷ deadline_word ∷ and_word ∷ article_word ∷ higher_word ∷ number_word ∷ []
why_words_of ChosenByShare = chosen_word ∷ by_word ∷ share_word ∷ []
why_words_of (PassedOver class child time) =
    passed_word ∷ over_word ∷ at_word ∷ class_word ∷ decimal class ∷ for_word ∷ child_word ∷ decimal child ∷ with_word ∷ virtual_word ∷ time_word ∷ decimal time ∷ []

-- the words of a line behind its first, which is `leaf`: the leaf's number with a colon, and the reason
abbrev pub behind_leaf : (leaf : ℕ) → Reason → List (List ℕ)
behind_leaf leaf reason = (decimal leaf ++ (colon ∷ [])) ∷ why_words_of reason

-- the line of a leaf, as `leaf 4: has no real-time curve`
unfoldable pub why_line_of : (leaf : ℕ) → Reason → List ℕ
why_line_of leaf reason = leaf_word ++ further (behind_leaf leaf reason)

-- the line that the five numbers from a place on are printed as: the leaf, the reason's number and its values
abbrev pub line_text_at : (sheet : List ℕ) → (at : ℕ) → List ℕ
line_text_at sheet at = why_line_of (get_or sheet at 0) (reason_of (get_or sheet (at + 1) 0) (get_or sheet (at + 2) 0) (get_or sheet (at + 3) 0) (get_or sheet (at + 4) 0))

-- the text of a sheet of so many lines: "for every leaf, in number order", as they stand in it
unfoldable pub sheet_text : (sheet : List ℕ) → (lines : ℕ) → List ℕ
sheet_text sheet zero = []
sheet_text sheet (suc n) = sheet_text sheet n ++ line_text_at sheet (numbers * n)
