-- Two lines of a sheet with the same text are of the same leaf and the same reason.
-- Assumes nothing.
use Prim.Native.Nat.{ℕ}
use mathlib.Core.Path.{◌≡◌, sym, ap, ◌∙◌}
use mathlib.Core.Bool.{true}
use mathlib.Core.List.{◌∷◌}
use Rattle.wording.proofs.Plain.{decimal_plain}
use Rattle.print.proofs.Split.{plains, line_words}
use Rattle.print.proofs.LineOne.{plain_colon}
use Rattle.reason.specs.declared.Reason.{Reason}
use Rattle.reason.specs.declared.Reason.TheVariants.{NothingWaits, ChosenByDeadline, NoCurve, NotEligible, LaterDeadline, HigherNumber, ChosenByShare, PassedOver}
use Rattle.printwhy.specs.Spelled.{leaf_word}
use Rattle.printwhy.specs.Lines.{behind_leaf, why_line_of}
use Rattle.printwhy.specs.Theorems.{WhyLineOne}
use Rattle.printwhy.proofs.WhyBack.{leaf_in, leaf_back, reason_in, reason_back}

-- every word of a line is plain
plain_why : (leaf : ℕ) (reason : Reason) → plains (leaf_word ∷ behind_leaf leaf reason) ≡ true
plain_why leaf NothingWaits = simp plain_colon
plain_why leaf ChosenByDeadline = simp plain_colon
plain_why leaf NoCurve = simp plain_colon
plain_why leaf (NotEligible until) = simp (plain_colon, decimal_plain)
plain_why leaf (LaterDeadline chosen) = simp (plain_colon, decimal_plain)
plain_why leaf (HigherNumber chosen) = simp (plain_colon, decimal_plain)
plain_why leaf ChosenByShare = simp plain_colon
plain_why leaf (PassedOver class child time) = simp (plain_colon, decimal_plain)

-- so two lines with the same text have the same words
why_words : (k l : ℕ) (a b : Reason) → why_line_of k a ≡ why_line_of l b → leaf_word ∷ behind_leaf k a ≡ leaf_word ∷ behind_leaf l b
unfolding why_line_of
why_words k l a b = line_words leaf_word leaf_word (behind_leaf k a) (behind_leaf l b) (plain_why k a) (plain_why l b)

-- and are of the leaf and the reason that are found from those
pub why_line_one : WhyLineOne
why_line_one k l a b e =
    let words = why_words k l a b e in
    (sym (leaf_back k a) ∙ ap leaf_in words ∙ leaf_back l b, sym (reason_back k a) ∙ ap reason_in words ∙ reason_back l b)
