-- Two answers with the same line are equal.
-- Assumes nothing.
use Rattle.std.specs.Prelude.{Option, Some}
use Prim.Native.Nat.{ℕ}
use mathlib.Core.Path.{◌≡◌, refl, sym, ap, ap₂, ◌∙◌}
use mathlib.Core.Bool.{true}
use mathlib.Core.List.{[], ◌∷◌, ◌++◌}
use Rattle.wording.specs.Letters.{colon}
use Rattle.wording.specs.Decimal.{decimal}
use Rattle.wording.proofs.Plain.{is_plain, every, every_append, decimal_plain}
use Rattle.curve.specs.declared.Curve.{Curve}
use Rattle.curve.specs.declared.Curve.TheVariants.{None, Straight, FrontLoaded, Delayed}
use Rattle.tree.proofs.Numbers.{refusal_by_number}
use Rattle.rules.specs.declared.Rule.{Rule}
use Rattle.rules.specs.declared.Rule.TheVariants.{RealTime, Fair}
use Rattle.rules.specs.declared.Times.{Times}
use Rattle.print.specs.declared.Wrong.{Wrong}
use Rattle.print.specs.declared.Wrong.TheVariants.{NotACall, NotAClass, NotANumber, TooLarge, StartFirst, StartedAlready, TreeFirst, NextClass}
use Rattle.print.specs.declared.Answer.{Answer}
use Rattle.print.specs.declared.Answer.TheVariants.{Started, TreeRefused, Accepted, Refused, Leaves, NoneWaits, TreeHead, ClassOf, Faulty}
use Rattle.print.specs.Lines.{word_of_rule, words_of_times, words_of_curve, words_of_wrong, head_of, words_of, line_of}
use Rattle.print.specs.Theorems.{LineOne}
use Rattle.print.proofs.Split.{plains, line_words}
use Rattle.print.proofs.Back.{why_of, why_number, why_back, answer_of, answer_back}

-- every word of a line is plain
plain_rule : (r : Rule) → every is_plain (word_of_rule r) ≡ true
plain_rule RealTime = refl
plain_rule Fair = refl

plain_times : (t : Option Times) → plains (words_of_times t) ≡ true
plain_times Option.None = refl
plain_times (Some times) = simp decimal_plain

plain_curve : (k : Curve) → plains (words_of_curve k) ≡ true
plain_curve None = refl
plain_curve (Straight rate) = simp decimal_plain
plain_curve (FrontLoaded first bend last) = simp decimal_plain
plain_curve (Delayed bend rate) = simp decimal_plain

plain_wrong : (w : Wrong) → plains (words_of_wrong w) ≡ true
plain_wrong NotACall = refl
plain_wrong NotAClass = refl
plain_wrong NotANumber = refl
plain_wrong TooLarge = refl
plain_wrong StartFirst = refl
plain_wrong StartedAlready = refl
plain_wrong TreeFirst = refl
plain_wrong (NextClass n) = simp decimal_plain

pub plain_colon : (n : ℕ) → every is_plain (decimal n ++ (colon ∷ [])) ≡ true
plain_colon n = every_append is_plain (decimal n) (colon ∷ []) (decimal_plain n) refl

pub plain_line : (a : Answer) → plains (head_of a ∷ words_of a) ≡ true
plain_line (Started count) = simp decimal_plain
plain_line (TreeRefused why class) = simp decimal_plain
plain_line (Accepted n) = simp decimal_plain
plain_line (Refused why) = simp decimal_plain
plain_line (Leaves packet) = simp (decimal_plain, plain_rule, plain_times)
plain_line NoneWaits = refl
plain_line TreeHead = refl
plain_line (ClassOf n class) = simp (decimal_plain, plain_curve)
plain_line (Faulty n wrong) = simp (plain_colon, plain_wrong)

-- so two answers with the same line have the same words
words_one : (a b : Answer) → line_of a ≡ line_of b → head_of a ∷ words_of a ≡ head_of b ∷ words_of b
unfolding line_of
words_one a b = line_words (head_of a) (head_of b) (words_of a) (words_of b) (plain_line a) (plain_line b)

-- and are the answer that is found from those
pub line_one : LineOne
line_one a b e =
    let words = words_one a b e in
    let why = refusal_by_number (why_of a) (why_of b) (sym (why_back a) ∙ ap why_number words ∙ why_back b) in
    sym (answer_back a) ∙ ap₂ answer_of why words ∙ answer_back b
