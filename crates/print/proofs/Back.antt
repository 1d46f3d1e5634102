-- An answer is found again from the words of its line.
-- Assumes nothing.
use Rattle.std.specs.Prelude.{Option, Some}
use Prim.Native.Nat.{ℕ, ◌+◌, ◌-◌, ◌*◌, ◌/◌}
use mathlib.Core.Path.{◌≡◌, refl}
use mathlib.Core.Bool.{Bool, cond}
use mathlib.Core.List.{List, [], ◌∷◌, ◌++◌}
use native.Mathlib.Omega.{arith}
use lib.Dec.{eqb}
use lib.ListN.{length, get_or, drop}
use Rattle.wording.specs.Letters.{colon}
use Rattle.wording.specs.Decimal.{decimal}
use Rattle.wording.proofs.ReadBack.{value, value_on, decimal_value}
use Rattle.curve.specs.declared.Curve.{Curve}
use Rattle.curve.specs.declared.Curve.TheVariants.{None, Straight, FrontLoaded, Delayed}
use Rattle.tree.specs.declared.Refusal.{Refusal}
use Rattle.tree.specs.declared.Refusal.TheVariants.{ShortFile}
use Rattle.tree.specs.Numbers.{number_of}
use Rattle.rules.specs.declared.Rule.{Rule}
use Rattle.rules.specs.declared.Rule.TheVariants.{RealTime, Fair}
use Rattle.rules.specs.declared.Times.{Times}
use Rattle.print.specs.declared.Wrong.{Wrong}
use Rattle.print.specs.declared.Wrong.TheVariants.{NotACall, NotAClass, NotANumber, TooLarge, StartFirst, StartedAlready, TreeFirst, NextClass}
use Rattle.print.specs.declared.Answer.{Answer}
use Rattle.print.specs.declared.Answer.TheVariants.{Started, TreeRefused, Accepted, Refused, Leaves, NoneWaits, TreeHead, ClassOf, Faulty}
use Rattle.print.specs.Spelled.{started_word, refused_word, class_word, accepted_word, number_word, packet_word, fair_word, none_word, tree_word, straight_word, front_loaded_word, not_word, call_word, comes_word}
use Rattle.print.specs.Lines.{word_of_rule, words_of_times, words_of_curve, words_of_wrong, head_of, words_of}

-- the number that a word is, and the one that stands before a colon
pub read : List ℕ → ℕ
read word = value 0 word

pub read_colon : List ℕ → ℕ
read_colon word = value 0 word / 10 - 1

pub read_back : (n : ℕ) → read (decimal n) ≡ n
unfolding read
read_back = decimal_value

pub read_colon_lem : (n : ℕ) → read_colon (decimal n ++ (colon ∷ [])) ≡ n
unfolding read_colon value
read_colon_lem n = rw (value_on n (colon ∷ [])) (omega arith)

-- the word of a place, the number there, and whether a word has the first two letters of another
abbrev pub word : List (List ℕ) → ℕ → List ℕ
word words i = get_or words i []

abbrev pub number : List (List ℕ) → ℕ → ℕ
number words i = read (get_or words i [])

abbrev letters : List ℕ → ℕ
letters w = 256 * get_or w 0 0 + get_or w 1 0

abbrev like : List ℕ → List ℕ → Bool
like w v = eqb (letters w) (letters v)

rule_of : List ℕ → Rule
rule_of w = cond (like w fair_word) Fair RealTime

rule_back : (r : Rule) → rule_of (word_of_rule r) ≡ r
unfolding rule_of
rule_back RealTime = refl
rule_back Fair = refl

times_of : List (List ℕ) → Option Times
times_of [] = Option.None
times_of (w ∷ ws) = Some (record { eligible = number ws 0; deadline = number ws 2 })

times_back : (t : Option Times) → times_of (words_of_times t) ≡ t
unfolding times_of
times_back Option.None = refl
times_back (Some times) = simp read_back

curve_of : List (List ℕ) → Curve
curve_of ws =
    cond (like (word ws 0) none_word) None
    (cond (like (word ws 0) straight_word) (Straight (number ws 1))
    (cond (like (word ws 0) front_loaded_word) (FrontLoaded (number ws 1) (number ws 2) (number ws 3))
    (Delayed (number ws 1) (number ws 2))))

curve_back : (k : Curve) → curve_of (words_of_curve k) ≡ k
unfolding curve_of
curve_back None = refl
curve_back (Straight rate) = simp read_back
curve_back (FrontLoaded first bend last) = simp read_back
curve_back (Delayed bend rate) = simp read_back

wrong_of : List (List ℕ) → Wrong
wrong_of ws =
    cond (like (word ws 0) not_word) (cond (like (word ws 2) call_word) NotACall (cond (like (word ws 2) class_word) NotAClass NotANumber))
    (cond (like (word ws 0) number_word) TooLarge
    (cond (like (word ws 0) tree_word) TreeFirst
    (cond (like (word ws 0) class_word) (NextClass (number ws 1))
    (cond (like (word ws 1) comes_word) StartFirst StartedAlready))))

wrong_back : (w : Wrong) → wrong_of (words_of_wrong w) ≡ w
unfolding wrong_of
wrong_back NotACall = refl
wrong_back NotAClass = refl
wrong_back NotANumber = refl
wrong_back TooLarge = refl
wrong_back StartFirst = refl
wrong_back StartedAlready = refl
wrong_back TreeFirst = refl
wrong_back (NextClass n) = simp read_back

-- a line names a refusal by its number, and document 01's numbers tell refusals apart: so it is looked for apart from the rest
abbrev pub why_of : Answer → Refusal
why_of (Started count) = ShortFile
why_of (TreeRefused why class) = why
why_of (Accepted n) = ShortFile
why_of (Refused why) = why
why_of (Leaves packet) = ShortFile
why_of NoneWaits = ShortFile
why_of TreeHead = ShortFile
why_of (ClassOf n class) = ShortFile
why_of (Faulty n wrong) = ShortFile

pub why_number : List (List ℕ) → ℕ
why_number ws = cond (like (word ws 0) refused_word) (number ws 1) 1

pub why_back : (a : Answer) → why_number (head_of a ∷ words_of a) ≡ number_of (why_of a)
unfolding why_number
why_back (Started count) = refl
why_back (TreeRefused why class) = read_back (number_of why)
why_back (Accepted n) = refl
why_back (Refused why) = read_back (number_of why)
why_back (Leaves packet) = refl
why_back NoneWaits = refl
why_back TreeHead = refl
why_back (ClassOf n class) = refl
why_back (Faulty n wrong) = refl

-- the answer of a line's words, where the refusal is this one if it names one
pub answer_of : Refusal → List (List ℕ) → Answer
answer_of why ws =
    cond (like (word ws 0) started_word) (Started (number ws 1))
    (cond (like (word ws 0) refused_word) (cond (eqb (length ws) 2) (Refused why) (TreeRefused why (number ws 3)))
    (cond (like (word ws 0) accepted_word) (Accepted (number ws 2))
    (cond (like (word ws 0) packet_word)
    (Leaves (record { class = number ws 2; number = number ws 4; length = number ws 6; rule = rule_of (word ws 8); times = times_of (drop 9 ws) }))
    (cond (like (word ws 0) none_word) NoneWaits
    (cond (like (word ws 0) tree_word) TreeHead
    (cond (like (word ws 0) class_word)
    (ClassOf (number ws 1) (record { parent = number ws 3; share = number ws 5; curve = curve_of (drop 6 ws) }))
    (Faulty (read_colon (word ws 1)) (wrong_of (drop 2 ws)))))))))

pub answer_back : (a : Answer) → answer_of (why_of a) (head_of a ∷ words_of a) ≡ a
unfolding answer_of
answer_back (Started count) = simp read_back
answer_back (TreeRefused why class) = simp read_back
answer_back (Accepted n) = simp read_back
answer_back (Refused why) = refl
answer_back (Leaves packet) = simp (read_back, rule_back, times_back)
answer_back NoneWaits = refl
answer_back TreeHead = refl
answer_back (ClassOf n class) = simp (read_back, curve_back)
answer_back (Faulty n wrong) = simp (read_colon_lem, wrong_back)
