-- The line of an answer, as docs/FORMS.md sets it down: its words, each set off by a space, and the line's end.
-- Assumes nothing.
use Rattle.rules.specs.Kinds.{Arrival, Departure}
use Rattle.std.specs.Prelude.{ℕ, zero, suc, min, List, [], ◌∷◌, ◌++◌, Option, Some, Ok, Err}
use Rattle.wording.specs.Letters.{colon, space, line_feed}
use Rattle.wording.specs.Decimal.{decimal}
use Rattle.curve.specs.declared.Curve.{Curve}
use Rattle.curve.specs.declared.Curve.TheVariants.{None, Straight, FrontLoaded, Delayed}
use Rattle.tree.specs.declared.Fault.{Fault}
use Rattle.tree.specs.declared.Tree.{Tree}
use Rattle.tree.specs.Verdicts.{Verdict}
use Rattle.tree.specs.Numbers.{number_of}
use Rattle.tree.specs.Trees.{most_classes, class_at}
use Rattle.rules.specs.declared.Rule.{Rule}
use Rattle.rules.specs.declared.Rule.TheVariants.{RealTime, Fair}
use Rattle.rules.specs.declared.Times.{Times}
use Rattle.print.specs.declared.Wrong.{Wrong}
use Rattle.print.specs.declared.Wrong.TheVariants.{NotACall, NotAClass, NotANumber, TooLarge, StartFirst, StartedAlready, TreeFirst, NextClass}
use Rattle.print.specs.declared.Answer.{Answer}
use Rattle.print.specs.declared.Answer.TheVariants.{Started, TreeRefused, Accepted, Refused, Leaves, NoneWaits, TreeHead, ClassOf, Faulty}
use Rattle.print.specs.Spelled.{started_word, refused_word, class_word, accepted_word, number_word, packet_word, length_word, rule_word, real_time_word, fair_word, eligible_word, deadline_word, none_word, waits_word, tree_word, parent_word, share_word, straight_word, front_loaded_word, delayed_word, line_word, not_word, article_word, call_word, past_word, thirty_two_word, bits_word, start_word, comes_word, first_word, already_word, next_word}

-- `real-time` or `fair`
abbrev pub word_of_rule : Rule → List ℕ
word_of_rule RealTime = real_time_word
word_of_rule Fair = fair_word

-- "`eligible` and `deadline` stand there for a leaf with a real-time curve"
abbrev pub words_of_times : Option Times → List (List ℕ)
words_of_times Option.None = []
words_of_times (Some times) = eligible_word ∷ decimal times.eligible ∷ deadline_word ∷ decimal times.deadline ∷ []

-- "The numbers after the kind are in the file's order: straight: rate; front-loaded: first rate, bend, last rate; delayed: bend, rate."
abbrev pub words_of_curve : Curve → List (List ℕ)
words_of_curve None = none_word ∷ []
words_of_curve (Straight rate) = straight_word ∷ decimal rate ∷ []
words_of_curve (FrontLoaded first bend last) = front_loaded_word ∷ decimal first ∷ decimal bend ∷ decimal last ∷ []
words_of_curve (Delayed bend rate) = delayed_word ∷ decimal bend ∷ decimal rate ∷ []

-- what is wrong with a line of a file
abbrev pub words_of_wrong : Wrong → List (List ℕ)
words_of_wrong NotACall = not_word ∷ article_word ∷ call_word ∷ []
words_of_wrong NotAClass = not_word ∷ article_word ∷ class_word ∷ []
words_of_wrong NotANumber = not_word ∷ article_word ∷ number_word ∷ []
words_of_wrong TooLarge = number_word ∷ past_word ∷ thirty_two_word ∷ bits_word ∷ []
words_of_wrong StartFirst = start_word ∷ comes_word ∷ first_word ∷ []
words_of_wrong StartedAlready = started_word ∷ already_word ∷ []
words_of_wrong TreeFirst = tree_word ∷ comes_word ∷ first_word ∷ []
words_of_wrong (NextClass number) = class_word ∷ decimal number ∷ comes_word ∷ next_word ∷ []

-- the first word of an answer's line, and the others
abbrev pub head_of : Answer → List ℕ
head_of (Started count) = started_word
head_of (TreeRefused why class) = refused_word
head_of (Accepted number) = accepted_word
head_of (Refused why) = refused_word
head_of (Leaves packet) = packet_word
head_of NoneWaits = none_word
head_of TreeHead = tree_word
head_of (ClassOf number class) = class_word
head_of (Faulty number wrong) = line_word

abbrev pub words_of : Answer → List (List ℕ)
words_of (Started count) = decimal count ∷ []
words_of (TreeRefused why class) = decimal (number_of why) ∷ class_word ∷ decimal class ∷ []
words_of (Accepted number) = number_word ∷ decimal number ∷ []
words_of (Refused why) = decimal (number_of why) ∷ []
words_of (Leaves packet) =
    class_word ∷ decimal packet.class ∷ number_word ∷ decimal packet.number ∷ length_word ∷ decimal packet.length
    ∷ rule_word ∷ word_of_rule packet.rule ∷ words_of_times packet.times
words_of NoneWaits = waits_word ∷ []
words_of TreeHead = []
words_of (ClassOf number class) =
    decimal number ∷ parent_word ∷ decimal class.parent ∷ share_word ∷ decimal class.share ∷ words_of_curve class.curve
words_of (Faulty number wrong) = (decimal number ++ (colon ∷ [])) ∷ words_of_wrong wrong

-- further words, a space before each, up to the end of the line
unfoldable pub further : List (List ℕ) → List ℕ
further [] = line_feed ∷ []
further (word ∷ others) = space ∷ (word ++ further others)

-- the line of an answer
unfoldable pub line_of : Answer → List ℕ
line_of answer = head_of answer ++ further (words_of answer)

-- "then a line a class, from 0": the lines of n classes, from class i on
unfoldable pub class_lines : Tree → ℕ → ℕ → List ℕ
class_lines t i zero = []
class_lines t i (suc n) = line_of (ClassOf i (class_at t i)) ++ class_lines t (suc i) n

-- the text of a tree: "The line `tree`, then a line a class". A tree has at most 64 classes; no more are printed of a count that is past that.
unfoldable pub tree_text : Tree → List ℕ
tree_text t = line_of TreeHead ++ class_lines t 0 (min t.count most_classes)

-- the answer that a tree's fault is printed as
abbrev pub fault_answer : Fault → Answer
fault_answer fault = TreeRefused fault.why fault.class

-- the answer that each call's answer is printed as: a refused start names a class, a refused arrival or departure none
abbrev pub start_answer : Verdict → ℕ → Answer
start_answer (Ok _) count = Started count
start_answer (Err fault) count = fault_answer fault

abbrev pub arrival_answer : Arrival → Answer
arrival_answer (Ok number) = Accepted number
arrival_answer (Err why) = Refused why

abbrev pub departure_answer : Departure → Answer
departure_answer (Ok (Some packet)) = Leaves packet
departure_answer (Ok Option.None) = NoneWaits
departure_answer (Err why) = Refused why
