-- What a line of a tree's text says, as docs/FORMS.md sets it down.
-- Assumes nothing.
use Rattle.std.specs.Prelude.{ℕ, cond, List, [], ◌∷◌, Option, None, Some, Result, Ok, Err}
use Rattle.wording.specs.declared.NumberError.{NumberError}
use Rattle.wording.specs.declared.NumberError.TheVariants.{TooLarge, NotANumber}
use Rattle.wording.specs.Words.{uncommented, first, after, same}
use Rattle.wording.specs.Numbers.{Operand, number_of, only_if, only_in}
use Rattle.curve.specs.declared.Curve.{Curve}
use Rattle.curve.specs.declared.Curve.TheVariants.{Straight, FrontLoaded, Delayed}
use Rattle.curve.specs.declared.Curve.TheVariants as curve
use Rattle.print.specs.Spelled.{tree_word, class_word, parent_word, share_word, none_word, straight_word, front_loaded_word, delayed_word}
use Rattle.treetext.specs.declared.Entry.{Entry}
use Rattle.treetext.specs.declared.Entry.TheVariants.{Head, ClassOf}
use Rattle.treetext.specs.declared.EntryError.{EntryError}
use Rattle.treetext.specs.declared.EntryError.TheVariants.{NotAClass}
use Rattle.treetext.specs.declared.EntryError.TheVariants as entry

-- a part of a line: right, right but for a number past 32 bits ("A number past 4294967295 is not wrapped"), or wrong
abbrev pub Part : Type 0 → Type 0
Part A = Result A NumberError

-- "The form is judged first": of two parts, the worse one. What is wrong is worse than what is too large.
abbrev pub worse : NumberError → NumberError → NumberError
worse TooLarge other = other
worse NotANumber other = NotANumber

-- two parts that are right; or what is wrong with one of them, or the worse of two
abbrev pub both : {A B : Type 0} → Part A → Part B → Part (A × B)
both (Ok one) (Ok other) = Ok (one, other)
both (Ok one) (Err why) = Err why
both (Err why) (Ok other) = Err why
both (Err one) (Err other) = Err (worse one other)

-- what right parts make
abbrev pub made_of : {A B : Type 0} → (A → B) → Part A → Part B
made_of make (Ok part) = Ok (make part)
made_of make (Err why) = Err why

-- "and nothing more": what is said, by the word that stands at a line's end; and by the text that ends it
abbrev pub end_of : {A : Type 0} → A → List ℕ → Part A
end_of said [] = Ok said
end_of said (b ∷ s) = Err NotANumber

abbrev pub ended : {A : Type 0} → A → List ℕ → Part A
ended said rest = end_of said (first rest)

-- "The numbers after the kind are in the file's order: straight: rate; front-loaded: first rate, bend, last rate; delayed: bend, rate."
unfoldable pub none_in : List ℕ → Part Curve
none_in rest = ended curve.None rest

unfoldable pub straight_in : List ℕ → Part Curve
straight_in rest = made_of Straight (only_in rest)

abbrev pub front_loaded_of : Operand → Operand → Operand → Part Curve
front_loaded_of rate bend last = made_of (λ n. FrontLoaded n.0 n.1.0 n.1.1) (both rate (both bend last))

unfoldable pub front_loaded_in : List ℕ → Part Curve
front_loaded_in rest = front_loaded_of (number_of (first rest)) (number_of (first (after rest))) (only_in (after (after rest)))

abbrev pub delayed_of : Operand → Operand → Part Curve
delayed_of bend rate = made_of (λ n. Delayed n.0 n.1) (both bend rate)

unfoldable pub delayed_in : List ℕ → Part Curve
delayed_in rest = delayed_of (number_of (first rest)) (only_in (after rest))

-- which curve a kind names
abbrev pub kind_in : List ℕ → List ℕ → Part Curve
kind_in kind rest =
    cond (same kind none_word) (none_in rest)
    (cond (same kind straight_word) (straight_in rest)
    (cond (same kind front_loaded_word) (front_loaded_in rest)
    (cond (same kind delayed_word) (delayed_in rest) (Err NotANumber))))

unfoldable pub curve_in : List ℕ → Part Curve
curve_in text = kind_in (first text) (after text)

-- the number after that word
unfoldable pub labelled : List ℕ → List ℕ → Operand
labelled text name = only_if (same (first text) name) (number_of (first (after text)))

-- what a line says: an entry or nothing, or why it says nothing of a tree
abbrev pub Said : Type 0
Said = Result (Option Entry) EntryError

-- why a line with such a part says nothing of a tree
abbrev pub error_of : NumberError → EntryError
error_of TooLarge = entry.TooLarge
error_of NotANumber = NotAClass

-- what a line of that form says
abbrev pub by_form : Part Entry → Said
by_form (Ok said) = Ok (Some said)
by_form (Err why) = Err (error_of why)

-- `class N parent P share S` and a curve: a line is as good as its worst part
unfoldable pub class_of : Operand → Operand → Operand → Part Curve → Said
class_of number parent share curve =
    by_form (made_of (λ n. ClassOf n.0.0 (record { parent = n.0.1; share = n.1.0; curve = n.1.1 })) (both (both number parent) (both share curve)))

unfoldable pub class_in : List ℕ → Said
class_in text =
    class_of (number_of (first text)) (labelled (after text) parent_word) (labelled (after (after (after text))) share_word)
    (curve_in (after (after (after (after (after text))))))

-- "The line `tree`", alone
unfoldable pub head_in : List ℕ → Said
head_in rest = by_form (ended Head rest)

-- which line a first word names; "A line with no word, as a blank line or a comment alone, says nothing."
abbrev pub named : List ℕ → List ℕ → Said
named [] rest = Ok None
named (b ∷ s) rest = cond (same (b ∷ s) tree_word) (head_in rest) (cond (same (b ∷ s) class_word) (class_in rest) (Err NotAClass))

unfoldable pub entry_in : List ℕ → Said
entry_in text = named (first text) (after text)

-- what a line says
unfoldable pub entry_of : List ℕ → Said
entry_of line = entry_in (uncommented line)
