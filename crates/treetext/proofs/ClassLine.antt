-- The line of a class says that class.
-- Assumes nothing.
use Prim.Native.Nat.{ℕ}
use native.Mathlib.Omega.{arith}
use mathlib.Core.Path.{◌≡◌, refl, sym, ap, ◌∙◌}
use mathlib.Core.Bool.{true}
use mathlib.Core.List.{List, [], ◌∷◌, ◌++◌, append_assoc}
use lib.ListN.{length, take, length-append}
use lib.Seq.{take-append_seam, take_at}
use Rattle.wording.specs.Letters.{line_feed}
use Rattle.wording.specs.Words.{first, same}
use Rattle.wording.specs.Decimal.{decimal}
use Rattle.wording.proofs.Plain.{is_text, every, every_append, plain_text, plain_inner, uncommented_all}
use Rattle.curve.specs.declared.Curve.{Curve}
use Rattle.curve.specs.declared.Curve.TheVariants.{None, Straight, FrontLoaded, Delayed}
use Rattle.tree.specs.declared.Class.{Class}
use Rattle.print.specs.declared.Answer.TheVariants as answer
use Rattle.print.specs.Spelled.{class_word, parent_word, share_word, none_word, straight_word, front_loaded_word, delayed_word}
use Rattle.print.specs.Lines.{words_of, words_of_curve, line_of}
use Rattle.treetext.specs.declared.Entry.TheVariants.{ClassOf}
use Rattle.std.specs.Prelude.{Some, Ok}
use Rattle.treetext.specs.Entries.{none_in, straight_in, front_loaded_in, delayed_in, curve_in, class_of, class_in, entry_of}
use Rattle.wording.specs.Words.{is_inner}
use Rattle.treetext.specs.Theorems.{NarrowCurve, NarrowClass, ClassLineSays}
use Rattle.treetext.proofs.Named.{entry_by}
use Rattle.treetext.proofs.Spaced.{Word, Words, decimal_word, spaced, further_spaced, spaced_every, first_front, after_front, first_next, after_next, first_end, number_next, number_last, number_labelled}

-- each word of a line is plain
class_word_lem : Word class_word
class_word_lem = record { plain = refl; some = omega arith }

parent_word_lem : Word parent_word
parent_word_lem = record { plain = refl; some = omega arith }

share_word_lem : Word share_word
share_word_lem = record { plain = refl; some = omega arith }

none_word_lem : Word none_word
none_word_lem = record { plain = refl; some = omega arith }

straight_word_lem : Word straight_word
straight_word_lem = record { plain = refl; some = omega arith }

front_loaded_word_lem : Word front_loaded_word
front_loaded_word_lem = record { plain = refl; some = omega arith }

delayed_word_lem : Word delayed_word
delayed_word_lem = record { plain = refl; some = omega arith }

curve_words : (curve : Curve) → Words (words_of_curve curve)
curve_words None = (none_word_lem, tt)
curve_words (Straight rate) = (straight_word_lem, (decimal_word rate, tt))
curve_words (FrontLoaded rate bend last) = (front_loaded_word_lem, (decimal_word rate, (decimal_word bend, (decimal_word last, tt))))
curve_words (Delayed bend rate) = (delayed_word_lem, (decimal_word bend, (decimal_word rate, tt)))

class_words : (number : ℕ) (class : Class) → Words (words_of (answer.ClassOf number class))
class_words number class =
    (decimal_word number, (parent_word_lem, (decimal_word class.parent, (share_word_lem, (decimal_word class.share, curve_words class.curve)))))

-- the words of a curve say that curve
curve_says : (curve : Curve) → NarrowCurve curve → curve_in (spaced (words_of_curve curve)) ≡ Ok curve
unfolding curve_in none_in straight_in front_loaded_in delayed_in same
curve_says None h = rw (first_next none_word [] none_word_lem, after_next none_word [] none_word_lem, first_end)
curve_says (Straight rate) h =
    rw (first_next straight_word (decimal rate ∷ []) straight_word_lem, after_next straight_word (decimal rate ∷ []) straight_word_lem, number_last rate h)
curve_says (FrontLoaded rate bend last) h =
    rw (
      first_next front_loaded_word (decimal rate ∷ decimal bend ∷ decimal last ∷ []) front_loaded_word_lem,
      after_next front_loaded_word (decimal rate ∷ decimal bend ∷ decimal last ∷ []) front_loaded_word_lem,
      number_next rate h.0 (decimal bend ∷ decimal last ∷ []),
      after_next (decimal rate) (decimal bend ∷ decimal last ∷ []) (decimal_word rate),
      number_next bend h.1.0 (decimal last ∷ []),
      after_next (decimal bend) (decimal last ∷ []) (decimal_word bend),
      number_last last h.1.1,
    )
curve_says (Delayed bend rate) h =
    rw (
      first_next delayed_word (decimal bend ∷ decimal rate ∷ []) delayed_word_lem,
      after_next delayed_word (decimal bend ∷ decimal rate ∷ []) delayed_word_lem,
      number_next bend h.0 (decimal rate ∷ []),
      after_next (decimal bend) (decimal rate ∷ []) (decimal_word bend),
      number_last rate h.1,
    )

module _ (number : ℕ) (class : Class) (narrow : NarrowClass number class) where
  abbrev fourth : List (List ℕ)
  fourth = decimal class.share ∷ words_of_curve class.curve

  abbrev third : List (List ℕ)
  third = share_word ∷ fourth

  abbrev second : List (List ℕ)
  second = decimal class.parent ∷ third

  abbrev others : List (List ℕ)
  others = parent_word ∷ second

  class_says : class_in (spaced (decimal number ∷ others)) ≡ Ok (Some (ClassOf number class))
  unfolding class_in class_of
  class_says =
      rw (
        number_next number narrow.own others,
        after_next (decimal number) others (decimal_word number),
        number_labelled class.parent narrow.parent parent_word third parent_word_lem,
        after_next parent_word second parent_word_lem,
        after_next (decimal class.parent) third (decimal_word class.parent),
        number_labelled class.share narrow.share share_word (words_of_curve class.curve) share_word_lem,
        after_next share_word fourth share_word_lem,
        after_next (decimal class.share) (words_of_curve class.curve) (decimal_word class.share),
        curve_says class.curve narrow.curve,
      )

-- the line of a class, without its end
abbrev pub class_line : ℕ → Class → List ℕ
class_line number class = class_word ++ spaced (words_of (answer.ClassOf number class))

module _ (number : ℕ) (class : Class) where
  line_text : every is_text (class_line number class) ≡ true
  line_text = every_append is_text class_word (spaced (words_of (answer.ClassOf number class))) refl (spaced_every is_text refl plain_text (words_of (answer.ClassOf number class)) (class_words number class))

  -- it has no end within
  pub line_inner : every is_inner (class_line number class) ≡ true
  line_inner = every_append is_inner class_word (spaced (words_of (answer.ClassOf number class))) refl (spaced_every is_inner refl plain_inner (words_of (answer.ClassOf number class)) (class_words number class))

  pub line_ended : line_of (answer.ClassOf number class) ≡ class_line number class ++ (line_feed ∷ [])
  unfolding line_of
  line_ended = rw (further_spaced (words_of (answer.ClassOf number class)), append_assoc class_word (spaced (words_of (answer.ClassOf number class))) (line_feed ∷ []))

  pub line_says : NarrowClass number class → entry_of (class_line number class) ≡ Ok (Some (ClassOf number class))
  unfolding entry_of same
  line_says narrow =
      let words = words_of (answer.ClassOf number class) in
      let name : first (class_line number class) ≡ class_word = first_front class_word words class_word_lem in
      rw (uncommented_all (class_line number class) line_text, entry_by (class_line number class), name)
      (ap class_in (after_front class_word words class_word_lem) ∙ class_says number class narrow)

-- texts with the same last byte are equal before it
before_last : (s t : List ℕ) (b : ℕ) → s ++ (b ∷ []) ≡ t ++ (b ∷ []) → s ≡ t
before_last s t b e =
    let long : length t ≡ length s = omega (arith, simp length-append at (ap length e)) in
    sym (take-append_seam s (b ∷ [])) ∙ ap (take (length s)) e ∙ take_at t (b ∷ []) (length s) long

pub class_line_says : ClassLineSays
class_line_says number class narrow line e =
    ap entry_of (before_last line (class_line number class) line_feed (sym e ∙ line_ended number class)) ∙ line_says number class narrow
