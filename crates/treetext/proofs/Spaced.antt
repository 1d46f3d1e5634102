-- Words that are each set off by a space, as lines are printed: they are read one after another.
-- Assumes nothing.
use Prim.Native.Nat.{ℕ, ◌^◌, ◌<◌}
use mathlib.Core.Path.{◌≡◌, refl, ap, ◌∙◌}
use mathlib.Core.Bool.{Bool, true}
use mathlib.Core.List.{List, [], ◌∷◌, ◌++◌, append_assoc}
use lib.ListN.{length}
use borrow.Author.Tests.{lt-ltb}
use Rattle.wording.specs.Letters.{space, line_feed}
use Rattle.std.specs.Prelude.{Ok}
use Rattle.wording.specs.Words.{span, first, after}
use Rattle.wording.specs.Numbers.{number_of, only_in}
use Rattle.wording.specs.Decimal.{decimal}
use Rattle.wording.proofs.Sames.{equal_same}
use Rattle.wording.proofs.Decimals.{decimal_some}
use Rattle.wording.proofs.Plain.{is_dark, every, every_append, Plain, decimal_plain, first_word, after_word, first_space, after_space, first_none}
use Rattle.wording.proofs.ReadBack.{decimal_reads}
use Rattle.print.specs.Lines.{further}
use Rattle.treetext.specs.Entries.{labelled}

-- a plain word of some bytes
pub record Word (word : List ℕ) : Type 0 where
  pub plain : Plain word
  pub some : 0 < length word

abbrev pub Words : List (List ℕ) → Type 0
Words [] = Unit {0}
Words (word ∷ others) = Word word × Words others

pub decimal_word : (n : ℕ) → Word (decimal n)
decimal_word n = record { plain = decimal_plain n; some = decimal_some n }

-- words with a space before each
unfoldable pub spaced : List (List ℕ) → List ℕ
spaced [] = []
spaced (word ∷ others) = space ∷ (word ++ spaced others)

-- what is printed after a line's first word is that, and the line's end
pub further_spaced : (words : List (List ℕ)) → further words ≡ spaced words ++ (line_feed ∷ [])
unfolding further spaced
further_spaced [] = refl
further_spaced (word ∷ others) = ap (λ s. space ∷ s) (ap (λ s. word ++ s) (further_spaced others) ∙ rw (append_assoc word (spaced others) (line_feed ∷ [])))

-- a byte is meant in all of them where a space is, and those of a plain word
pub spaced_every : (meant : ℕ → Bool) → meant space ≡ true → ((word : List ℕ) → Plain word → every meant word ≡ true)
    → (words : List (List ℕ)) → Words words → every meant (spaced words) ≡ true
unfolding spaced
spaced_every meant gap so [] h = refl
spaced_every meant gap so (word ∷ others) h = rw gap (every_append meant word (spaced others) (so word h.0.plain) (spaced_every meant gap so others h.1))

stops : (words : List (List ℕ)) → span is_dark (spaced words) ≡ 0
unfolding span spaced
stops [] = refl
stops (word ∷ others) = refl

-- the first of them, and those after it: after a line's first word, and after none
module _ (word : List ℕ) (others : List (List ℕ)) (good : Word word) where
  pub first_front : first (word ++ spaced others) ≡ word
  first_front = first_word word (spaced others) good.plain good.some (stops others)

  pub after_front : after (word ++ spaced others) ≡ spaced others
  after_front = after_word word (spaced others) good.plain good.some (stops others)

  pub first_next : first (spaced (word ∷ others)) ≡ word
  unfolding spaced
  first_next = first_space (word ++ spaced others) ∙ first_front

  pub after_next : after (spaced (word ∷ others)) ≡ spaced others
  unfolding spaced
  after_next = after_space (word ++ spaced others) ∙ after_front

-- none is left
pub first_end : first (spaced []) ≡ []
unfolding spaced
first_end = first_none

-- a number of 32 bits among them
module _ (n : ℕ) (narrow : n < 2 ^ 32) where
  number_says : number_of (decimal n) ≡ Ok n
  number_says = decimal_reads n ∙ rw (lt-ltb n (2 ^ 32) narrow)

  pub number_next : (others : List (List ℕ)) → number_of (first (spaced (decimal n ∷ others))) ≡ Ok n
  number_next others = rw (first_next (decimal n) others (decimal_word n)) number_says

  pub number_last : only_in (spaced (decimal n ∷ [])) ≡ Ok n
  unfolding only_in
  number_last = rw (after_next (decimal n) [] (decimal_word n), first_end) (number_next [])

  pub number_labelled : (name : List ℕ) (others : List (List ℕ)) → Word name → labelled (spaced (name ∷ decimal n ∷ others)) name ≡ Ok n
  unfolding labelled
  number_labelled name others good = rw (first_next name (decimal n ∷ others) good, equal_same name, after_next name (decimal n ∷ others) good) (number_next others)
