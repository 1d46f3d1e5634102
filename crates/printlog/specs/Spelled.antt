-- The words that only a log's lines have, letter by letter, as docs/FORMS.md sets them down.
-- Assumes nothing.
use Rattle.std.specs.Prelude.{ℕ, List, [], ◌∷◌}
use Rattle.wording.specs.Letters.{a, c, d, e, f, h, i, l, m, n, o, r, s, t, u}

abbrev pub record_word : List ℕ
record_word = r ∷ e ∷ c ∷ o ∷ r ∷ d ∷ []

abbrev pub records_word : List ℕ
records_word = r ∷ e ∷ c ∷ o ∷ r ∷ d ∷ s ∷ []

abbrev pub malformed_word : List ℕ
malformed_word = m ∷ a ∷ l ∷ f ∷ o ∷ r ∷ m ∷ e ∷ d ∷ []

abbrev pub another_word : List ℕ
another_word = a ∷ n ∷ o ∷ t ∷ h ∷ e ∷ r ∷ []

abbrev pub choice_word : List ℕ
choice_word = c ∷ h ∷ o ∷ i ∷ c ∷ e ∷ []

abbrev pub our_word : List ℕ
our_word = o ∷ u ∷ r ∷ []

abbrev pub rules_word : List ℕ
rules_word = r ∷ u ∷ l ∷ e ∷ s ∷ []
