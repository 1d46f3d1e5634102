-- The words that only the lines of a sheet have, letter by letter, as docs/FORMS.md sets them down.
-- Assumes nothing.
use Rattle.std.specs.Prelude.{ℕ, List, [], ◌∷◌}
use Rattle.wording.specs.Letters.{a, b, c, d, e, f, g, h, i, l, m, n, o, p, q, r, s, t, u, v, w, y}

abbrev pub leaf_word : List ℕ
leaf_word = l ∷ e ∷ a ∷ f ∷ []

abbrev pub nothing_word : List ℕ
nothing_word = n ∷ o ∷ t ∷ h ∷ i ∷ n ∷ g ∷ []

abbrev pub chosen_word : List ℕ
chosen_word = c ∷ h ∷ o ∷ s ∷ e ∷ n ∷ []

abbrev pub by_word : List ℕ
by_word = b ∷ y ∷ []

abbrev pub has_word : List ℕ
has_word = h ∷ a ∷ s ∷ []

abbrev pub no_word : List ℕ
no_word = n ∷ o ∷ []

abbrev pub curve_word : List ℕ
curve_word = c ∷ u ∷ r ∷ v ∷ e ∷ []

abbrev pub until_word : List ℕ
until_word = u ∷ n ∷ t ∷ i ∷ l ∷ []

abbrev pub behind_word : List ℕ
behind_word = b ∷ e ∷ h ∷ i ∷ n ∷ d ∷ []

abbrev pub later_word : List ℕ
later_word = l ∷ a ∷ t ∷ e ∷ r ∷ []

abbrev pub an_word : List ℕ
an_word = a ∷ n ∷ []

abbrev pub equal_word : List ℕ
equal_word = e ∷ q ∷ u ∷ a ∷ l ∷ []

abbrev pub and_word : List ℕ
and_word = a ∷ n ∷ d ∷ []

abbrev pub higher_word : List ℕ
higher_word = h ∷ i ∷ g ∷ h ∷ e ∷ r ∷ []

abbrev pub passed_word : List ℕ
passed_word = p ∷ a ∷ s ∷ s ∷ e ∷ d ∷ []

abbrev pub over_word : List ℕ
over_word = o ∷ v ∷ e ∷ r ∷ []

abbrev pub at_word : List ℕ
at_word = a ∷ t ∷ []

abbrev pub for_word : List ℕ
for_word = f ∷ o ∷ r ∷ []

abbrev pub child_word : List ℕ
child_word = c ∷ h ∷ i ∷ l ∷ d ∷ []

abbrev pub with_word : List ℕ
with_word = w ∷ i ∷ t ∷ h ∷ []

abbrev pub virtual_word : List ℕ
virtual_word = v ∷ i ∷ r ∷ t ∷ u ∷ a ∷ l ∷ []

abbrev pub time_word : List ℕ
time_word = t ∷ i ∷ m ∷ e ∷ []
