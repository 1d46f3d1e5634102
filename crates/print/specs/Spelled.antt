-- The words that lines are made of, letter by letter, as docs/FORMS.md sets them down.
-- Assumes nothing.
use Rattle.std.specs.Prelude.{ℕ, List, [], ◌∷◌}
use Rattle.wording.specs.Letters.{a, b, c, d, e, f, g, h, i, k, l, m, n, o, p, r, s, t, u, w, x, y, hyphen}

abbrev pub started_word : List ℕ
started_word = s ∷ t ∷ a ∷ r ∷ t ∷ e ∷ d ∷ []

abbrev pub refused_word : List ℕ
refused_word = r ∷ e ∷ f ∷ u ∷ s ∷ e ∷ d ∷ []

abbrev pub class_word : List ℕ
class_word = c ∷ l ∷ a ∷ s ∷ s ∷ []

abbrev pub accepted_word : List ℕ
accepted_word = a ∷ c ∷ c ∷ e ∷ p ∷ t ∷ e ∷ d ∷ []

abbrev pub number_word : List ℕ
number_word = n ∷ u ∷ m ∷ b ∷ e ∷ r ∷ []

abbrev pub packet_word : List ℕ
packet_word = p ∷ a ∷ c ∷ k ∷ e ∷ t ∷ []

abbrev pub length_word : List ℕ
length_word = l ∷ e ∷ n ∷ g ∷ t ∷ h ∷ []

abbrev pub rule_word : List ℕ
rule_word = r ∷ u ∷ l ∷ e ∷ []

abbrev pub real_time_word : List ℕ
real_time_word = r ∷ e ∷ a ∷ l ∷ hyphen ∷ t ∷ i ∷ m ∷ e ∷ []

abbrev pub fair_word : List ℕ
fair_word = f ∷ a ∷ i ∷ r ∷ []

abbrev pub eligible_word : List ℕ
eligible_word = e ∷ l ∷ i ∷ g ∷ i ∷ b ∷ l ∷ e ∷ []

abbrev pub deadline_word : List ℕ
deadline_word = d ∷ e ∷ a ∷ d ∷ l ∷ i ∷ n ∷ e ∷ []

abbrev pub none_word : List ℕ
none_word = n ∷ o ∷ n ∷ e ∷ []

abbrev pub waits_word : List ℕ
waits_word = w ∷ a ∷ i ∷ t ∷ s ∷ []

abbrev pub tree_word : List ℕ
tree_word = t ∷ r ∷ e ∷ e ∷ []

abbrev pub parent_word : List ℕ
parent_word = p ∷ a ∷ r ∷ e ∷ n ∷ t ∷ []

abbrev pub share_word : List ℕ
share_word = s ∷ h ∷ a ∷ r ∷ e ∷ []

abbrev pub straight_word : List ℕ
straight_word = s ∷ t ∷ r ∷ a ∷ i ∷ g ∷ h ∷ t ∷ []

abbrev pub front_loaded_word : List ℕ
front_loaded_word = f ∷ r ∷ o ∷ n ∷ t ∷ hyphen ∷ l ∷ o ∷ a ∷ d ∷ e ∷ d ∷ []

abbrev pub delayed_word : List ℕ
delayed_word = d ∷ e ∷ l ∷ a ∷ y ∷ e ∷ d ∷ []

abbrev pub line_word : List ℕ
line_word = l ∷ i ∷ n ∷ e ∷ []

abbrev pub not_word : List ℕ
not_word = n ∷ o ∷ t ∷ []

abbrev pub article_word : List ℕ
article_word = a ∷ []

abbrev pub call_word : List ℕ
call_word = c ∷ a ∷ l ∷ l ∷ []

abbrev pub past_word : List ℕ
past_word = p ∷ a ∷ s ∷ t ∷ []

abbrev pub thirty_two_word : List ℕ
thirty_two_word = 51 ∷ 50 ∷ []

abbrev pub bits_word : List ℕ
bits_word = b ∷ i ∷ t ∷ s ∷ []

abbrev pub start_word : List ℕ
start_word = s ∷ t ∷ a ∷ r ∷ t ∷ []

abbrev pub comes_word : List ℕ
comes_word = c ∷ o ∷ m ∷ e ∷ s ∷ []

abbrev pub first_word : List ℕ
first_word = f ∷ i ∷ r ∷ s ∷ t ∷ []

abbrev pub already_word : List ℕ
already_word = a ∷ l ∷ r ∷ e ∷ a ∷ d ∷ y ∷ []

abbrev pub next_word : List ℕ
next_word = n ∷ e ∷ x ∷ t ∷ []
