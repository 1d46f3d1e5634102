-- The words of a line, as docs/FORMS.md sets them down.
-- Assumes nothing.
use Rattle.std.specs.Prelude.{ℕ, suc, ◌≡◌, Bool, true, false, cond, not, ◌&&◌, ◌||◌, List, [], ◌∷◌, take, drop, eqb}
use Rattle.wording.specs.Letters.{line_feed}

-- "white space is a space, a tab or a carriage return"
abbrev pub is_blank : ℕ → Bool
is_blank b = eqb b 32 || (eqb b 9 || eqb b 13)

-- what words are made of, and what is no '#'
abbrev pub is_dark : ℕ → Bool
is_dark b = not (is_blank b)

abbrev pub is_text : ℕ → Bool
is_text b = not (eqb b 35)

-- "A file ends a line with a line feed": what is no end of a line
abbrev pub is_inner : ℕ → Bool
is_inner b = not (eqb b line_feed)

-- a byte of a plain word: no white space, no `#` and no end of a line
abbrev pub is_plain : ℕ → Bool
is_plain b = not (is_blank b) && (not (eqb b 35) && not (eqb b line_feed))

-- every byte is meant; of a word spelled out, `refl` proves it
abbrev pub every : (ℕ → Bool) → List ℕ → Bool
every meant [] = true
every meant (b ∷ s) = meant b && every meant s

abbrev pub Plain : List ℕ → Type 0
Plain word = every is_plain word ≡ true

-- how many bytes in front are meant
unfoldable pub span : (ℕ → Bool) → List ℕ → ℕ
span meant [] = 0
span meant (b ∷ s) = cond (meant b) (suc (span meant s)) 0

-- "`#` starts a comment, to the end of the line"
unfoldable pub uncommented : List ℕ → List ℕ
uncommented line = take (span is_text line) line

-- "white space may stand before the first word"
unfoldable pub begun : List ℕ → List ℕ
begun text = drop (span is_blank text) text

-- the first word, no bytes where there is none; and what stands after it
unfoldable pub first : List ℕ → List ℕ
first text = take (span is_dark (begun text)) (begun text)

unfoldable pub after : List ℕ → List ℕ
after text = drop (span is_dark (begun text)) (begun text)

-- whether two words are the same
unfoldable pub same : List ℕ → List ℕ → Bool
same [] [] = true
same [] (b ∷ t) = false
same (a ∷ s) [] = false
same (a ∷ s) (b ∷ t) = eqb a b && same s t
