-- A line is made of its words in one way: each ends at the first space or line feed.
-- Assumes nothing.
use Prim.Native.Nat.{ℕ}
use mathlib.Core.Path.{◌≡◌, refl, sym, subst, ap, ap₂}
use mathlib.Core.Bool.{Bool, true, ◌&&◌, false≢true}
use mathlib.Core.List.{List, [], ◌∷◌, ◌++◌}
use native.Mathlib.Omega.{arith}
use Rattle.wording.specs.Letters.{space}
use Rattle.wording.proofs.Plain.{is_plain, every, both}
use Rattle.print.specs.Lines.{further}

-- words of plain bytes
abbrev pub plains : List (List ℕ) → Bool
plains [] = true
plains (word ∷ others) = every is_plain word && plains others

-- what follows a word starts with no plain byte
ends : (b : ℕ) (s : List ℕ) (words : List (List ℕ)) → is_plain b ≡ true → further words ≡ b ∷ s → ⊥
unfolding further
ends b s [] plain e =
    let same : b ≡ 10 = cc in
    false≢true (subst (λ (k : ℕ). is_plain k ≡ true) same plain)
ends b s (word ∷ others) plain e =
    let same : b ≡ 32 = cc in
    false≢true (subst (λ (k : ℕ). is_plain k ≡ true) same plain)

-- so two words that are followed so are the same where the texts are
word_one : (w v : List ℕ) (ws vs : List (List ℕ)) → every is_plain w ≡ true → every is_plain v ≡ true → w ++ further ws ≡ v ++ further vs → (w ≡ v) × (further ws ≡ further vs)
word_one [] [] ws vs p q e = (refl, e)
word_one [] (b ∷ v) ws vs p q e = absurd (ends b (v ++ further vs) ws (both (is_plain b) (every is_plain v) q).0 e)
word_one (b ∷ w) [] ws vs p q e = absurd (ends b (w ++ further ws) vs (both (is_plain b) (every is_plain w) p).0 (sym e))
word_one (b ∷ w) (d ∷ v) ws vs p q e =
    let tails : w ++ further ws ≡ v ++ further vs = cc in
    let (same, rest) = word_one w v ws vs (both (is_plain b) (every is_plain w) p).1 (both (is_plain d) (every is_plain v) q).1 tails in
    (cc, rest)

-- and so are all the words
further_one : (ws vs : List (List ℕ)) → plains ws ≡ true → plains vs ≡ true → further ws ≡ further vs → ws ≡ vs
unfolding further
further_one [] [] p q e = refl
further_one [] (v ∷ vs) p q e = let same : ◌≡◌ {A = ℕ} 10 32 = cc in absurd (omega arith)
further_one (w ∷ ws) [] p q e = let same : ◌≡◌ {A = ℕ} 32 10 = cc in absurd (omega arith)
further_one (w ∷ ws) (v ∷ vs) p q e =
    let tails : w ++ further ws ≡ v ++ further vs = cc in
    let first = both (every is_plain w) (plains ws) p in
    let second = both (every is_plain v) (plains vs) q in
    let (same, rest) = word_one w v ws vs first.0 second.0 tails in
    ap₂ ◌∷◌ same (further_one ws vs first.1 second.1 rest)

-- so two lines with the same text have the same words, the first among them
pub line_words : (w v : List ℕ) (ws vs : List (List ℕ)) → plains (w ∷ ws) ≡ true → plains (v ∷ vs) ≡ true → w ++ further ws ≡ v ++ further vs → w ∷ ws ≡ v ∷ vs
unfolding further
line_words w v ws vs p q e = further_one (w ∷ ws) (v ∷ vs) p q (ap (λ (s : List ℕ). space ∷ s) e)
