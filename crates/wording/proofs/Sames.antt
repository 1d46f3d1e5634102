-- That `same` compares two words as `==` does, and says whether they are equal.
-- Assumes nothing.
use Prim.Native.Nat.{ℕ}
use mathlib.Core.Path.{◌≡◌, refl, sym, ap, ◌∙◌}
use mathlib.Core.Bool.{Bool, true, ◌&&◌}
use mathlib.Core.List.{List, [], ◌∷◌}
use lib.Dec.{eqb}
use Rattle.std.specs.Cmp.Lexicographic.{pointwise}
use Rattle.std.proofs.lemmas.Slice.Eq.{bytes_eq-Decides}
use Rattle.wording.specs.Words.{same}

pub same_bytes : (s t : List ℕ) → pointwise eqb s t ≡ same s t
unfolding same
same_bytes [] [] = refl
same_bytes [] (b ∷ t) = refl
same_bytes (a ∷ s) [] = refl
same_bytes (a ∷ s) (b ∷ t) = ap (λ (u : Bool). eqb a b && u) (same_bytes s t)

-- words are the same exactly where they are equal
pub same_equal : (s t : List ℕ) → same s t ≡ true → s ≡ t
same_equal s t e = (bytes_eq-Decides s t).0 (same_bytes s t ∙ e)

pub equal_same : (s : List ℕ) → same s s ≡ true
equal_same s = sym (same_bytes s s) ∙ (bytes_eq-Decides s s).1 refl
