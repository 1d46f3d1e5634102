-- How many bytes in front of a list are meant.
-- Assumes nothing.
use Prim.Native.Nat.{ℕ, suc, ◌+◌, ◌-◌}
use native.Mathlib.Omega.{arith}
use mathlib.Core.Path.{◌≡◌, refl, ◌∙◌}
use mathlib.Core.Bool.{Bool, true, false, cond}
use mathlib.Core.List.{List, [], ◌∷◌}
use lib.ListN.{length, take, drop, length-drop}
use lib.Seq.{take_all}
use Rattle.std.specs.List.{prefix_len}
use Rattle.std.proofs.lemmas.List.Folds.{length-prefix_len}
use Rattle.wording.specs.Words.{span}

one_more : (t : Bool) (n : ℕ) → cond t (1 + n) 0 ≡ cond t (suc n) 0
one_more true n = omega arith
one_more false n = refl

-- as std counts them
span_prefix : (meant : ℕ → Bool) (s : List ℕ) → prefix_len meant s ≡ span meant s
unfolding span
span_prefix meant [] = refl
span_prefix meant (b ∷ s) = rw (span_prefix meant s) (one_more (meant b) (span meant s))

pub span_counted : (meant : ℕ → Bool) (s : List ℕ) → length (take (prefix_len meant s) s) ≡ span meant s
span_counted meant s = length-prefix_len meant s ∙ span_prefix meant s

-- a part from n on, up to the end
pub part_on : (s : List ℕ) (n : ℕ) → take (length s - n) (drop n s) ≡ drop n s
part_on s n = take_all (length s - n) (drop n s) (omega (arith, length-drop n s))
