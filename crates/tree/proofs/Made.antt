-- Arrays that a closure makes.
-- Assumes nothing.
use Prim.Native.Nat.{ℕ, zero, suc, ◌+◌, ◌≤◌, ◌<◌}
use mathlib.Core.Path.{◌≡◌, ◌∙◌, subst}
use mathlib.Core.List.{List, map}
use mathlib.Core.Logic.{⊎_elim}
use native.Mathlib.Omega.{arith}
use lib.ListN.{get_or}
use Rattle.std.specs.Fn.{Mut, Called}
use Rattle.std.specs.Array.{IsFromFnResultFrom, IsFromFnResult}
use Rattle.std.specs.List.{range_with_len}
use Rattle.std.proofs.Math.Nat.{eq-or-lt_of_le}
use Rattle.std.proofs.lemmas.List.FromFn.{fill_by_all}

-- an array that a closure makes: the closure keeps J, and gives what h gives
module _ {F B : Type 0} {g : Mut F (ℕ × Unit {0}) B} (J : F → Type 0) (h : ℕ → B)
    (gives : (f : F) (i : ℕ) (y : B) (f' : F) → J f → Called g f (i, tt) y f' → J f' × (y ≡ h i)) where
  pub made_at : (ys : List B) (n i : ℕ) (f : F) → J f → IsFromFnResultFrom g f ys i n → (k : ℕ) (e : B) → i ≤ k → k < i + n → get_or ys k e ≡ h k
  made_at ys zero i f j made k e low high = absurd (omega arith)
  made_at ys (suc n) i f j (f', y, at, called, rest) k e low high =
      let both = gives f i y f' j called in
      ⊎_elim (λ same. subst (λ (m : ℕ). get_or ys m e ≡ h m) same (at.1 e ∙ both.1)) (λ above. made_at ys n (i + 1) f' both.0 rest k e (omega arith) (omega arith)) (eq-or-lt_of_le low)

  pub made : (ys : List B) (n : ℕ) (f : F) → J f → IsFromFnResult g f ys n → B → ys ≡ map h (range_with_len 0 n)
  made ys n f j m e = fill_by_all h ys n e m.long (λ k below. made_at ys n 0 f j m.each k e (omega arith) (omega arith))
