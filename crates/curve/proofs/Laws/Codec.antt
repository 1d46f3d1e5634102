-- The table of kinds: a curve is said by its kind and its numbers, and a kind that the table does not have says none.
-- Assumes nothing.
use Prim.Native.Nat.{ℕ, zero, suc, ◌<◌}
use mathlib.Core.Path.{◌≡◌, refl}
use mathlib.Core.List.{[], ◌∷◌}
use native.Mathlib.Omega.{arith}
use lib.Dec.{lit<}
use lib.ListN.{length, take}
use Rattle.std.specs.Prelude.{Result, Ok, Err}
use Rattle.std.specs.Result.{result_unwrap_or}
use Rattle.curve.specs.Codec.{curve_kind, curve_numbers, code_of, kind_curve, curve_said, kinds}
use Rattle.curve.specs.Promises.{Converts}
use Rattle.curve.specs.declared.Curve.{Curve}
use Rattle.curve.specs.declared.Curve.TheVariants.{None, Straight, FrontLoaded, Delayed}
use Rattle.curve.specs.declared.codec.Code.{Code}
use Rattle.curve.specs.declared.codec.UnknownKind.{UnknownKind}

-- what is encoded decodes as the same curve
pub said_code : (S : Curve) → curve_said (code_of S) ≡ S
unfolding code_of kind_curve
said_code None = refl
said_code (Straight m) = refl
said_code (FrontLoaded m₁ d m₂) = refl
said_code (Delayed d m) = refl

-- a code has the curve's kind
pub code_kind : (S : Curve) → (code_of S).kind ≡ curve_kind S
unfolding code_of
code_kind S = refl

-- and of its three numbers the first are the curve's
pub code_numbers : (S : Curve) → take (length (curve_numbers S)) ((code_of S).first ∷ (code_of S).second ∷ (code_of S).third ∷ []) ≡ curve_numbers S
unfolding code_of
code_numbers None = refl
code_numbers (Straight m) = refl
code_numbers (FrontLoaded m₁ d m₂) = refl
code_numbers (Delayed d m) = refl

-- the four codes
pub code_none : code_of None ≡ record { kind = 0; first = 0; second = 0; third = 0 }
unfolding code_of
code_none = refl

pub code_straight : (m : ℕ) → code_of (Straight m) ≡ record { kind = 1; first = m; second = 0; third = 0 }
unfolding code_of
code_straight m = refl

pub code_front : (m₁ d m₂ : ℕ) → code_of (FrontLoaded m₁ d m₂) ≡ record { kind = 2; first = m₁; second = d; third = m₂ }
unfolding code_of
code_front m₁ d m₂ = refl

pub code_delayed : (d m : ℕ) → code_of (Delayed d m) ≡ record { kind = 3; first = d; second = m; third = 0 }
unfolding code_of
code_delayed d m = refl

-- a curve's kind is one of the table
pub kind_known : (S : Curve) → curve_kind S < kinds
kind_known None = lit< tt
kind_known (Straight m) = lit< tt
kind_known (FrontLoaded m₁ d m₂) = lit< tt
kind_known (Delayed d m) = lit< tt

-- the curve of a kind of the table has that kind
pub kind_back : (kind x y z : ℕ) → kind < kinds → curve_kind (kind_curve kind x y z) ≡ kind
unfolding kind_curve
kind_back zero x y z h = refl
kind_back (suc zero) x y z h = refl
kind_back (suc (suc zero)) x y z h = refl
kind_back (suc (suc (suc zero))) x y z h = refl
kind_back (suc (suc (suc (suc kind)))) x y z h = absurd (omega arith)

-- a kind that is not 1, 2 or 3 has no curve
pub no_curve : (kind x y z : ℕ) → (kind ≡ 1 → ⊥) → (kind ≡ 2 → ⊥) → (kind ≡ 3 → ⊥) → None ≡ kind_curve kind x y z
unfolding kind_curve
no_curve zero x y z h₁ h₂ h₃ = refl
no_curve (suc zero) x y z h₁ h₂ h₃ = absurd (h₁ refl)
no_curve (suc (suc zero)) x y z h₁ h₂ h₃ = absurd (h₂ refl)
no_curve (suc (suc (suc zero))) x y z h₁ h₂ h₃ = absurd (h₃ refl)
no_curve (suc (suc (suc (suc kind)))) x y z h₁ h₂ h₃ = refl

-- the curve that a code says, and none where its kind is unknown
pub said_or_none : (c : Code) (r : Result Curve UnknownKind) → Converts c r → result_unwrap_or r None ≡ curve_said c
said_or_none c (Ok S) h = h.1
said_or_none c (Err e) h = no_curve _ _ _ _ (λ e. omega arith) (λ e. omega arith) (λ e. omega arith)
