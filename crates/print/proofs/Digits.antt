-- The library prints the digits that docs/FORMS.md sets down.
-- Assumes nothing.
use Prim.Native.Nat.{ℕ, ◌<◌, ◌^◌, ◌%◌}
use mathlib.Core.Path.{◌≡◌, sym, ap, ◌∙◌}
use mathlib.Core.List.{[], ◌∷◌, ◌++◌}
use Rattle.std.proofs.lemmas.Fmt.{decimal_by_steps}
use Rattle.std.specs.Fmt as fmt
use Rattle.wording.specs.Decimal.{digit, decimal}
use Rattle.wording.proofs.Decimals.{decimal_small, decimal_more}

pub same_digits : (n : ℕ) → n < 2 ^ 64 → decimal n ≡ fmt.decimal n
same_digits n small =
    sym (decimal_by_steps (λ m ds. ds ≡ decimal m) (λ m one. sym (decimal_small m one)) (λ m ds more same. ap (λ s. s ++ (digit (m % 10) ∷ [])) same ∙ sym (decimal_more m more)) n small)
