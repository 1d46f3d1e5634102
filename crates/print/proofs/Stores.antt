-- Laws on prints: they are runs of stores, `sets l i vs`, the list l with the elements of vs from place i on.
-- Assumes nothing.
use Prim.Native.Nat.{ℕ, ◌+◌, ◌≤◌}
use mathlib.Core.Path.{◌≡◌, refl, sym, subst, ap, ◌∙◌}
use mathlib.Core.List.{List, [], ◌++◌}
use native.Mathlib.Nat.{add-zero}
use native.Mathlib.Omega.{arith}
use lib.ListN.{length, length-append}
use lib.Seq.{sets, length-take-le}
use Rattle.tree.proofs.Stores.{sets_append}
use Rattle.print.specs.declared.put.Printer.{Printer}
use Rattle.print.specs.Promises.{HasRoom, Printed, Prints, Within}

-- a part that ends within its buffer
pub ends_within : (n : ℕ) (xs : List ℕ) → n ≤ length xs → Within n xs
ends_within n xs fits = (fits, sym (length-take-le n xs fits))

-- one print, and then the next from where it ends, is one print of both
printed_then : {o o₁ o₂ xs ys : List ℕ} {at r₁ r₂ : ℕ} → Printed o at xs o₁ r₁ → Printed o₁ r₁ ys o₂ r₂ → Printed o at (xs ++ ys) o₂ r₂
printed_then {o} {o₁} {o₂} {xs} {ys} {at} {r₁} {r₂} p q =
    record {
      holds =
          q.holds
          ∙ ap (λ (k : ℕ). sets o₁ k ys) p.ends
          ∙ ap (λ (l : List ℕ). sets l (at + length xs) ys) p.holds
          ∙ sets_append xs ys o at;
      ends = omega (arith, p.ends, q.ends, length-append xs ys);
      within = q.within;
    }

pub then : {p q r : Printer} {xs ys : List ℕ} → Prints p xs q → Prints q ys r → Prints p (xs ++ ys) r
then first second =
    record {
      same_buffer = second.same_buffer ∙ first.same_buffer;
      same_length = second.same_length ∙ first.same_length;
      printed = printed_then first.printed second.printed;
    }

-- a print of nothing
pub nothing : (p : Printer) → HasRoom p 0 → Prints p [] p
nothing p room = record { same_buffer = refl; same_length = refl; printed = record { holds = refl; ends = sym (add-zero p.at); within = ends_within p.at p.out.now (omega arith) } }

-- a print of bytes that are equal
pub same_as : {p q : Printer} {xs ys : List ℕ} → xs ≡ ys → Prints p ys q → Prints p xs q
same_as {p} {q} e printed = subst (λ bytes. Prints p bytes q) (sym e) printed
