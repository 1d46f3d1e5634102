-- Each promise allows one result.
-- Assumes nothing.
use Prim.Native.Nat.{ℕ}
use mathlib.Core.Path.{◌≡◌, sym, ◌∙◌}
use mathlib.Core.List.{List}
use Rattle.reason.specs.declared.Reason.{Reason}
use Rattle.reason.specs.Reasons.{reason_of}
use Rattle.reason.specs.Lines.{PutLine}

pub put_one : (old : List ℕ) (at leaf : ℕ) (r : Reason) (x y : List ℕ) → PutLine old at leaf r x → PutLine old at leaf r y → x ≡ y
put_one old at leaf r x y p q = p ∙ sym q

pub reason_of_one : (number first second third : ℕ) (r s : Reason) → r ≡ reason_of number first second third → s ≡ reason_of number first second third → r ≡ s
reason_of_one number first second third r s p q = p ∙ sym q
