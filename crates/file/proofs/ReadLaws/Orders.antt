-- The mark and the order that it shows.
-- Assumes nothing.
use Prim.Native.Nat.{ℕ}
use mathlib.Core.Path.{◌≡◌, refl, ◌∙◌, ap}
use mathlib.Core.Bool.{Bool, true, false}
use mathlib.Core.List.{List}
use mathlib.Core.Logic.{◌⊎◌, inl, inr}
use lib.Dec.{eqb}
use borrow.Author.Tests.{eqb-true, eqb-false}
use Rattle.file.specs.Format.{word_at, word_of, mark, Marked, order_of, order_if}
use Rattle.file.specs.declared.Order.{Order}
use Rattle.file.specs.declared.Order.TheVariants.{Big, Little}

-- a word read in the file's order
pub in_order : (file : List ℕ) (order : Order) (at w : ℕ) → order ≡ order_of file → w ≡ word_at order file at → w ≡ word_of file at
in_order file order at w own is = is ∙ ap (λ (o : Order). word_at o file at) own

module _ (file : List ℕ) where
  marked_if : (b : Bool) → word_at (order_if b) file 0 ≡ mark → Marked Big file ⊎ Marked Little file
  marked_if true h = inl (record { first = h })
  marked_if false h = inr (record { first = h })

  -- the mark stands in the file's order
  pub marked : word_of file 0 ≡ mark → Marked Big file ⊎ Marked Little file
  unfolding order_of
  marked h = marked_if (eqb (word_at Big file 0) mark) h

  unmarked_if : (b : Bool) → eqb (word_at Big file 0) mark ≡ b → (word_at (order_if b) file 0 ≡ mark → ⊥) → Marked Big file ⊎ Marked Little file → ⊥
  unmarked_if true e not m = not (eqb-true _ _ e)
  unmarked_if false e not (inl m) = eqb-false _ _ e m.first
  unmarked_if false e not (inr m) = not m.first

  -- a word that is not the mark in the file's order is the mark in neither
  pub unmarked : (word_of file 0 ≡ mark → ⊥) → Marked Big file ⊎ Marked Little file → ⊥
  unfolding order_of
  unmarked not m = unmarked_if (eqb (word_at Big file 0) mark) refl not m
