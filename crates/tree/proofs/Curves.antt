-- The list of a tree's curves: as many as the most classes, each class's own below the count and none above it.
-- Assumes nothing.
use Prim.Native.Nat.{ℕ, zero, suc, ◌+◌, ◌≤◌, ◌<◌}
use mathlib.Core.Path.{◌≡◌, refl, sym, ap, ◌∙◌}
use mathlib.Core.List.{List, map}
use Rattle.std.specs.List.{range_with_len}
use Rattle.std.proofs.lemmas.List.FromFn.{fill_by_all}
use Rattle.curve.specs.declared.Curve.{Curve}
use native.Mathlib.Nat.{not-suc-le-zero, le_of_suc-le-suc, add-zero, zero-add}
use native.Mathlib.Omega.{arith}
use lib.ListN.{length, get_or}
use borrow.Author.Tests.{lt-ltb, le-ltb}
use Rattle.curve.specs.declared.Curve.TheVariants.{None}
use Rattle.tree.specs.Trees.{most_classes, curve_of, curve_below, curves_from, curves_of}
use Rattle.tree.specs.declared.Tree.{Tree}

module _ (t : Tree) where
  pub curve_below_lem : (i : ℕ) → i < t.count → curve_below t i ≡ curve_of t i
  unfolding curve_below
  curve_below_lem i l = rw (lt-ltb i t.count l)

  pub curve_above : (i : ℕ) → t.count ≤ i → curve_below t i ≡ None
  unfolding curve_below
  curve_above i l = rw (le-ltb i t.count l)

  length_from : (i n : ℕ) → length (curves_from t i n) ≡ n
  unfolding curves_from
  length_from i zero = refl
  length_from i (suc n) = ap suc (length_from (suc i) n)

  at_from : (i n k : ℕ) → k < n → get_or (curves_from t i n) k None ≡ curve_below t (i + k)
  unfolding curves_from
  at_from i zero k l = absurd (not-suc-le-zero l)
  at_from i (suc n) zero l = ap (curve_below t) (sym (add-zero i))
  at_from i (suc n) (suc k) l = at_from (suc i) n k (le_of_suc-le-suc l) ∙ ap (curve_below t) (omega arith)

  pub curves_length : length (curves_of t) ≡ most_classes
  unfolding curves_of
  curves_length = length_from 0 most_classes

  pub curves_at : (i : ℕ) → i < most_classes → get_or (curves_of t) i None ≡ curve_below t i
  unfolding curves_of
  curves_at i l = at_from 0 most_classes i l ∙ ap (curve_below t) (zero-add i)

  -- as an array that a closure makes
  pub curves_are : (curves : List Curve) → curves ≡ map (curve_below t) (range_with_len 0 most_classes) → curves ≡ curves_of t
  curves_are curves e = e ∙ sym (fill_by_all (curve_below t) (curves_of t) most_classes None curves_length curves_at)
