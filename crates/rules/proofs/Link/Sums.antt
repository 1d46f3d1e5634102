-- Sums over classes: what each is at most, their sum is at most; and the sum of the amounts of a tree's curves.
-- Assumes nothing.
use Rattle.std.proofs.Common.{◌≡◌, ℕ, zero, suc, ◌+◌, ◌*◌, ◌<◌, ◌≤◌, ◌⊎◌, sym, ap, ◌∙◌, inl, inr, le_trans, le_of_eq, arith}
use Rattle.curve.specs.Curves.{amount, in_parts}
use Rattle.curve.specs.Fit.{total, CurvesFit}
use Rattle.curve.proofs.Laws.Order.{le_or_lt}
use Rattle.curve.proofs.Laws.Sum.{sum_none, sum_more}
use Rattle.curve.proofs.Laws.Fit.{fit_at}
use Rattle.tree.specs.declared.Tree.{Tree}
use Rattle.tree.specs.Trees.{curve_below, curves_from, curves_of}

-- f i + f (i + 1) + .., n of them
unfoldable pub sum_from : ℕ → ℕ → (ℕ → ℕ) → ℕ
sum_from i zero f = 0
sum_from i (suc n) f = f i + sum_from (suc i) n f

-- where k times each is at most its fellow, k times the sum is at most the fellows' sum
module _ (k : ℕ) (f g : ℕ → ℕ) (each : (j : ℕ) → k * f j ≤ g j) where
  sum_le : (i n : ℕ) → k * sum_from i n f ≤ sum_from i n g
  unfolding sum_from
  sum_le i zero = omega arith
  sum_le i (suc n) = omega (arith, each i, sum_le (suc i) n)

  -- and where one of them leaves room for x, so does the sum
  pub sum_room : (m x : ℕ) → k * (f m + x) ≤ g m → (i n : ℕ) → i ≤ m → m < i + n → k * (sum_from i n f + x) ≤ sum_from i n g
  unfolding sum_from
  sum_room m x room i zero l h = absurd (omega arith)
  sum_room m x room i (suc n) l h = at (le_or_lt m i) (λ l'. sum_room m x room (suc i) n l' (omega arith))
    where
      at : (m ≤ i) ⊎ (i < m) → (i < m → k * (sum_from (suc i) n f + x) ≤ sum_from (suc i) n g)
          → k * (f i + sum_from (suc i) n f + x) ≤ g i + sum_from (suc i) n g
      at (inl e) rest =
          let q : m ≡ i = omega arith in
          omega (arith, rw q at room, sum_le (suc i) n)
      at (inr l') rest = omega (arith, each i, rest l')

-- "the sum of all S(t)" of a tree
total_sum : (tree : Tree) (t i n : ℕ) → total (curves_from tree i n) t ≡ sum_from i n (λ j. amount (curve_below tree j) t)
unfolding sum_from curves_from
total_sum tree t i zero = sum_none (λ S. amount S t)
total_sum tree t i (suc n) =
    sum_more (λ S. amount S t) (curve_below tree i) (curves_from tree (suc i) n) ∙ ap (λ z. amount (curve_below tree i) t + z) (total_sum tree t (suc i) n)

-- curves that fit: in t ticks the link sends what all of them owe
pub fit_sum : (tree : Tree) → CurvesFit (curves_of tree) → (t : ℕ) → sum_from 0 64 (λ j. amount (curve_below tree j) t) ≤ in_parts t
unfolding curves_of
fit_sum tree fit t = le_trans (le_of_eq (sym (total_sum tree t 0 64))) (fit_at (curves_from tree 0 64) fit t)
