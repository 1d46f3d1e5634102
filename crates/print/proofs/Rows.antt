-- The lines of a tree's classes, one more at a time.
-- Assumes nothing.
use Prim.Native.Nat.{ℕ, zero, suc, ◌+◌}
use mathlib.Core.Path.{◌≡◌, sym, ap, ◌∙◌}
use mathlib.Core.List.{List, ◌++◌, append_assoc, append-nil}
use native.Mathlib.Nat.{add-zero, zero-add, suc-add, add-suc}
use native.Mathlib.Numerals.{add-one}
use Rattle.tree.specs.declared.Tree.{Tree}
use Rattle.tree.specs.Trees.{class_at}
use Rattle.print.specs.declared.Answer.TheVariants.{ClassOf}
use Rattle.print.specs.Lines.{line_of, class_lines}

lines_more : (t : Tree) (i n : ℕ) → class_lines t i (suc n) ≡ class_lines t i n ++ line_of (ClassOf (i + n) (class_at t (i + n)))
unfolding class_lines
lines_more t i zero = rw add-zero (append-nil (line_of (ClassOf i (class_at t i))))
lines_more t i (suc n) =
    ap (λ (s : List ℕ). line_of (ClassOf i (class_at t i)) ++ s) (lines_more t (suc i) n)
    ∙ sym (append_assoc (line_of (ClassOf i (class_at t i))) (class_lines t (suc i) n) _)
    ∙ rw (add-suc, ← suc-add)

-- the lines of the classes below n, and the line of class n
pub lines_next : (t : Tree) (n : ℕ) → class_lines t 0 (n + 1) ≡ class_lines t 0 n ++ line_of (ClassOf n (class_at t n))
lines_next t n = rw add-one (lines_more t 0 n ∙ rw zero-add)
