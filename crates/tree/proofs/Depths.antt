-- Depth: where every parent has a lower number, the walk upward ends at the root, and a class lies one deeper than its parent.
-- Assumes nothing.
use Prim.Native.Nat.{ℕ, zero, suc, ◌≤◌, ◌<◌}
use mathlib.Core.Path.{◌≡◌, refl, ap}
use native.Mathlib.Omega.{arith}
use Rattle.tree.specs.Rules.{RightBody, EveryClass}
use Rattle.tree.specs.Trees.{class_at, parent_of, steps_up, depth}
use Rattle.tree.specs.declared.Tree.{Tree}
use Rattle.tree.proofs.Classes.{right_other}

-- "Any other class has a parent of lower number"
pub lower_parent : (t : Tree) (n : ℕ) → EveryClass (RightBody t) n → (i : ℕ) → 0 < i → i < n → parent_of t i < i
lower_parent t n right i above class = (right_other (class_at t i) i above (right i class)).parent

pub depth_root : (t : Tree) → depth t 0 ≡ 0
unfolding depth steps_up
depth_root t = refl

module _ (t : Tree) (n : ℕ) (lower : (i : ℕ) → 0 < i → i < n → parent_of t i < i) where
  -- more steps than the class's own number change nothing
  steps_enough : (a b i : ℕ) → i < n → i ≤ a → i ≤ b → steps_up t a i ≡ steps_up t b i
  unfolding steps_up
  steps_enough zero zero i l la lb = refl
  steps_enough zero (suc b) zero l la lb = refl
  steps_enough zero (suc b) (suc i) l la lb = absurd (omega arith)
  steps_enough (suc a) zero zero l la lb = refl
  steps_enough (suc a) zero (suc i) l la lb = absurd (omega arith)
  steps_enough (suc a) (suc b) zero l la lb = refl
  steps_enough (suc a) (suc b) (suc i) l la lb =
      let up = lower (suc i) (omega arith) l in
      ap suc (steps_enough a b (parent_of t (suc i)) (omega arith) (omega arith) (omega arith))

  pub depth_up : (i : ℕ) → 0 < i → i < n → depth t i ≡ suc (depth t (parent_of t i))
  unfolding depth steps_up
  depth_up zero above l = absurd (omega arith)
  depth_up (suc i) above l =
      let up = lower (suc i) above l in
      ap suc (steps_enough i (parent_of t (suc i)) (parent_of t (suc i)) (omega arith) (omega arith) (omega arith))
