-- One class: what rule 7 says of the root, and of any other class.
-- Assumes nothing.
use Prim.Native.Nat.{ℕ, zero, suc, ◌<◌}
use mathlib.Core.Path.{◌≡◌}
use native.Mathlib.Omega.{arith}
use Rattle.tree.specs.Rules.{RightRoot, RightOther, RightClass}
use Rattle.tree.specs.declared.Class.{Class}

pub root_right : (c : Class) (i : ℕ) → i ≡ 0 → RightRoot c → RightClass c i
unfolding RightClass
root_right c zero e r = r
root_right c (suc i) e r = absurd (omega arith)

pub right_root : (c : Class) (i : ℕ) → i ≡ 0 → RightClass c i → RightRoot c
unfolding RightClass
right_root c zero e r = r
right_root c (suc i) e r = absurd (omega arith)

pub other_right : (c : Class) (i : ℕ) → 0 < i → RightOther c i → RightClass c i
unfolding RightClass
other_right c zero l r = absurd (omega arith)
other_right c (suc i) l r = r

pub right_other : (c : Class) (i : ℕ) → 0 < i → RightClass c i → RightOther c i
unfolding RightClass
right_other c zero l r = absurd (omega arith)
right_other c (suc i) l r = r
