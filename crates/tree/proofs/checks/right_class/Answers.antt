-- `tree::checks::right_class` meets its contract: the rule goes by whether the number is 0, as the code does.
-- Assumes nothing.
use Prim.Native.Nat.{◌<◌}
use mathlib.Core.Path.{◌≡◌}
use native.Mathlib.Omega.{arith}
use Rattle.curve.proofs.Laws.Answers.{exactly_iff}
use Rattle.tree.proofs.Classes.{root_right, right_root, other_right, right_other}
use Rattle.tree.proofs.checks.right_class.Goals as goal

pub returns-then-number-eq0 : goal.returns-then-number-eq0
returns-then-number-eq0 c =
    let args = c.args in
    let root : args.number ≡ 0 = omega arith in
    exactly_iff c.right_root.result
    (root_right args.class args.number root) (right_root args.class args.number root) c.right_root.ensures

pub returns-else-number-eq0 : goal.returns-else-number-eq0
returns-else-number-eq0 c =
    let args = c.args in
    let other : 0 < args.number = omega arith in
    exactly_iff c.right_other.result
    (other_right args.class args.number other) (right_other args.class args.number other) c.right_other.ensures
