-- `state::leaf::due` meets its contract: the curve layer's answer, of what the columns have.
-- Assumes nothing.
use Prim.Native.Nat.{◌≤◌}
use mathlib.Core.Path.{sym, subst}
use native.Mathlib.Omega.{arith}
use Rattle.curve.specs.Keeping.{most_start}
use Rattle.curve.specs.declared.Kept.{Kept}
use Rattle.rules.proofs.Sent.{weigh_small}
use Rattle.state.proofs.leaf.due.Goals as goal

pub overflow_add-bytes : goal.overflow_add-bytes
overflow_add-bytes c =
    let read = c in
    let start = read in
    omega (arith, c.weigh.ensures, weigh_small start.args.length start.requires.1.short, read.get.ensures, start.requires.1.bytes)

pub deadline-requires : goal.deadline-requires
deadline-requires c =
    let kept = c in
    let weighed = kept in
    let read = weighed in
    let start = read in
    let pre = start.requires.1 in (
      rw c.curve_of.ensures pre.rising,
      omega (arith, weighed.weigh.ensures, weigh_small start.args.length pre.short, read.get.ensures, pre.bytes),
      subst (λ (k : Kept). k.steep.start ≤ most_start) (sym kept.kept_of.ensures) pre.kept.steep,
      subst (λ (k : Kept). k.flat.start ≤ most_start) (sym kept.kept_of.ensures) pre.kept.flat,
    )
