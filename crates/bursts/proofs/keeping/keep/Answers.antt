-- The loop's invariant: the burst's bytes before `i` stand at their places. The measure is what there is still room for.
-- Assumes nothing.
use Prim.Native.Nat.{ℕ, ◌+◌}
use mathlib.Core.Path.{sym, ap, ◌∙◌}
use native.Mathlib.Numerals.{add-one}
use native.Mathlib.Omega.{arith}
use lib.ListN.{set, get_or, length-set}
use lib.Seq.{paste, paste-suc}
use mathlib.Core.List.{List}
use Rattle.bursts.proofs.keeping.keep.Goals as goal

pub loop-i-preserved : goal.loop-i-preserved
loop-i-preserved c =
    let a = c.args in
    let l = c.loop-i in
    let byte = get_or a.burst.now l.i 0 in (
      omega arith,
      simp length-set l.invariant.1,
      ap (λ (k : List ℕ). set k (c.min-from.result + l.i) byte) l.invariant.2
          ∙ (paste-suc a.kept.now c.min-from.result a.burst.now l.i 0 (omega arith) (omega arith)
          ∙ ap (paste a.kept.now c.min-from.result a.burst.now) (sym (add-one l.i))),
    )
