-- Where fewer bytes were seen than are kept, these are the file; else what is kept is its front.
-- Assumes nothing.
use Prim.Native.Nat.{ℕ}
use mathlib.Core.Path.{subst⁻¹}
use mathlib.Core.List.{List}
use mathlib.Core.Logic.{⊎_elim}
use native.Mathlib.Omega.{arith}
use lib.ListN.{take}
use lib.Seq.{take_all}
use Rattle.curve.proofs.Laws.Order.{le_or_lt}
use Rattle.file.specs.Fronts.{most_file_bytes, Front}
use Rattle.bursts.proofs.Held.{few_front, many_front}
use Rattle.bursts.proofs.keeping.reading.Goals as goal

pub returns : goal.returns
returns c file holds =
    let kept = c.args.kept.now in
    let count = c.args.count in
    let n = c.min.result in
    let front : Front (take n kept) count file =
    ⊎_elim
    (λ many. subst⁻¹ (λ (l : List ℕ). Front l count file) (take_all n kept (omega arith)) (many_front kept count file c.requires holds many))
    (λ few. subst⁻¹ (λ (k : ℕ). Front (take k kept) count file) (omega arith) (few_front kept count file c.requires holds few))
    (le_or_lt most_file_bytes count) in
    c.read_front.ensures file front
