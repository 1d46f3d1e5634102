-- After the end was told, what the end answers; before it, the burst is kept and counted.
-- Assumes nothing.
use mathlib.Core.Path.{refl}
use mathlib.Core.Bool.{false}
use native.Mathlib.Omega.{arith}
use Rattle.bursts.proofs.Offers.{offered_early}
use Rattle.bursts.proofs.offer.Goals as goal

pub returns : goal.returns
returns c =
    let a = c in
    let count = c.counted.ensures in
    offered_early _ _ _ _ _ (omega arith) a.if-seen.false c.keep.ensures (λ i. record { count = count i; ended = false }) refl
