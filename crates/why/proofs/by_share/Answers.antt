-- `why::by_share` meets its contract: the chosen leaf itself, or where the ways of the two part.
-- Assumes nothing.
use Prim.Native.Nat.{ℕ}
use mathlib.Core.Path.{sym, subst}
use native.Mathlib.Omega.{arith}
use Rattle.reason.specs.declared.Reason.TheVariants.{PassedOver}
use Rattle.why.specs.Why.{Holds}
use Rattle.why.proofs.Shares.{asked_apart, child_narrow, is_passed_lem}
use Rattle.why.proofs.by_share.Goals as goal

pub part-parting-requires : goal.part-parting-requires
part-parting-requires c =
    let p = c.requires in
    record { tree = p.tree; calls = p.calls; holds = asked_apart p.holds.holds c.if-leaf-chosen.false }

pub get-time-requires : goal.get-time-requires
get-time-requires c =
    let p = c.requires in
    let a = p.holds.holds in
    (child_narrow a c.if-leaf-chosen.false (c.part-parting.ensures p.tree p.calls (asked_apart a c.if-leaf-chosen.false)), omega arith)

pub returns : goal.returns
returns c = λ tick tree cs a.
    let apart = c.if-leaf-chosen.false in
    let common = c.part-parting.ensures tree cs (asked_apart a apart) in
    let start = c in
    subst (λ (v : ℕ). Holds tree cs tick start.args.leaf (PassedOver c.part-parting.result.class c.part-parting.result.child v)) (sym c.get-time.ensures) (is_passed_lem a apart common)
