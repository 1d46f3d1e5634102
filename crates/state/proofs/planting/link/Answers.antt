-- `state::planting::link` meets its contract: the loop's invariant is that the classes from `i` on are linked, whatever right tree the table has.
-- Assumes nothing.
use Prim.Native.Nat.{suc, ◌-◌}
use mathlib.Core.Path.{◌≡◌, refl, subst}
use native.Mathlib.Omega.{arith}
use native.Mathlib.Nat.{le_antisymm}
use Rattle.tree.specs.declared.Tree.{Tree}
use Rattle.state.specs.Planting.{Linkable}
use Rattle.state.proofs.StartingLinks.{Linking, link_none, link_on, link_done}
use Rattle.state.proofs.planting.link.Goals as goal
use Rattle.state.proofs.planting.link.Goals.{In-loop-i}

-- the class that this turn links, and all above it
turn : (c : In-loop-i) (tree : Tree) → Linkable c.args.words.now tree
    → tree.count ≡ c.args.tree.count
    → Linking c.args.words.now c.loop-i.words tree (suc (c.loop-i.i - 1))
turn c tree s e =
    let i = c.loop-i.i in
    let next : i ≡ suc (i - 1) = omega arith in
    subst (Linking _ _ tree) next (c.loop-i.invariant.2 tree s e)

pub loop-i-init : goal.loop-i-init
loop-i-init c = (c.requires.some, omega arith, λ tree s e. subst (Linking _ _ tree) e (link_none s))

pub loop-i-preserved : goal.loop-i-preserved
loop-i-preserved c =
    let stored = c in
    let next = stored in
    let got = next in
    let this = got in (
      omega arith,
      omega arith,
      λ tree s e.
          link_on s (this.loop-i.i - 1) (omega arith) (omega arith) (turn this.before.before.before.before.before.before tree s e)
          got.get-parent.ensures next.get-next.ensures stored.put.ensures c.put-in-loop-i.ensures,
    )

pub returns : goal.returns
returns c =
    let got = c in
    let after = got in
    let start = after in
    let last : after.loop-i.i ≡ 1 = le_antisymm after.loop-i-test.false after.loop-i.invariant.0 in
    link_done start.requires (subst (Linking _ _ _) last (after.loop-i.invariant.2 start.args.tree start.requires refl)) got.get-first.ensures c.put-2.ensures
