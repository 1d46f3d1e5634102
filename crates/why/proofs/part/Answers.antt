-- `why::part` meets its contract: the two ways up go on towards their last common class. The measure is the sum of the numbers at which they stand.
-- Assumes nothing.
use Prim.Native.Nat.{ℕ, ◌<◌}
use mathlib.Core.Path.{◌≡◌, sym, ◌∙◌, subst}
use mathlib.Core.List.{List}
use native.Mathlib.Omega.{arith}
use Rattle.tree.specs.declared.Tree.{Tree}
use Rattle.rules.specs.Calls.{Call}
use Rattle.rules.proofs.Trees.{leaf_class, parent_lower}
use Rattle.state.specs.Table.{at}
use Rattle.state.specs.Columns.{PARENT}
use Rattle.state.proofs.Choosing.{count_most}
use Rattle.why.specs.Steps.{Apart}
use Rattle.why.proofs.Ways.{Going, going_none, going_class, going_other, going_up, going_over, going_met}
use Rattle.why.proofs.part.Goals as goal
use Rattle.why.proofs.part.Goals.{Else-other-class, In-loop-class}

module _ (c : In-loop-class) {tree : Tree} {cs : List Call} (a : Apart c.args.words.now tree cs c.args.leaf c.args.chosen) where
  head : Going tree a.told.grown c.args.leaf c.args.chosen c.loop-class.class c.loop-class.other c.loop-class.child
  head = c.loop-class.invariant tree cs a

  class : c.loop-class.class < tree.count
  class = going_class tree a.told.grown (leaf_class tree c.args.leaf a.leaf) (leaf_class tree c.args.chosen a.other) head

  other : c.loop-class.other < tree.count
  other = going_other tree a.told.grown (leaf_class tree c.args.leaf a.leaf) (leaf_class tree c.args.chosen a.other) head

  up : c.loop-class.other < c.loop-class.class → (parent : ℕ) → parent ≡ at c.args.words.now c.loop-class.class PARENT
      → Going tree a.told.grown c.args.leaf c.args.chosen parent c.loop-class.other c.loop-class.child
  up l parent e =
      subst (λ (p : ℕ). Going tree a.told.grown c.args.leaf c.args.chosen p c.loop-class.other c.loop-class.child)
      (sym (e ∙ (a.told.trees c.loop-class.class class).parent))
      (going_up tree a.told.grown (leaf_class tree c.args.leaf a.leaf) (leaf_class tree c.args.chosen a.other) head l)

  over : c.loop-class.class < c.loop-class.other → (parent : ℕ) → parent ≡ at c.args.words.now c.loop-class.other PARENT
      → Going tree a.told.grown c.args.leaf c.args.chosen c.loop-class.class parent c.loop-class.other
  over l parent e =
      subst (λ (p : ℕ). Going tree a.told.grown c.args.leaf c.args.chosen c.loop-class.class p c.loop-class.other)
      (sym (e ∙ (a.told.trees c.loop-class.other other).parent))
      (going_over tree a.told.grown (leaf_class tree c.args.leaf a.leaf) (leaf_class tree c.args.chosen a.other) head l)

-- the other way stands at the higher number
lower : (c : Else-other-class) → c.loop-class.class < c.loop-class.other
lower c = omega (arith, c.if-other-class.false, c.loop-class-test.true)

pub loop-class-init : goal.loop-class-init
loop-class-init c = λ tree cs a. going_none tree a.told.grown c.args.leaf c.args.chosen

pub get-class-requires : goal.get-class-requires
get-class-requires c = let p = c.requires in (omega (arith, class c.before p.holds, count_most p.tree p.holds.told.grown), omega arith)

pub loop-class-smaller-then-other-class : goal.loop-class-smaller-then-other-class
loop-class-smaller-then-other-class c =
    let turn = c in
    let p = turn.requires in
    let small = class turn.before.before p.holds in
    omega (arith, c.get-class.ensures, (p.holds.told.trees turn.loop-class.class small).parent, parent_lower p.tree p.holds.told.grown turn.loop-class.class (omega (arith, c.if-other-class.true)) small)

pub loop-class-preserved-then-other-class : goal.loop-class-preserved-then-other-class
loop-class-preserved-then-other-class c = λ tree cs a. up c.before.before a c.if-other-class.true c.get-class.result c.get-class.ensures

pub get-other-requires : goal.get-other-requires
get-other-requires c = let p = c.requires in (omega (arith, other c.before p.holds, count_most p.tree p.holds.told.grown), omega arith)

pub loop-class-smaller : goal.loop-class-smaller
loop-class-smaller c =
    let turn = c in
    let p = turn.requires in
    let small = other turn.before.before p.holds in
    omega (arith, c.get-other.ensures, (p.holds.told.trees turn.loop-class.other small).parent, parent_lower p.tree p.holds.told.grown turn.loop-class.other (omega (arith, lower c.before)) small)

pub loop-class-preserved : goal.loop-class-preserved
loop-class-preserved c = λ tree cs a. over c.before.before a (lower c.before) c.get-other.result c.get-other.ensures

pub returns : goal.returns
returns c = λ tree cs a.
    let start = c in
    going_met tree a.told.grown (leaf_class tree start.args.leaf a.leaf) (leaf_class tree start.args.chosen a.other) (c.loop-class.invariant tree cs a) a.other a.apart c.loop-class-test.false
