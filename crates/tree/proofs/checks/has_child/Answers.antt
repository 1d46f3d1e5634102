-- `tree::checks::has_child` meets its contract: the loop's invariant is that no class passed is a child, as the root is none.
-- Assumes nothing.
use mathlib.Core.Path.{◌≡◌, sym, ap, ◌∙◌}
use native.Mathlib.Omega.{arith}
use borrow.Author.Count.{below_more}
use borrow.Author.Rules.{rules}
use Rattle.tree.specs.Trees.{parent_of}
use Rattle.tree.specs.declared.Class.{Class}
use Rattle.tree.proofs.Children.{ChildOf, no_child, child_has, has_none}
use Rattle.tree.proofs.checks.has_child.Goals as goal

pub loop-i-init : goal.loop-i-init
loop-i-init c = λ k l. no_child _ _ k (λ h. omega arith)

pub returns-then-class_at-class : goal.returns-then-class_at-class
returns-then-class_at-class c =
    let args = c.args in
    let i = c.loop-i.i in
    let parent : parent_of args.tree i ≡ args.class = sym (ap (λ (k : Class). k.parent) c.class_at.ensures) ∙ c.if-class_at-class.true in
    sym (child_has args.tree args.class i (record { above = search rules; class = search rules; parent = parent }))

pub loop-i-preserved : goal.loop-i-preserved
loop-i-preserved c =
    let args = c.args in
    let i = c.loop-i.i in
    let other : (ChildOf args.tree args.class i → ⊥) = λ h. c.if-class_at-class.false (ap (λ (k : Class). k.parent) c.class_at.ensures ∙ h.parent) in
    below_more _ _ c.loop-i.invariant (no_child args.tree args.class i other)

pub returns : goal.returns
returns c =
    let args = c.args in
    sym (has_none args.tree args.class (λ k l. c.loop-i.invariant k (omega arith)))
