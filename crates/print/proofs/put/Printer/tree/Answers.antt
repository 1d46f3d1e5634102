-- `print::put::Printer::tree` meets its contract: the loop's invariant: the lines of the classes below `i` stand after the line `tree`.
-- The measure is what is left of the count.
-- Assumes nothing.
use Prim.Native.Nat.{ℕ}
use mathlib.Core.Path.{◌≡◌, sym, ap, ◌∙◌}
use mathlib.Core.List.{◌++◌}
use native.Mathlib.Omega.{arith}
use Rattle.tree.specs.declared.Class.{Class}
use Rattle.print.specs.declared.Answer.TheVariants.{TreeHead, ClassOf}
use Rattle.print.specs.Lines.{further, line_of, class_lines, tree_text}
use Rattle.print.proofs.Rows.{lines_next}
use Rattle.print.proofs.Stores.{then, same_as, nothing}
use Rattle.print.proofs.put.Printer.tree.Goals as goal

pub loop-i-init : goal.loop-i-init
unfolding class_lines
loop-i-init c = (omega arith, omega (arith, c.text.ensures.printed.ends), nothing c.text.new.self (omega (arith, c.text.ensures.printed.ends, c.text.ensures.same_length)))

pub loop-i-preserved : goal.loop-i-preserved
loop-i-preserved c =
    let tree = c.args.tree in
    let loop = c.loop-i in
    let row = c.class_of.ensures in (
      omega arith,
      omega (arith, row.room),
      same_as
          (lines_next tree loop.i ∙ ap (λ (k : Class). class_lines tree 0 loop.i ++ line_of (ClassOf loop.i k)) (sym c.class_at.ensures))
          (then loop.invariant.2 row.prints),
    )

pub returns : goal.returns
unfolding further line_of tree_text
returns c =
    let tree = c.args.tree in
    let all : c.loop-i.i ≡ c.min-i-end.result = omega arith in
    same_as
    (ap (λ (n : ℕ). line_of TreeHead ++ class_lines tree 0 n) (sym (all ∙ c.min-i-end.ensures)))
    (then c.text.ensures c.loop-i.invariant.2)
