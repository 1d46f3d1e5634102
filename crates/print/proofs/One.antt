-- Each promise of a print allows one result: what the buffer holds afterwards, and where the print ends.
-- `start`, `arrival` and `departure` promise an equation of their result, and so allow one too: `equation_one` of the crate `wording`.
-- Assumes nothing.
use Prim.Native.Nat.{ℕ}
use mathlib.Core.Path.{◌≡◌}
use mathlib.Core.List.{List}
use Rattle.wording.proofs.One.{equation_one}
use Rattle.tree.specs.declared.Tree.{Tree}
use Rattle.print.specs.declared.Answer.{Answer}
use Rattle.print.specs.declared.put.Printer.{Printer}
use Rattle.print.specs.Promises.{Printed, Prints, PrintsLine, PrintsTree, PrintsNumber}

pub printed_one : {old bytes new new₂ : List ℕ} {at end end₂ : ℕ} → Printed old at bytes new end → Printed old at bytes new₂ end₂ → (new ≡ new₂) × (end ≡ end₂)
printed_one p q = (equation_one p.holds q.holds, equation_one p.ends q.ends)

-- a printer that has printed is what the promise says: the buffer that it prints into, all that this holds, and the place in it
pub prints_one : {p q r : Printer} {bytes : List ℕ} → Prints p bytes q → Prints p bytes r → (q.out.ghost_name ≡ r.out.ghost_name) × (q.out.now ≡ r.out.now) × (q.at ≡ r.at)
prints_one q r =
    let printed = printed_one q.printed r.printed in
    (equation_one q.same_buffer r.same_buffer, printed.0, printed.1)

module _ (old new new₂ : List ℕ) (end end₂ : ℕ) where
  pub prints_line_one : (answer : Answer) → PrintsLine answer old new end → PrintsLine answer old new₂ end₂ → (new ≡ new₂) × (end ≡ end₂)
  prints_line_one answer = printed_one

  pub prints_tree_one : (tree : Tree) → PrintsTree tree old new end → PrintsTree tree old new₂ end₂ → (new ≡ new₂) × (end ≡ end₂)
  prints_tree_one tree = printed_one

  pub prints_number_one : (n : ℕ) → PrintsNumber n old new end → PrintsNumber n old new₂ end₂ → (new ≡ new₂) × (end ≡ end₂)
  prints_number_one n = printed_one
