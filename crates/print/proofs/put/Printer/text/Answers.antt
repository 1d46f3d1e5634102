-- `print::put::Printer::text` meets its contract: the part of the buffer that is lent holds the word when it comes back.
-- Assumes nothing.
use Prim.Native.Nat.{◌+◌, ◌-◌}
use mathlib.Core.Path.{◌≡◌, refl, ap, ◌∙◌}
use native.Mathlib.Omega.{arith}
use lib.ListN.{length}
use lib.Seq.{length-sets}
use Rattle.tree.proofs.Stores.{sets_part}
use Rattle.print.proofs.Stores.{ends_within}
use Rattle.print.proofs.put.Printer.text.Goals as goal

pub returns : goal.returns
returns c =
    let out = c.args.self.now.out.now in
    let word = c.args.word.now in
    let at = c.args.self.now.at in
    let long : length word ≡ at + length word - at = omega arith in
    let holds = sets_part out at (at + length word - at) word long (omega arith) in
    rw c.copy_from_slice.ensures.after
    (record {
      same_buffer = refl;
      same_length = ap length holds ∙ length-sets out at word;
      printed = record { holds = holds; ends = refl; within = ends_within (at + length word) _ (omega (arith, ap length holds, length-sets out at word)) };
    })
