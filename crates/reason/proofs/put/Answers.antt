-- `reason::put` meets its contract: the line is copied over its part of the sheet.
-- Assumes nothing.
use Prim.Native.Nat.{◌+◌, ◌-◌}
use borrow.Author.Rules.{rules}
use native.Mathlib.Omega.{arith}
use Rattle.reason.proofs.Lines.{copied_line}
use Rattle.reason.proofs.put.Goals as goal

pub returns : goal.returns
returns c =
    copied_line c.args.sheet.now c.copy_from_slice.new.self c.args.at (c.args.at + 5 - c.args.at) c.args.leaf c.args.reason
    (search rules) (omega arith) c.requires
