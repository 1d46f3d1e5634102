-- The bytes of a body, by the table of kinds.
-- Assumes nothing.
use mathlib.Core.Path.{sym, ap}
use native.Mathlib.Omega.{arith}
use Rattle.file.specs.Format.{body_bytes}
use Rattle.file.proofs.ReadLaws.KindTable.{unknown_bytes}
use Rattle.file.proofs.format.body_bytes.Goals as goal

pub returns-in-0 : goal.returns-in-0
unfolding body_bytes
returns-in-0 c = sym (ap body_bytes c.in-0.is)

pub returns-in-1 : goal.returns-in-1
unfolding body_bytes
returns-in-1 c = sym (ap body_bytes c.in-1.is)

pub returns-in-2 : goal.returns-in-2
unfolding body_bytes
returns-in-2 c = sym (ap body_bytes c.in-2.is)

pub returns-in-3 : goal.returns-in-3
unfolding body_bytes
returns-in-3 c = sym (ap body_bytes c.in-3.is)

pub returns-in_default : goal.returns-in_default
returns-in_default c = unknown_bytes c.args.kind (omega arith)
