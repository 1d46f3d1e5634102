-- The promise of a print allows one result: what the buffer holds afterwards, and where the print ends.
-- Assumes nothing.
use Prim.Native.Nat.{ℕ}
use mathlib.Core.Path.{◌≡◌, sym, ◌∙◌}
use mathlib.Core.List.{List}
use Rattle.std.specs.Prelude.{Some, None}
use Rattle.records.specs.Records.{Entry}
use Rattle.print.proofs.One.{printed_one}
use Rattle.printlog.specs.declared.LogLine.{LogLine}
use Rattle.printlog.specs.Promises.{PrintsLogLine, PrintsEntry}

pub prints_log_line_one : (line : LogLine) (old new new₂ : List ℕ) (end end₂ : ℕ) → PrintsLogLine line old new end → PrintsLogLine line old new₂ end₂ → (new ≡ new₂) × (end ≡ end₂)
prints_log_line_one line old new new₂ end end₂ = printed_one

pub prints_entry_one : (entry : Entry) (old new new₂ : List ℕ) (end end₂ : ℕ) → PrintsEntry entry old new end → PrintsEntry entry old new₂ end₂ → (new ≡ new₂) × (end ≡ end₂)
prints_entry_one None old new new₂ end end₂ p q = (p.0 ∙ sym q.0, p.1 ∙ sym q.1)
prints_entry_one (Some n) old new new₂ end end₂ p q = printed_one p q
