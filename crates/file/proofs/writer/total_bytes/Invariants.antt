use mathlib.Core.Path.{◌≡◌}
use Rattle.file.specs.Writing.{body_place}
use Rattle.file.proofs.writer.total_bytes.Given as goal

abbrev pub invariant-loop-i : goal.invariant-loop-i
invariant-loop-i l = l.at ≡ body_place l.tree l.i
