use mathlib.Core.Path.{◌≡◌}
use lib.Seq.{sets}
use Rattle.file.specs.declared.Order.TheVariants.{Big}
use Rattle.file.specs.Writing.{bytes_of, body_place, bodies_words}
use Rattle.file.proofs.writer.put_bodies.Given as goal

abbrev pub invariant-loop-i : goal.invariant-loop-i
invariant-loop-i l = (l.at ≡ body_place l.tree l.i) × (l.out ≡ sets l.initial.out (body_place l.tree 0) (bytes_of Big (bodies_words l.tree l.i)))
