use Rattle.std.specs.Prelude.{◌≡◌, take}
use lib.Seq.{sets}
use Rattle.file.specs.declared.Order.TheVariants.{Big}
use Rattle.file.specs.Writing.{bytes_of}
use Rattle.file.proofs.writer.put_words.Given as goal

abbrev pub invariant-loop-k : goal.invariant-loop-k
invariant-loop-k l = l.out ≡ sets l.initial.out l.at (bytes_of Big (take l.k l.words))
