-- `file::writer::put_word` meets its contract: the four bytes copied are the run of the word's bytes.
-- Assumes nothing.
use mathlib.Core.Path.{◌≡◌, ap, ◌∙◌}
use native.Mathlib.Omega.{arith}
use lib.ListN.{length}
use lib.Seq.{sets}
use Rattle.file.specs.Writing.{word_bytes}
use Rattle.tree.proofs.Stores.{sets_part}
use Rattle.file.proofs.writer.put_word.Goals as goal

pub returns : goal.returns
unfolding word_bytes
returns c =
    let a = c.args in
    let copied : c.copy_from_slice.new.self ≡ _ = c.copy_from_slice.ensures.after ∙ c.to_be_bytes.ensures in
    sets_part a.out.now a.at _ _ (ap length copied ∙ omega arith) (omega arith) ∙ ap (sets a.out.now a.at) copied
