-- The entry at the reader's place: its two words.
-- Assumes nothing.
use Rattle.file.specs.Steps.{entry_of}
use Rattle.file.proofs.reader.entries.Reader.next_entry.Goals as goal

pub returns-clause-entry : goal.returns-clause-entry
unfolding entry_of
returns-clause-entry c = λ i. record { offset = c.word-offset.ensures i; bytes = c.word-bytes.ensures i }
