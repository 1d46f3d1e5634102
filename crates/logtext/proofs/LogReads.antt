-- The text of a log, as it is printed, reads as the log's numbers.
-- Assumes nothing.
use Rattle.std.proofs.Common.{zero, suc, [], ◌∷◌, refl, arith}
use Rattle.logtext.specs.Scans.{next_line}
use Rattle.logtext.specs.Texts.{numbers_of, scan_over, is_well}
use Rattle.logtext.specs.Theorems.{log_text, Narrow, lines_on, LogReads}
use Rattle.logtext.proofs.Turns.{reads_then}
use Rattle.logtext.proofs.RecordReads.{record_reads}

pub log_reads : LogReads
unfolding log_text Narrow lines_on numbers_of scan_over is_well
log_reads line zero [] size narrow = record { numbers = refl; well = refl; over = refl }
log_reads line zero (a ∷ log) size narrow = absurd (omega arith)
log_reads line (suc n) [] size narrow = absurd (omega arith)
log_reads line (suc n) (a ∷ []) size narrow = absurd (omega arith)
log_reads line (suc n) (a ∷ b ∷ []) size narrow = absurd (omega arith)
log_reads line (suc n) (a ∷ b ∷ c ∷ []) size narrow = absurd (omega arith)
log_reads line (suc n) (a ∷ b ∷ c ∷ d ∷ log) size narrow =
    reads_then (record_reads line a b c d narrow.0 narrow.1.0 narrow.1.1.0 narrow.1.1.1.0)
    (log_reads (next_line line) n log (omega arith) narrow.1.1.1.1)
