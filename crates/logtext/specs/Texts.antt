-- The numbers of a log's text, as docs/FORMS.md sets them down.
-- Assumes nothing.
use Rattle.std.specs.Prelude.{ℕ, Bool, true, false, ◌&&◌, List, [], ◌∷◌, None, Some, Ok, Err}
use Rattle.logtext.specs.declared.Scan.{Scan}
use Rattle.logtext.specs.Scans.{Seen, seen_at, stepped}

-- what a byte shows, and then the numbers of what comes after it; a word that is no number ends them
abbrev pub with_seen : Seen → List ℕ → List ℕ
with_seen (Ok None) others = others
with_seen (Ok (Some n)) others = n ∷ others
with_seen (Err why) others = []

-- the numbers that bytes show, from a scan on
unfoldable pub numbers_of : Scan → List ℕ → List ℕ
numbers_of scan [] = []
numbers_of scan (b ∷ s) = with_seen (seen_at scan b) (numbers_of (stepped scan b) s)

-- the scan after the bytes
unfoldable pub scan_over : Scan → List ℕ → Scan
scan_over scan [] = scan
scan_over scan (b ∷ s) = scan_over (stepped scan b) s

-- whether no byte shows a word that is no number
abbrev pub is_no_error : Seen → Bool
is_no_error (Ok None) = true
is_no_error (Ok (Some n)) = true
is_no_error (Err why) = false

unfoldable pub is_well : Scan → List ℕ → Bool
is_well scan [] = true
is_well scan (b ∷ s) = is_no_error (seen_at scan b) && is_well (stepped scan b) s
