-- A line in a lent sheet.
-- Assumes nothing.
use Rattle.std.specs.Prelude.{ℕ, ◌+◌, ◌<◌, ◌≡◌, List, get_or}
use Rattle.std.proofs.lemmas.List.Edits.{sets}
use Rattle.reason.specs.declared.Reason.{Reason}
use Rattle.reason.specs.Reasons.{numbers, line_of}

-- the five numbers from a place on are the leaf's line
abbrev pub LineAt : List ℕ → (at leaf : ℕ) → Reason → Type 0
LineAt sheet at leaf reason = (f : ℕ) → f < numbers → get_or sheet (at + f) 0 ≡ get_or (line_of leaf reason) f 0

-- the line was put there, and all else is as it was
abbrev pub PutLine : List ℕ → (at leaf : ℕ) → Reason → List ℕ → Type 0
PutLine old at leaf reason new = new ≡ sets old at (line_of leaf reason)
