-- The text of a calls file in a lent array, and the printed lines that wait in another, as docs/FORMS.md sets them down.
-- Assumes nothing.
use Rattle.std.specs.Prelude.{◌≡◌, ℕ, zero, suc, ◌-◌, Bool, true, false, List, [], ◌∷◌, length, take, drop, nat_lt}
use Rattle.wording.specs.Letters.{line_feed}
use Rattle.print.specs.Promises.{Printed}

-- what is not replayed yet stands in front, and all behind it is as it was
abbrev pub KeptInFront : List ℕ → (from end : ℕ) → List ℕ → ℕ → Type 0
KeptInFront old from end new r = Printed old 0 (take (end - from) (drop from old)) new r

-- "the last line may have none": it gets its line feed, and a text of no bytes has no line
abbrev pub Finished : List ℕ → ℕ → List ℕ → ℕ → Type 0
Finished old zero new r = (new ≡ old) × (r ≡ 0)
Finished old (suc kept) new r = Printed old (suc kept) (line_feed ∷ []) new r

-- a line is put behind the bytes that wait where it fits there, or in front once they are written
abbrev pub place_for : Bool → ℕ → ℕ
place_for true used = 0
place_for false used = used

abbrev pub Queued : List ℕ → ℕ → List ℕ → List ℕ → ℕ → Type 0
Queued old used line new r = Printed old (place_for (nat_lt (length old - used) (length line)) used) line new r
