-- A text that comes in turns is scanned as it would be whole.
-- Assumes nothing.
use Rattle.std.proofs.Common.{◌≡◌, ℕ, Bool, true, ◌&&◌, List, [], ◌∷◌, ◌++◌, None, Some, Ok, Err, sym, refl, ap, ◌∙◌}
use mathlib.Core.Bool.{and_assoc, false≢true}
use Rattle.std.proofs.lemmas.Bool.{and_parts}
use Rattle.logtext.specs.declared.Scan.{Scan}
use Rattle.logtext.specs.Scans.{Seen, seen_at, stepped}
use Rattle.logtext.specs.Texts.{with_seen, is_no_error, numbers_of, scan_over, is_well}
use Rattle.logtext.specs.Theorems.{InTurns, Reads}

over_turns : (scan : Scan) (a b : List ℕ) → scan_over scan (a ++ b) ≡ scan_over (scan_over scan a) b
unfolding scan_over
over_turns scan [] b = refl
over_turns scan (x ∷ a) b = over_turns (stepped scan x) a b

-- what a byte shows, before what comes after it
shown_more : (seen : Seen) (ns ms others : List ℕ) → is_no_error seen ≡ true → ns ≡ ms ++ others → with_seen seen ns ≡ with_seen seen ms ++ others
shown_more (Ok None) ns ms others h e = e
shown_more (Ok (Some n)) ns ms others h e = ap (λ (l : List ℕ). n ∷ l) e
shown_more (Err why) ns ms others h e = absurd (false≢true h)

well_turns : (scan : Scan) (a b : List ℕ) → is_well scan (a ++ b) ≡ (is_well scan a && is_well (scan_over scan a) b)
unfolding is_well scan_over
well_turns scan [] b = refl
well_turns scan (x ∷ a) b =
    ap (λ (t : Bool). is_no_error (seen_at scan x) && t) (well_turns (stepped scan x) a b)
    ∙ sym (and_assoc (is_no_error (seen_at scan x)) (is_well (stepped scan x) a) (is_well (scan_over (stepped scan x) a) b))

numbers_turns : (scan : Scan) (a b : List ℕ) → is_well scan a ≡ true → numbers_of scan (a ++ b) ≡ numbers_of scan a ++ numbers_of (scan_over scan a) b
unfolding is_well scan_over numbers_of
numbers_turns scan [] b h = refl
numbers_turns scan (x ∷ a) b h =
    let (right, others) = and_parts (is_no_error (seen_at scan x)) (is_well (stepped scan x) a) h in
    shown_more (seen_at scan x) _ _ _ right (numbers_turns (stepped scan x) a b others)

pub in_turns : InTurns
in_turns scan a b = record { over = over_turns scan a b; well = well_turns scan a b; numbers = numbers_turns scan a b }

-- so what reads well, and then what reads well from there, read well together
pub reads_then : {scan next after : Scan} {a b ns ms : List ℕ} → Reads scan a ns next → Reads next b ms after → Reads scan (a ++ b) (ns ++ ms) after
reads_then {scan} {next} {after} {a} {b} p q =
    let turn = in_turns scan a b in
    record {
      numbers = rw (turn.numbers p.well, p.over, p.numbers, q.numbers);
      well = rw (turn.well, p.over, p.well) q.well;
      over = rw (turn.over, p.over) q.over;
    }
