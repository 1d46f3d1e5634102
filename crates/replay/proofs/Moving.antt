-- A part of a text copied to its front is a run of stores there.
-- Assumes nothing.
use Rattle.std.proofs.Common.{◌≡◌, ℕ, ◌+◌, ◌-◌, ◌≤◌, List, ◌++◌, length, take, drop, sym, ap, ◌∙◌, arith, length-drop, length-take-le}
use Rattle.std.proofs.lemmas.List.Edits.{sets-eq, length-paste}
use Rattle.std.specs.List.{copy_within}
use Rattle.print.proofs.Stores.{ends_within}
use Rattle.replay.specs.Text.{KeptInFront}

pub kept_in_front : (old : List ℕ) (from end : ℕ) → from ≤ end → end ≤ length old → KeptInFront old from end (copy_within old from end 0) (end - from)
kept_in_front old from end ordered within =
    let n = end - from in
    let part = take n (drop from old) in
    let reaches : n ≤ length (drop from old) = omega (arith, length-drop from old) in
    let counted : length part ≡ n = length-take-le n (drop from old) reaches in
    let fits : 0 + length part ≤ length old = omega (arith, counted) in
    record {
      holds = ap (λ (k : ℕ). take 0 old ++ part ++ drop (0 + k) old) (sym counted) ∙ sym (sets-eq part old 0 fits);
      ends = omega (arith, counted);
      within = ends_within n (copy_within old from end 0) (omega (arith, length-paste old 0 (drop from old) n (omega arith) reaches));
    }
