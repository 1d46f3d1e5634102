-- What the kept bytes and the count hold, before and after a burst.
-- Assumes nothing.
use Prim.Native.Nat.{ℕ, ◌+◌, ◌-◌, ◌≤◌, ◌<◌, min}
use mathlib.Core.Path.{◌≡◌, ◌∙◌, sym, ap}
use mathlib.Core.List.{List, ◌++◌}
use mathlib.Core.Logic.{inl, inr, ⊎_elim}
use native.Mathlib.Omega.{arith}
use lib.ListN.{length, take, length-append}
use lib.Seq.{paste, paste-zero, length-paste, take-paste, take_all, take-append-le, take-append-add}
use Rattle.curve.proofs.Laws.Order.{le_or_lt}
use Rattle.file.specs.Fronts.{most_file_bytes, stopped, Front}
use Rattle.bursts.specs.Bursts.{Holds, kept_with}

module _ (kept : List ℕ) (count : ℕ) (file : List ℕ) (room : length kept ≡ most_file_bytes) (holds : Holds kept count file) where
  -- fewer bytes than are kept: they are all of the file
  pub all_kept : count < most_file_bytes → take count kept ≡ file
  all_kept few =
      let long : length file ≡ count = omega (arith, holds.counted) in
      ap (λ (n : ℕ). take n kept) (sym long) ∙ (holds.first ∙ take_all most_file_bytes file (omega arith))

  -- else as many as are kept are its first
  pub first_kept : most_file_bytes ≤ count → kept ≡ take most_file_bytes file
  first_kept many = sym (take_all (length file) kept (omega (arith, holds.counted))) ∙ holds.first

  -- what is at hand of the file
  pub few_front : count < most_file_bytes → Front (take count kept) count file
  few_front few =
      let own = all_kept few in
      record {
        first = own ∙ sym (take_all (length (take count kept)) file (omega (arith, ap length own)));
        enough = inl own;
        counted = holds.counted;
      }

  pub many_front : most_file_bytes ≤ count → Front kept count file
  many_front many = record {
    first = first_kept many ∙ ap (λ (n : ℕ). take n file) (sym room);
    enough = inr (omega arith);
    counted = holds.counted;
  }

  -- after a burst
  module _ (burst : List ℕ) where
    abbrev n : ℕ
    n = min (length burst) (most_file_bytes - count)

    long_with : length (file ++ burst) ≡ length file + length burst
    long_with = length-append file burst

    kept_many : most_file_bytes ≤ count → take (length (file ++ burst)) (kept_with kept count burst) ≡ take most_file_bytes (file ++ burst)
    kept_many many =
        let none : n ≡ 0 = omega arith in
        let same : kept_with kept count burst ≡ kept = ap (λ (k : ℕ). paste kept count burst k) none ∙ sym (paste-zero kept count burst) in
        ap (λ (l : List ℕ). take (length (file ++ burst)) l) same
        ∙ (take_all (length (file ++ burst)) kept (omega (arith, holds.counted, long_with))
        ∙ (first_kept many
        ∙ sym (take-append-le most_file_bytes file burst (omega (arith, holds.counted)))))

    -- as much of the burst as there is room for stands after the file
    placed : count < most_file_bytes → take (count + n) (kept_with kept count burst) ≡ file ++ take n burst
    placed few = take-paste kept count burst n (omega arith) (omega arith) ∙ ap (λ (l : List ℕ). l ++ take n burst) (all_kept few)

    kept_few : count < most_file_bytes → take (length (file ++ burst)) (kept_with kept count burst) ≡ take most_file_bytes (file ++ burst)
    kept_few few =
        let long : length file ≡ count = omega (arith, holds.counted) in
        ⊎_elim
        (λ fits.
        let all : n ≡ length burst = omega arith in
        let whole : take n burst ≡ burst = take_all n burst (omega arith) in
        let end : length (file ++ burst) ≡ count + n = omega (arith, long_with) in
        ap (λ (k : ℕ). take k (kept_with kept count burst)) end
        ∙ (placed few
        ∙ (ap (λ (l : List ℕ). file ++ l) whole
        ∙ sym (take_all most_file_bytes (file ++ burst) (omega (arith, long_with))))))
        (λ more.
        let full : length file + n ≡ most_file_bytes = omega arith in
        let size : length (kept_with kept count burst) ≡ most_file_bytes = length-paste kept count burst n (omega arith) (omega arith) ∙ room in
        take_all (length (file ++ burst)) (kept_with kept count burst) (omega (arith, long_with))
        ∙ (sym (take_all (count + n) (kept_with kept count burst) (omega arith))
        ∙ (placed few
        ∙ (sym (take-append-add file burst n)
        ∙ ap (λ (k : ℕ). take k (file ++ burst)) full))))
        (le_or_lt (count + length burst) most_file_bytes)

    -- the memory holds the file with the burst
    pub holds_next : Holds (kept_with kept count burst) (stopped (count + length burst)) (file ++ burst)
    holds_next = record { first = ⊎_elim kept_many kept_few (le_or_lt most_file_bytes count); counted = omega (arith, holds.counted, long_with) }
