-- A header is judged by its own bytes and the number of bytes given, and the bodies' places by the contents, whatever stands after them: so a long file can be judged
-- by a prefix and a count.
-- Assumes nothing.
use Prim.Native.Nat.{ℕ, zero, suc, ◌+◌, ◌≤◌, ◌<◌}
use mathlib.Core.Path.{◌≡◌, ◌∙◌, sym, ap, subst}
use mathlib.Core.List.{List}
use mathlib.Core.Logic.{◌⊎◌, inl, inr}
use native.Mathlib.Omega.{arith}
use lib.Dec.{eqb, lit≤}
use Rattle.curve.specs.Curves.{Within}
use Rattle.tree.specs.Rules.{OfTree}
use Rattle.tree.specs.Verdicts.{Verdict}
use Rattle.file.specs.declared.Order.{Order}
use Rattle.file.specs.declared.Order.TheVariants.{Big, Little}
use Rattle.file.specs.Format.{byte_at, word_at, mark, Marked, order_if, order_of, word_of, header_bytes, version, version_of, count_of, total_of, entry_at, offset_of, length_of, start_of, RightLength, RightTotal, InPlace, HeaderChecks}
use Rattle.file.specs.Steps.{PlacesJudged}
use Rattle.tree.specs.Trees.{most_classes}
use Rattle.tree.proofs.Rule.{SameBelow, rule_map, every_map, lowest_map}
use Rattle.file.proofs.ReadLaws.Judging.{rule_next}

-- two lists of bytes agree below a place
abbrev pub Agree : ℕ → List ℕ → List ℕ → Type 0
Agree n f g = (at : ℕ) → at < n → byte_at f at ≡ byte_at g at

-- and so do their words
pub word_agrees : (n : ℕ) (f g : List ℕ) → Agree n f g → (order : Order) (at : ℕ) → at + 4 ≤ n → word_at order f at ≡ word_at order g at
unfolding word_at
word_agrees n f g same Big at h = rw (same at (omega arith), same (at + 1) (omega arith), same (at + 2) (omega arith), same (at + 3) (omega arith))
word_agrees n f g same Little at h = rw (same (at + 3) (omega arith), same (at + 2) (omega arith), same (at + 1) (omega arith), same at (omega arith))

-- in the file's own order, which stands in the header
own_agrees : (n : ℕ) (f g : List ℕ) → Agree n f g → header_bytes ≤ n → (at : ℕ) → at + 4 ≤ n → word_of f at ≡ word_of g at
unfolding order_of
own_agrees n f g same long at h =
    word_agrees n f g same (order_of f) at h
    ∙ ap (λ (w : ℕ). word_at (order_if (eqb w mark)) g at) (word_agrees n f g same Big 0 (omega arith))

module _ (f g : List ℕ) (same : Agree header_bytes f g) where
  header_word : (at : ℕ) → at + 4 ≤ header_bytes → word_of f at ≡ word_of g at
  header_word = own_agrees header_bytes f g same (lit≤ tt)

  -- what one keeps of the header's checks, the other keeps
  marked : Marked Big f ⊎ Marked Little f → Marked Big g ⊎ Marked Little g
  marked (inl m) = inl (record { first = sym (word_agrees header_bytes f g same Big 0 (omega arith)) ∙ m.first })
  marked (inr m) = inr (record { first = sym (word_agrees header_bytes f g same Little 0 (omega arith)) ∙ m.first })

  versioned : version_of f ≡ version → version_of g ≡ version
  versioned e = sym (header_word 4 (omega arith)) ∙ e

  counted : Within 2 64 (count_of f) → Within 2 64 (count_of g)
  counted w = subst (Within 2 64) (header_word 8 (omega arith)) w

  totalled : (given : ℕ) → RightTotal f given → RightTotal g given
  totalled given r = record {
    total = sym (header_word 12 (omega arith)) ∙ r.total;
    contents = subst (λ (n : ℕ). entry_at n ≤ given) (header_word 8 (omega arith)) r.contents;
  }

-- the same check of two things of which each is right where the other is
whole_as : {number : ℕ} {K K' : Type 0} {N N' : Verdict → Type 0} {v : Verdict} → (K → K') → (K' → K) → (N v → N' v) → OfTree number K N v → OfTree number K' N' v
whole_as to back next = rule_map to (λ i b. record { zero = b.zero; fault = λ k. b.fault (back k) }) (λ k. next)

-- bytes that agree below the header's end have the same verdict on the header, with so many bytes given, and go on alike
pub header_prefix : (f g : List ℕ) → Agree header_bytes f g → (given : ℕ) (Next : Verdict → Type 0) (v : Verdict) → HeaderChecks f given Next v → HeaderChecks g given Next v
unfolding HeaderChecks
header_prefix f g same given Next v =
    let back : Agree header_bytes g f = λ at h. sym (same at h) in
    rule_next
    (whole_as (marked f g same) (marked g f back)
    (whole_as (versioned f g same) (versioned g f back)
    (whole_as (counted f g same) (counted g f back)
    (whole_as (totalled f g same given) (totalled g f back given)
    (λ n. n)))))

-- bytes that agree below the end of the longest contents
module _ (f g : List ℕ) (same : Agree (entry_at most_classes) f g) where
  own_word : (at : ℕ) → at + 4 ≤ entry_at most_classes → word_of f at ≡ word_of g at
  own_word = own_agrees (entry_at most_classes) f g same (lit≤ tt)

  count_agrees : count_of f ≡ count_of g
  count_agrees = own_word 8 (lit≤ tt)

  total_agrees : total_of f ≡ total_of g
  total_agrees = own_word 12 (lit≤ tt)

  offset_agrees : (i : ℕ) → i < most_classes → offset_of f i ≡ offset_of g i
  unfolding offset_of
  offset_agrees i h = own_word (entry_at i) (omega arith)

  length_agrees : (i : ℕ) → i < most_classes → length_of f i ≡ length_of g i
  unfolding length_of
  length_agrees i h = own_word (entry_at i + 4) (omega arith)

  start_agrees : (i : ℕ) → i < most_classes → start_of f i ≡ start_of g i
  unfolding start_of
  start_agrees zero h = ap entry_at count_agrees
  start_agrees (suc i) h = omega (arith, offset_agrees i (omega arith), length_agrees i (omega arith))

  -- have a body in its place alike
  place_agrees : (i : ℕ) → i < most_classes → InPlace f i → InPlace g i
  place_agrees i h p = record {
    start = sym (offset_agrees i h) ∙ (p.start ∙ start_agrees i h);
    long = subst RightLength (length_agrees i h) p.long;
    within = omega (arith, p.within, offset_agrees i h, length_agrees i h, total_agrees);
    last = λ e. omega (arith, p.last (omega (arith, count_agrees)), offset_agrees i h, length_agrees i h, total_agrees);
  }

-- and so the same verdict on their places
pub places_prefix : (f g : List ℕ) → Agree (entry_at most_classes) f g → count_of f ≤ most_classes → (v : Verdict) → PlacesJudged f v → PlacesJudged g v
places_prefix f g same few v =
    let back : Agree (entry_at most_classes) g f = λ at h. sym (same at h) in
    let both : SameBelow (InPlace f) (InPlace g) (count_of f) = record { to = λ i h. place_agrees f g same i (omega arith); from = λ i h. place_agrees g f back i (omega arith) } in
    rule_map (every_map (count_agrees f g same) both) (lowest_map (count_agrees f g same) both) (λ every n. n)
