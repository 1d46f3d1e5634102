-- Check 6 by its walk: a class is in its place if its entry fits, and it is not the last, or ends at the total.
-- Assumes nothing.
use Prim.Native.Nat.{ℕ, ◌+◌, ◌<◌}
use mathlib.Core.Path.{◌≡◌, refl, ◌∙◌, sym, ap, subst}
use mathlib.Core.List.{List}
use native.Mathlib.Numerals.{add-one}
use native.Mathlib.Omega.{arith}
use Rattle.tree.specs.Rules.{broken, kept, EveryClass}
use Rattle.tree.specs.declared.Refusal.TheVariants.{WrongPlace}
use Rattle.tree.specs.Verdicts.{all_right, refused}
use Rattle.file.specs.Format.{word_at, order_of, RightLength, count_of, total_of, entry_at, offset_of, length_of, start_of, end_of, InPlace}
use Rattle.file.specs.declared.reader.entries.Entry.{Entry}
use Rattle.file.specs.declared.reader.entries.Reader.{Reader}
use Rattle.file.specs.Steps.{entry_of, Fitting, PlacesJudged}

-- the entry of class i fits
abbrev pub FitsAt : List ℕ → ℕ → Type 0
FitsAt file i = Fitting (offset_of file i) (length_of file i) (start_of file i) (total_of file)

-- a reader of this file, in its order, stands at the entry of class i
pub record StandsAt (file : List ℕ) (i : ℕ) (reader : Reader) : Type 0 where
  pub lent : reader.file.now ≡ file
  pub own : reader.order ≡ order_of file
  pub place : reader.place ≡ entry_at i

-- an entry is that of class i
pub record EntryIs (file : List ℕ) (i : ℕ) (e : Entry) : Type 0 where
  pub offset : e.offset ≡ offset_of file i
  pub bytes : e.bytes ≡ length_of file i

-- the entry at which a reader stands
pub entry_is : {file : List ℕ} {i : ℕ} {r : Reader} (e : Entry) → StandsAt file i r → e ≡ entry_of r.file.now r.order r.place → EntryIs file i e
unfolding entry_of offset_of length_of
entry_is e here is = record {
  offset = ap (λ (x : Entry). x.offset) is ∙ (λ j. word_at (here.own j) (here.lent j) (here.place j));
  bytes = ap (λ (x : Entry). x.bytes) is ∙ (λ j. word_at (here.own j) (here.lent j) (here.place j + 4));
}

-- and the next one
pub goes_on : {file : List ℕ} {i : ℕ} {r next : Reader} → StandsAt file i r → next.file.now ≡ r.file.now → next.order ≡ r.order → next.place ≡ r.place + 8
    → StandsAt file (i + 1) next
goes_on here lent order place = record { lent = lent ∙ here.lent; own = order ∙ here.own; place = omega (arith, here.place) }

-- an entry fits by equal numbers
pub fitting_as : {a b s t a' b' s' t' : ℕ} → a ≡ a' → b ≡ b' → s ≡ s' → t ≡ t' → Fitting a b s t → Fitting a' b' s' t'
fitting_as p q r u f = record { follows = sym p ∙ (f.follows ∙ r); long = subst RightLength q f.long; within = omega arith }

module _ (file : List ℕ) where
  -- where the next body has to start
  pub start_next : (i : ℕ) → start_of file (i + 1) ≡ end_of file i
  unfolding start_of
  start_next i = ap (start_of file) (add-one i)

  pub fits_of : (i : ℕ) → InPlace file i → FitsAt file i
  fits_of i p = record { follows = p.start; long = p.long; within = p.within }

  place_of : (i : ℕ) → (i + 1 ≡ count_of file → end_of file i ≡ total_of file) → FitsAt file i → InPlace file i
  place_of i end f = record { start = f.follows; long = f.long; within = f.within; last = end }

  -- before the last class, an entry that fits is in its place
  pub early : (n : ℕ) → n < count_of file → EveryClass (FitsAt file) n → EveryClass (InPlace file) n
  early n h all i below = place_of i (λ e. absurd (omega arith)) (all i below)

  -- the first entry that does not fit
  pub misplaced : (i : ℕ) → i < count_of file → EveryClass (FitsAt file) i → (FitsAt file i → ⊥) → PlacesJudged file (refused WrongPlace i)
  misplaced i h all bad = broken refl (record { class = h; fault = λ p. bad (fits_of i p); lowest = early i h all })

  -- all fit, and the last ends elsewhere than at the total
  pub wrong_end : (i : ℕ) → i + 1 ≡ count_of file → EveryClass (FitsAt file) (count_of file) → (start_of file (count_of file) ≡ total_of file → ⊥) → PlacesJudged file (refused WrongPlace i)
  wrong_end i e all bad =
      let last : i < count_of file = omega arith in
      broken refl (record {
        class = last;
        fault = λ p. bad (ap (start_of file) (sym e) ∙ (start_next i ∙ p.last e));
        lowest = early i last (λ k h. all k (omega arith));
      })

  -- all fit, and the last ends at the total
  pub all_placed : EveryClass (FitsAt file) (count_of file) → start_of file (count_of file) ≡ total_of file → PlacesJudged file all_right
  all_placed all end = kept (λ i h. place_of i (λ e. sym (start_next i) ∙ (ap (start_of file) e ∙ end)) (all i h)) refl
