-- A file by its first bytes and its length: the verdicts on the bytes at hand are those on the file, and a file that goes on past them, its bodies in their
-- places, is refused with 7 at the root.
-- Assumes nothing.
use Prim.Native.Nat.{ℕ, zero, suc, ◌+◌, ◌-◌, ◌*◌, ◌≤◌, ◌<◌}
use mathlib.Core.Path.{◌≡◌, refl, ◌∙◌, sym, ap, subst}
use mathlib.Core.List.{List, ◌++◌}
use mathlib.Core.Logic.{inl, inr, ⊎_elim}
use native.Mathlib.Omega.{arith}
use lib.ListN.{length, replicate, length-append, length-replicate}
use lib.Seq.{take_all, take-length, take-append_seam, get_or-take}
use Rattle.curve.specs.Curves.{Within}
use Rattle.curve.proofs.Laws.Order.{le_or_lt}
use Rattle.tree.specs.Rules.{RightClass, LowestFault, broken, kept}
use Rattle.tree.specs.Trees.{most_classes}
use Rattle.tree.specs.declared.Refusal.TheVariants.{WrongBody}
use Rattle.tree.specs.Verdicts.{Verdict, all_right, refused}
use Rattle.file.specs.Format.{byte_at, header_bytes, count_of, total_of, entry_at, length_of, end_of, start_of, body_class, SoundBody, HeaderChecks, BodyChecks}
use Rattle.file.specs.Fronts.{most_file_bytes, most_seen, Counts, AtHand, Front, FrontSome}
use Rattle.file.specs.Steps.{Passed, HeaderJudged, HeaderCounted, PlacesJudged, AllPlaced}
use Rattle.file.proofs.ReadLaws.KindTable.{most_bytes_lem, none_bytes}
use Rattle.file.proofs.ReadLaws.Prefix.{Agree, header_prefix, places_prefix}

-- what is given of as many bytes as the longest right file has is at hand
pub hand_long : (bytes : List ℕ) (given n : ℕ) → AtHand bytes given → n ≤ given → n ≤ most_file_bytes → n ≤ length bytes
hand_long bytes given n (inl e) h most = omega arith
hand_long bytes given n (inr l) h most = omega (arith, l.0)

-- a whole file is at hand, and its own front
pub whole_front : (file : List ℕ) → Front file (length file) file
whole_front file = record { first = sym (take-length file); enough = inl refl; counted = refl }

-- whatever is at hand, there is a file of which it is: zeros after it make one
pub front_some : (bytes : List ℕ) (given : ℕ) → AtHand bytes given → FrontSome bytes given
front_some bytes given (inl e) = record { file = bytes; front = record { first = sym (take-length bytes); enough = inl refl; counted = rw e refl } }
front_some bytes given (inr l) =
    let rest : List ℕ = replicate (given - length bytes) 0 in
    let long : length (bytes ++ rest) ≡ given = omega (arith, l.1, length-append bytes rest, length-replicate {A = ℕ} (given - length bytes) 0) in
    record {
      file = bytes ++ rest;
      front = record { first = sym (take-append_seam bytes rest); enough = inr l.0; counted = rw long refl };
    }

module _ (bytes : List ℕ) (given : ℕ) (passed : HeaderCounted bytes given all_right) where
  stated_in : (long : ℕ) → HeaderJudged bytes long all_right → total_of bytes ≡ long
  unfolding HeaderChecks
  stated_in long (kept a (kept b (kept c (kept d (kept e p))))) = e.total

  -- a header that has passed its checks states the length, so that the count of it has not stopped
  pub stated : (long : ℕ) → Counts given long → total_of bytes ≡ long
  stated long n = stated_in long (passed long n)

  pub given_less : given < most_seen
  given_less = ⊎_elim (λ l. absurd (omega (arith, stated given refl, stated (given + 1) (omega arith)))) (λ l. l) (le_or_lt most_seen given)

module _ (bytes : List ℕ) (given : ℕ) (file : List ℕ) (front : Front bytes given file) where
  -- the bytes at hand are the file's
  agrees : (n : ℕ) → n ≤ length bytes → Agree n bytes file
  agrees n h at below = ap (λ (l : List ℕ). byte_at l at) front.first ∙ get_or-take (length bytes) file at 0 (omega arith)

  -- the verdict on the header is the file's
  pub header_front : (v : Verdict) → HeaderCounted bytes given v → HeaderJudged file (length file) v
  header_front v judged =
      ⊎_elim
      (λ l. header_prefix bytes file (agrees header_bytes l) (length file) Passed v (judged (length file) front.counted))
      (λ l. ⊎_elim
      (λ e. subst (λ (f : List ℕ). HeaderJudged f (length file) v) e (judged (length file) front.counted))
      (λ many. absurd (omega arith))
      front.enough)
      (le_or_lt header_bytes (length bytes))

  -- and so is that on the bodies' places
  pub places_front : Within 2 most_classes (count_of bytes) → (v : Verdict) → PlacesJudged bytes v → PlacesJudged file v
  places_front few v judged =
      ⊎_elim
      (λ l. places_prefix bytes file (agrees (entry_at most_classes) l) few.below v judged)
      (λ l. ⊎_elim (λ e. subst (λ (f : List ℕ). PlacesJudged f v) e judged) (λ many. absurd (omega arith)) front.enough)
      (le_or_lt (entry_at most_classes) (length bytes))

  -- the number given is the file's length
  pub length_front : HeaderCounted bytes given all_right → given ≡ length file
  length_front passed = omega (arith, given_less bytes given passed, front.counted)

  -- where all that is given is at hand, it is the file
  pub whole_at_hand : HeaderCounted bytes given all_right → given ≤ length bytes → bytes ≡ file
  whole_at_hand passed all =
      front.first ∙ take_all (length bytes) file (omega (arith, length_front passed, front.counted))

-- the bodies' places, where that of the root has nothing after its kind
module _ (file : List ℕ) (placed : AllPlaced file) (root : length_of file 0 ≡ 12) where
  end_within : (i : ℕ) → i < count_of file → end_of file i ≤ entry_at (count_of file) + (12 + 24 * i)
  unfolding start_of
  end_within zero h = omega (arith, root, (placed zero h).start)
  end_within (suc i) h =
      let p = placed (suc i) h in
      omega (arith, p.start, end_within i (omega arith), p.long.right.long, most_bytes_lem p.long.kind)

  total_within : (n : ℕ) → n + 1 ≡ count_of file → Within 2 most_classes (count_of file) → total_of file ≤ most_file_bytes
  total_within n e few = omega (arith, few.below, end_within n (omega arith), (placed n (omega arith)).last e)

root_length : (file : List ℕ) → SoundBody file 0 → length_of file 0 ≡ 12
unfolding RightClass body_class
root_length file s = s.kind.long ∙ none_bytes _ _ _ _ s.kind.known s.class.curve

-- a file longer than any right file, its bodies in their places, has a fault at the root
pub root_fault : (file : List ℕ) → Within 2 most_classes (count_of file) → AllPlaced file → most_file_bytes < total_of file → LowestFault (SoundBody file) (count_of file) 0
root_fault file few placed long = record {
  class = omega (arith, few.above);
  fault = λ sound. omega (arith, few.above, total_within file placed (root_length file sound) (count_of file - 1) (omega (arith, few.above)) few);
  lowest = λ i h. absurd (omega arith);
}

-- and so 7 is its refusal
pub too_long : (file : List ℕ) → Within 2 most_classes (count_of file) → AllPlaced file → most_file_bytes < total_of file → BodyChecks file Passed (refused WrongBody 0)
unfolding BodyChecks
too_long file few placed long = kept placed (broken refl (root_fault file few placed long))
