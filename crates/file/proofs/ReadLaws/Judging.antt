-- The verdict on a file, put together: the header's checks, check 6, and the rules of the tree that the bodies say.
-- Assumes nothing.
use Prim.Native.Nat.{ℕ, zero, suc, ◌≤◌, ◌<◌}
use mathlib.Core.Path.{◌≡◌, refl, ◌∙◌, ap, subst, subst⁻¹}
use mathlib.Core.Bool.{Bool, true, false, cond}
use mathlib.Core.List.{List, [], ◌∷◌}
use mathlib.Core.Logic.{⊎_elim}
use native.Mathlib.Omega.{arith}
use lib.ListN.{length, get_or, get_or-append}
use lib.Seq.{get_or_at}
use Rattle.curve.proofs.Laws.Order.{le_or_lt}
use Rattle.curve.specs.Curves.{Within}
use Rattle.tree.proofs.Rule.{SameBelow, rule_map, every_map, lowest_map}
use Rattle.tree.specs.Rules.{RightClass, Checking, broken, kept, RightTree, ShapeChecked, Judged}
use Rattle.tree.specs.Rules as tree-rules
use Rattle.tree.specs.Trees.{no_class, empty_tree, class_at}
use Rattle.tree.specs.declared.Class.{Class}
use Rattle.tree.specs.declared.Refusal.{Refusal}
use Rattle.tree.specs.Verdicts.{Verdict, all_right, refused}
use Rattle.file.specs.Format.{header_bytes, order_of, count_of, length_of, kind_of, right_kind, body_class, file_class, first_classes, tree_of, SoundBody, HeaderChecks, BodyChecks, FileJudged, ReadsAs}
use Rattle.file.specs.Steps.{Opened, Passed, HeaderJudged, PlacesJudged, AllPlaced}
use Rattle.file.specs.declared.Order.{Order}
use Rattle.file.proofs.ReadLaws.Bodies.{first_length}
use Rattle.file.proofs.ReadLaws.KindTable.{kind_right, right_kind_lem}

-- the same check with something else after it
pub rule_next : {number : ℕ} {K : Type 0} {B : ℕ → Type 0} {N N' : Verdict → Type 0} {v : Verdict} → (N v → N' v) → Checking number K B N v → Checking number K B N' v
rule_next n r = rule_map (λ x. x) (λ i x. x) (λ k. n) r

refused_right : {why : Refusal} {i : ℕ} → refused why i ≡ all_right → ⊥
refused_right e = let z : ◌≡◌ {A = ℕ} 0 1 = cc in omega arith

-- no class is right: its share is 0
nothing_wrong : (i : ℕ) → RightClass no_class i → ⊥
unfolding RightClass
nothing_wrong zero r = omega (arith, r.share)
nothing_wrong (suc i) r = omega (arith, r.share.above)

module _ (file : List ℕ) where
  first_at : (n i : ℕ) → i < n → get_or (first_classes file n) i no_class ≡ file_class file i
  unfolding first_classes
  first_at zero i h = absurd (omega arith)
  first_at (suc n) i h =
      ⊎_elim
      (λ l. get_or_at (first_classes file n) (file_class file n) [] no_class i (omega (arith, first_length file n)) ∙ ap (file_class file) (omega arith))
      (λ l. get_or-append (first_classes file n) (file_class file n ∷ []) no_class i (omega (arith, first_length file n)) ∙ first_at n i l)
      (le_or_lt n i)

  -- class i of the file's tree
  pub class_at_lem : (i : ℕ) → i < count_of file → class_at (tree_of file) i ≡ file_class file i
  unfolding class_at tree_of
  class_at_lem i h = get_or-append (first_classes file (count_of file)) _ no_class i (omega (arith, first_length file (count_of file))) ∙ first_at (count_of file) i h

  -- a class of the tree is right exactly where its body is sound
  sound_if : (i : ℕ) (b : Bool) → right_kind (kind_of file i) (length_of file i) ≡ b → RightClass (cond b (body_class file i) no_class) i → SoundBody file i
  sound_if i true e r = record { kind = right_kind_lem _ _ e; class = r }
  sound_if i false e r = absurd (nothing_wrong i r)

  sound : (i : ℕ) → RightClass (file_class file i) i → SoundBody file i
  unfolding file_class
  sound i r = sound_if i (right_kind (kind_of file i) (length_of file i)) refl r

  right_body : (i : ℕ) → SoundBody file i → RightClass (file_class file i) i
  unfolding file_class
  right_body i s = rw (kind_right (kind_of file i) (length_of file i) s.kind) s.class

  pub body_sound : (i : ℕ) → i < count_of file → tree-rules.RightBody (tree_of file) i → SoundBody file i
  body_sound i h r = sound i (subst (λ (c : Class). RightClass c i) (class_at_lem i h) r)

  pub sound_body : (i : ℕ) → i < count_of file → SoundBody file i → tree-rules.RightBody (tree_of file) i
  sound_body i h s = subst⁻¹ (λ (c : Class). RightClass c i) (class_at_lem i h) (right_body i s)

  bodies_same : SameBelow (tree-rules.RightBody (tree_of file)) (SoundBody file) (count_of file)
  bodies_same = record { to = body_sound; from = sound_body }

  -- the checks of the tree, as checks of the file
  pub bodies_judged : (v : Verdict) → Within 2 64 (count_of file) → AllPlaced file → Judged (tree_of file) v → BodyChecks file Passed v
  unfolding ShapeChecked BodyChecks tree_of
  bodies_judged v within placed (broken e b) = absurd (b.fault within)
  bodies_judged v within placed (kept k rest) = kept placed (rule_map (every_map refl bodies_same) (lowest_map refl bodies_same) (λ every n. n) rest)

  -- the header's checks are passed, and the rest decides
  pub header_passed : (given : ℕ) (Next : Verdict → Type 0) (v : Verdict) → HeaderJudged file given all_right → Next v → HeaderChecks file given Next v
  unfolding HeaderChecks
  header_passed given Next v (kept a (kept b (kept c (kept d (kept e p))))) n = kept a (kept b (kept c (kept d (kept e n))))

  -- what a header that has passed says
  pub header_long : (given : ℕ) → HeaderJudged file given all_right → header_bytes ≤ given
  unfolding HeaderChecks
  header_long given (kept a rest) = a

  pub header_opened : (given : ℕ) {order : Order} {count : ℕ} → HeaderJudged file given all_right → order ≡ order_of file → count ≡ count_of file → Opened file given order count
  unfolding HeaderChecks
  header_opened given (kept a (kept b (kept c (kept d (kept e p))))) own counted = record {
    own = own;
    counted = counted;
    within = subst⁻¹ (Within 2 64) counted d;
    right = e;
  }

  -- the header is refused
  pub header_refused : (given : ℕ) (Next : Verdict → Type 0) (why : Refusal) (i : ℕ) → HeaderJudged file given (refused why i) → HeaderChecks file given Next (refused why i)
  unfolding HeaderChecks
  header_refused given Next why i =
      rule_next (rule_next (rule_next (rule_next (rule_next (λ p. absurd (refused_right p))))))

  -- check 6 is passed
  pub all_placed : PlacesJudged file all_right → AllPlaced file
  all_placed (kept every p) = every

  -- check 6 is not passed
  pub places_refused : (why : Refusal) (i : ℕ) → PlacesJudged file (refused why i) → BodyChecks file Passed (refused why i)
  unfolding BodyChecks
  places_refused why i = rule_next (λ p. absurd (refused_right p))

  -- a refusal, with the tree of no classes
  pub reads_refused : {why : Refusal} {i : ℕ} → FileJudged file (length file) (refused why i) → ReadsAs file (refused why i) empty_tree
  reads_refused judged = record { judged = judged; given = refl }

  -- the tree of a file that is not refused is right
  pub file_right : (given : ℕ) → FileJudged file given all_right → RightTree (tree_of file)
  unfolding HeaderChecks BodyChecks tree_of
  file_right given (kept a (kept b (kept c (kept count (kept e (kept placed (kept sound (kept depths (kept places (kept fit p)))))))))) = record {
    shape = record { count = count; bodies = λ i h. sound_body i h (sound i h); depths = depths; places = places };
    fit = fit;
  }
