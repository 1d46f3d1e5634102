-- The text of a right tree is read as that tree.
-- Assumes nothing.
use Prim.Native.Nat.{ℕ, zero, suc, ◌+◌, ◌≤◌, ◌<◌, min}
use native.Mathlib.Omega.{arith}
use mathlib.Core.Path.{◌≡◌, refl, sym, ap, subst, ◌∙◌}
use mathlib.Core.Bool.{Bool, true, false}
use mathlib.Core.List.{List, [], ◌∷◌, ◌++◌, append_assoc}
use lib.Dec.{eqb}
use lib.ListN.{length, length-append, length-set, length-replicate}
use lib.Seq.{take-append_seam, drop-append-add, get_or-set_same, get_or-set_other}
use borrow.Author.Tests.{eq-eqb, eqb-true, eqb-false, le-ltb}
use Rattle.wording.specs.Letters.{line_feed}
use Rattle.wording.specs.Words.{is_inner, span, uncommented, begun, first, after, same}
use Rattle.wording.proofs.Plain.{every, span_every}
use Rattle.curve.specs.Curves.{RightCurve}
use Rattle.curve.specs.declared.Curve.{Curve}
use Rattle.curve.specs.declared.Curve.TheVariants.{None, Straight, FrontLoaded, Delayed}
use Rattle.tree.specs.declared.Class.{Class}
use Rattle.tree.specs.declared.Tree.{Tree}
use Rattle.tree.specs.Trees.{most_classes, no_class, class_at, empty_tree}
use Rattle.tree.specs.Rules.{RightClass}
use Rattle.print.specs.declared.Answer.TheVariants as answer
use Rattle.print.specs.Lines.{further, line_of, class_lines, tree_text}
use Rattle.std.specs.declared.option.Option.TheVariants as option
use Rattle.treetext.specs.declared.Draft.{Draft}
use Rattle.treetext.specs.Entries.{head_in, entry_in, entry_of}
use Rattle.treetext.specs.Texts.{lines_of, blank_draft, opened, grown, is_done, with_line, with_lines, tree_in}
use Rattle.treetext.specs.Theorems.{NarrowCurve, NarrowClass, TextSays}
use Rattle.treetext.proofs.TextLines.{lines_some}
use Rattle.treetext.proofs.ClassLine.{class_line, line_inner, line_ended, line_says}

-- a line with no end within is the first
line_first : (line rest : List ℕ) → every is_inner line ≡ true → lines_of (line ++ (line_feed ∷ rest)) ≡ line ∷ lines_of rest
unfolding span
line_first line rest h =
    let long : span is_inner (line ++ (line_feed ∷ rest)) ≡ length line = span_every is_inner line (line_feed ∷ rest) h ∙ omega arith in
    let one : suc (length line) ≡ length line + 1 = omega arith in
    lines_some (line ++ (line_feed ∷ rest)) (omega (arith, length-append line (line_feed ∷ rest)))
    ∙ rw (long, one, take-append_seam line (line_feed ∷ rest), drop-append-add line (line_feed ∷ rest) 1)

-- the numbers of a right tree have 32 bits
narrow_curve : (curve : Curve) → RightCurve curve → NarrowCurve curve
unfolding RightCurve
narrow_curve None h = tt
narrow_curve (Straight rate) h = omega arith
narrow_curve (FrontLoaded rate bend last) h = (omega (arith, h.first.below), (omega (arith, h.bend.below), omega (arith, h.last.below)))
narrow_curve (Delayed bend rate) h = (omega (arith, h.bend.below), omega (arith, h.rate.below))

narrow_class : (class : Class) (i : ℕ) → i < most_classes → RightClass class i → NarrowClass i class
unfolding RightClass
narrow_class class zero small h = record {
  own = omega arith;
  parent = omega (arith, h.parent);
  share = omega (arith, h.share);
  curve = subst NarrowCurve (sym h.curve) tt;
}
narrow_class class (suc i) small h = record {
  own = omega arith;
  parent = omega (arith, h.parent);
  share = omega (arith, h.share.below);
  curve = narrow_curve class.curve h.curve;
}

-- a draft that has the classes of t below i, and no wrong line
record Going (t : Tree) (i : ℕ) (d : Draft) : Type 0 where
  going_headed : d.headed ≡ true
  going_fault : d.fault ≡ option.None
  going_count : d.tree.count ≡ i
  going_room : length d.tree.classes ≡ most_classes
  going_classes : (j : ℕ) → j < i → class_at d.tree j ≡ class_at t j

module _ (t : Tree) (i : ℕ) (d : Draft) (small : i < most_classes) (going : Going t i d) where
  -- it is taken on by the line of class i
  line_grows : NarrowClass i (class_at t i) → with_line d (class_line i (class_at t i)) ≡ grown d (class_at t i)
  unfolding with_line is_done
  line_grows narrow =
      let few : d.tree.count ≤ most_classes = omega (arith, going.going_count) in
      rw (
        going.going_fault,
        le-ltb most_classes d.tree.count few,
        line_says i (class_at t i) narrow,
        going.going_headed,
        eq-eqb i d.tree.count (sym going.going_count),
      )

  -- and has that class then
  class_grown : (j : ℕ) → j < suc i → class_at (grown d (class_at t i)).tree j ≡ class_at t j
  unfolding class_at
  class_grown j h = by (eqb j i) refl
    where
      by : (u : Bool) → eqb j i ≡ u → class_at (grown d (class_at t i)).tree j ≡ class_at t j
      by true e =
          let same : j ≡ i = eqb-true j i e in
          rw (same, going.going_count) (get_or-set_same d.tree.classes i (class_at t i) no_class (omega (arith, going.going_room)))
      by false e =
          rw going.going_count (get_or-set_other d.tree.classes i j (class_at t i) no_class (eqb-false j i e)) ∙ going.going_classes j (omega (arith, eqb-false j i e))

  grown_going : Going t (suc i) (grown d (class_at t i))
  grown_going = record {
    going_headed = refl;
    going_fault = refl;
    going_count = omega (arith, going.going_count);
    going_room = length-set d.tree.classes d.tree.count (class_at t i) ∙ going.going_room;
    going_classes = class_grown;
  }

-- the lines of n classes from class i on, up to class m
lines_say : (t : Tree) (n i m : ℕ) (d : Draft) → i + n ≡ m → m ≤ most_classes → ((j : ℕ) → j < m → NarrowClass j (class_at t j)) → Going t i d
    → Going t m (with_lines d (lines_of (class_lines t i n)))
unfolding class_lines with_lines lines_of
lines_say t zero i m d e h narrow going = subst (λ k. Going t k d) (omega arith) going
lines_say t (suc n) i m d e h narrow going =
    let class = class_at t i in
    let line : lines_of (line_of (answer.ClassOf i class) ++ class_lines t (suc i) n) ≡ class_line i class ∷ lines_of (class_lines t (suc i) n) =
    ap (λ s. lines_of (s ++ class_lines t (suc i) n)) (line_ended i class)
    ∙ ap lines_of (append_assoc (class_line i class) (line_feed ∷ []) (class_lines t (suc i) n))
    ∙ line_first (class_line i class) (class_lines t (suc i) n) (line_inner i class) in
    let took : with_lines d (lines_of (class_lines t i (suc n))) ≡ with_lines (grown d class) (lines_of (class_lines t (suc i) n)) =
    ap (with_lines d) line ∙ ap (λ g. with_lines g (lines_of (class_lines t (suc i) n))) (line_grows t i d (omega arith) going (narrow i (omega arith))) in
    subst (Going t m) (sym took)
    (lines_say t n (suc i) m (grown d class) (omega arith) h narrow (grown_going t i d (omega arith) going))

-- the line `tree`
head_says : (rest : List ℕ) → tree_in (line_of answer.TreeHead ++ rest) ≡ with_lines (opened blank_draft) (lines_of rest)
unfolding empty_tree tree_in line_of further lines_of with_lines with_line is_done entry_of entry_in head_in uncommented begun first after span same
head_says rest = refl

head_going : (t : Tree) → Going t 0 (opened blank_draft)
unfolding empty_tree
head_going t = record {
  going_headed = refl;
  going_fault = refl;
  going_count = refl;
  going_room = length-replicate most_classes no_class;
  going_classes = λ j h. absurd (omega arith);
}

pub text_says : TextSays
unfolding tree_text
text_says t right =
    let few = right.shape.count.below in
    let count : min t.count most_classes ≡ t.count = omega arith in
    let all = lines_say t (min t.count most_classes) 0 t.count (opened blank_draft) (omega arith) few
    (λ j h. narrow_class (class_at t j) j (omega arith) (right.shape.bodies j h)) (head_going t) in
    rw (head_says (class_lines t 0 (min t.count most_classes)))
    (record { fault = all.going_fault; tree = record { counts = all.going_count; classes = λ j h. all.going_classes j (omega (arith, all.going_count)) } })
