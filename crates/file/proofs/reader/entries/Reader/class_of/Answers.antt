-- The class of an entry's body, by the two tests of its kind.
-- Assumes nothing.
use Prim.Native.Nat.{ℕ}
use mathlib.Core.Path.{◌≡◌, ◌∙◌, sym, ap}
use mathlib.Core.Bool.{false}
use native.Mathlib.Omega.{arith}
use Rattle.curve.specs.Codec.{kind_curve}
use Rattle.file.specs.Format.{body_bytes, RightKind, right_kind}
use Rattle.file.specs.Steps.{word_from}
use Rattle.file.proofs.ReadLaws.Bodies.{least_length, class_none, class_some}
use Rattle.file.proofs.ReadLaws.KindTable.{wrong_kind, wrong_bytes, kind_right, curve_room}
use Rattle.file.proofs.reader.entries.Reader.class_of.Goals as goal
use Rattle.file.proofs.reader.entries.Reader.class_of.Goals.{After-body_word, in_default-via-in-Ok+else-entry-body_bytes, in_default-via-in_default}

module _ (c : After-body_word) where
  abbrev kind : ℕ
  kind = let a = c.args in word_from a.self.now.order a.self.now.file.now a.entry.offset 2

  kind_is : c.body_word.result ≡ kind
  kind_is = c.body_word.ensures (least_length _ c.requires.long)

pub returns-in_default : goal.returns-in_default
returns-in_default c =
    let read = (goal.at.returns-in_default c).After-body_word in
    let wrong : right_kind (kind read) c.args.entry.bytes ≡ false =
    elim c.in_default.branch [
      | in_default-via-in-Ok+else-entry-body_bytes w ↦
          wrong_bytes _ _ (omega (arith, kind_is read, w.in-Ok.ensures.0))
          (λ e. w.if-entry-body_bytes.false (e ∙ sym (w.body_bytes.ensures ∙ ap body_bytes (kind_is read))))
      | in_default-via-in_default w ↦ wrong_kind _ _ (omega (arith, kind_is read, w.in_default.ensures))
    ] in
    c.no_class.ensures ∙ sym (class_none _ _ _ _ wrong)

pub returns-in-Ok : goal.returns-in-Ok
returns-in-Ok c =
    let read = (goal.at.returns-in-Ok c).After-body_word in
    let file = c.args.self.now.file.now in
    let order = c.args.self.now.order in
    let entry = c.args.entry in
    let k : RightKind (kind read) entry.bytes =
    record { known = omega (arith, kind_is read, c.in-Ok.ensures.0); long = c.if-entry-body_bytes.true ∙ c.body_bytes.ensures ∙ ap body_bytes (kind_is read) } in
    let least = least_length _ c.requires.long in
    let curve =
    c.in-Ok.ensures.1
    ∙ ap (λ (n : ℕ). kind_curve n c.body_word-2.result c.body_word-3.result c.body_word-4.result) (kind_is read)
    ∙ curve_room (kind read) _ _ _ (word_from order file entry.offset 3) (word_from order file entry.offset 4) (word_from order file entry.offset 5)
    (λ room. c.body_word-2.ensures (omega (arith, k.long)))
    (λ room. c.body_word-3.ensures (omega (arith, k.long)))
    (λ room. c.body_word-4.ensures (omega (arith, k.long))) in
    let parent = c.body_word-in-Ok.ensures (omega (arith, least)) in
    let share = c.body_word-in-Ok-2.ensures (omega (arith, least)) in
    (λ i. record { parent = parent i; share = share i; curve = curve i }) ∙ sym (class_some _ _ _ _ (kind_right _ _ k))
