-- Each function's promise allows one result: what it hands back, and what is kept then.
-- Assumes nothing.
use Prim.Native.Nat.{ℕ, ◌≤◌, ◌<◌}
use mathlib.Core.Path.{◌≡◌, ◌∙◌, sym, ap}
use mathlib.Core.Bool.{Bool, true, false}
use mathlib.Core.List.{List}
use mathlib.Core.Logic.{inr, ⊎_elim}
use native.Mathlib.Omega.{arith}
use lib.ListN.{length, take}
use lib.Seq.{take_all, length-take-le}
use Rattle.curve.proofs.Laws.Order.{le_or_lt}
use Rattle.std.specs.Prelude.{Some}
use Rattle.file.specs.Fronts.{most_file_bytes}
use Rattle.file.proofs.ReadLaws.Fronts.{front_some}
use Rattle.file.proofs.ReadOne.{read_one}
use Rattle.bursts.specs.declared.Seen.{Seen}
use Rattle.bursts.specs.declared.Taken.{Taken}
use Rattle.bursts.specs.Bursts.{Answered, Begun, Read, Answers, Offered, Ended}
use Rattle.bursts.specs.Theorems.{HoldsSome, AlwaysHolds}

-- whatever stands in the memory, it holds a file: the kept bytes, as many as were counted, or one of which they are the front
pub holds_some : AlwaysHolds
holds_some kept count room = ⊎_elim many few (le_or_lt most_file_bytes count)
  where
    few : count < most_file_bytes → HoldsSome kept count
    few less =
        let long : length (take count kept) ≡ count = length-take-le count kept (omega arith) in
        record {
          file = take count kept;
          holds = record {
            first = ap (λ (n : ℕ). take n kept) long ∙ sym (take_all most_file_bytes (take count kept) (omega arith));
            counted = omega arith;
          };
        }

    many : most_file_bytes ≤ count → HoldsSome kept count
    many more =
        let some = front_some kept count (inr (omega arith, omega arith)) in
        let front = some.front in
        record {
          file = some.file;
          holds = record {
            first = take_all (length some.file) kept (omega (arith, front.counted)) ∙ (front.first ∙ ap (λ (n : ℕ). take n some.file) room);
            counted = front.counted;
          };
        }

-- one answer
pub read_same : (file : List ℕ) (a b : Answered) → Read file a → Read file b → a ≡ b
read_same file a b p q = p.told ∙ (ap Some (read_one file p.reading q.reading p.reads q.reads) ∙ sym q.told)

answers_same : (ended : Bool) (file : List ℕ) (a b : Answered) → Answers ended file a → Answers ended file b → a ≡ b
answers_same true file a b p q = read_same file a b p q
answers_same false file a b p q = p.told ∙ sym q.told

told_same : (a b : Taken) → a.seen ≡ b.seen → a.answer ≡ b.answer → a ≡ b
told_same a b seen answer = λ i. record { seen = seen i; answer = answer i }

pub begun_one : (seen seen' : Seen) (kept kept' : List ℕ) → Begun seen kept → Begun seen' kept' → (seen ≡ seen') × (kept ≡ kept')
begun_one seen seen' kept kept' p q =
    let count = p.count ∙ sym q.count in
    let ended = p.ended ∙ sym q.ended in
    (λ i. record { count = count i; ended = ended i }, p.none ∙ sym q.none)

module _ (kept : List ℕ) (seen : Seen) (room : length kept ≡ most_file_bytes) where
  pub offered_one : (burst : List ℕ) (told told' : Taken) (new new' : List ℕ) → Offered kept seen burst told new → Offered kept seen burst told' new' → (told ≡ told') × (new ≡ new')
  offered_one burst told told' new new' p q =
      let some = holds_some kept seen.count room in
      let same = answers_same seen.ended some.file _ _ (p.answers some.file some.holds) (q.answers some.file some.holds) in
      (told_same told told' (p.notes ∙ sym q.notes) same, p.keeps ∙ sym q.keeps)

  pub ended_one : (told told' : Taken) → Ended kept seen told → Ended kept seen told' → told ≡ told'
  ended_one told told' p q =
      let some = holds_some kept seen.count room in
      told_same told told' (p.notes ∙ sym q.notes) (read_same some.file _ _ (p.answers some.file some.holds) (q.answers some.file some.holds))
