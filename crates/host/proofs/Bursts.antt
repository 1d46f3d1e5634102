-- A start with what came in bursts is a start with every file that the memory holds; however a file is cut, the calls answer what they answer of the
-- whole; and after its end was told nothing changes that.
-- Assumes nothing.
use Prim.Native.Nat.{ℕ}
use mathlib.Core.Path.{◌≡◌, refl, ◌∙◌, sym, ap, subst, subst⁻¹}
use mathlib.Core.Bool.{Bool, true, false, cond}
use mathlib.Core.List.{List, [], ◌∷◌, ◌++◌, append-nil, append_assoc}
use Rattle.std.specs.Option.{IsSome}
use Rattle.std.specs.Prelude.{Some}
use Rattle.std.proofs.lemmas.Option.{MatchOption-at_some}
use lib.ListN.{length}
use Rattle.file.specs.Format.{ReadsAs, verdict_in, tree_in}
use Rattle.file.specs.Fronts.{most_file_bytes}
use Rattle.file.proofs.ReadOne.{reads_one}
use Rattle.bursts.specs.declared.Seen.{Seen}
use Rattle.bursts.specs.declared.Taken.{Taken}
use Rattle.bursts.specs.Bursts.{Holds, Reading, Answered, Read, Offered, ended, Ended}
use Rattle.bursts.specs.Theorems.{together}
use Rattle.bursts.proofs.One.{holds_some}
use Rattle.bursts.proofs.Cuts.{begun_holds, still_open, longer, offered_after, ended_after}
use Rattle.host.specs.Numbers.{verdict_number, verdict_class}
use Rattle.host.specs.Promises.{StartFileTold}
use Rattle.host.specs.Bursts.{seen_said, seen_numbers, answer_verdict, told_number, told_class, BeginTold, OfferTold, EndNoted, EndTold, StartBurstsTold, ComesTold, CameTold, CutEnds, CutStarts, OfferToldAfter, EndToldAfter, StartToldAfter}
use Rattle.host.proofs.One.{alike, seen_told}

-- what is promised of what was seen is promised of what the numbers say
module _ {seen said : Seen} {kept : List ℕ} {told : Taken} (same : seen ≡ said) where
  pub offered_said : {burst new : List ℕ} → Offered kept seen burst told new → Offered kept said burst told new
  offered_said {burst = burst} {new = new} = subst (λ (s : Seen). Offered kept s burst told new) same

  pub ended_said : Ended kept seen told → Ended kept said told
  ended_said = subst (λ (s : Seen). Ended kept s told) same

-- what is told of the end is what the whole file reads as
told_reads : (file : List ℕ) (reading : Reading) (answer : Answered) → answer ≡ Some reading → Read file answer → ReadsAs file (verdict_in reading) (tree_in reading)
told_reads file reading answer is read =
    MatchOption-at_some ⊥ (λ r. ReadsAs file (verdict_in r) (tree_in r)) reading is (rw read.told read.reads)

-- where the end was told there is an answer, since whatever stands in the memory, it holds a file
pub end_answered : (kept : List ℕ) (seen : Seen) (told : Taken) → length kept ≡ most_file_bytes → Ended kept seen told → IsSome told.answer
end_answered kept seen told room ends =
    let some = holds_some kept seen.count room in
    rw (ends.answers some.file some.holds).told refl

-- the start, from what its steps do
module _ (kept numbers : List ℕ) (stamp said fault : ℕ) (noted m l : List ℕ) (told : Taken) (reading : Reading) where
  pub start_told : EndNoted kept numbers told noted → told.answer ≡ Some reading → said ≡ verdict_number (verdict_in reading) → fault ≡ verdict_class (verdict_in reading)
      → ((file : List ℕ) → ReadsAs file (verdict_in reading) (tree_in reading) → StartFileTold file stamp said fault m l) → StartBurstsTold kept numbers stamp said fault noted m l
  start_told end is number class starts =
      record {
        end = record {
          told = told;
          number = number ∙ sym (ap (λ a. verdict_number (answer_verdict a)) is);
          class = class ∙ sym (ap (λ a. verdict_class (answer_verdict a)) is);
          end = end;
        };
        starts = λ file holds. starts file (told_reads file reading told.answer is (end.ends.answers file holds));
      }

-- what is written for what was seen says the same again
said_again : (seen : Seen) → seen_said (seen_numbers seen) ≡ seen
said_again seen = λ i. record { count = seen.count; ended = flag seen.ended i }
  where
    flag : (b : Bool) → (seen_said (0 ∷ cond b 1 0 ∷ [])).ended ≡ b
    flag true = refl
    flag false = refl

seen_again : (numbers : List ℕ) (seen : Seen) → numbers ≡ seen_numbers seen → seen_said numbers ≡ seen
seen_again numbers seen e = ap seen_said e ∙ said_again seen

-- the memory and the numbers hold this file, whose end was not told
pub record Open (kept numbers file : List ℕ) : Type 0 where
  pub holds : Holds kept (seen_said numbers).count file
  pub untold : (seen_said numbers).ended ≡ false

-- and so does what was seen
open_of : (kept numbers file : List ℕ) (seen : Seen) → numbers ≡ seen_numbers seen → Holds kept seen.count file → seen.ended ≡ false → Open kept numbers file
open_of kept numbers file seen e holds none =
    let same = seen_again numbers seen e in
    record { holds = subst⁻¹ (λ (s : Seen). Holds kept s.count file) same holds; untold = ap (λ (s : Seen). s.ended) same ∙ none }

begin_open : (kept numbers : List ℕ) → BeginTold kept numbers → Open kept numbers []
begin_open kept numbers b =
    open_of kept numbers [] b.seen b.noted (begun_holds b.seen kept b.begun) b.begun.ended

offer_open : (kept numbers burst : List ℕ) (said : ℕ) (new noted file : List ℕ) → Open kept numbers file → OfferTold kept numbers burst said new noted → Open new noted (file ++ burst)
offer_open kept numbers burst said new noted file o t =
    let seen = t.told.seen in
    open_of new noted (file ++ burst) seen t.notes
    (longer kept (seen_said numbers) burst t.told new file o.untold t.offered o.holds)
    (still_open kept (seen_said numbers) burst t.told new o.untold t.offered)

comes_open : (bursts : List (List ℕ)) (kept numbers new noted file : List ℕ) → Open kept numbers file → ComesTold bursts kept numbers new noted → Open new noted (file ++ together bursts)
comes_open [] kept numbers new noted file o same =
    rw (append-nil file) (subst (λ k. Open k noted file) same.0 (subst (λ n. Open kept n file) same.1 o))
comes_open (burst ∷ bursts) kept numbers new noted file o next =
    let step = offer_open kept numbers burst next.said next.new next.noted file o next.told in
    rw (sym (append_assoc file burst (together bursts))) (comes_open bursts next.new next.noted new noted (file ++ burst) step next.rest)

came_open : (bursts : List (List ℕ)) (kept numbers : List ℕ) → CameTold bursts kept numbers → Open kept numbers (together bursts)
came_open bursts kept numbers came =
    comes_open bursts came.kept came.numbers kept numbers [] (begin_open came.kept came.numbers came.began) came.comes

pub cut_starts : CutStarts
cut_starts bursts kept numbers stamp said fault noted m l came told = told.starts (together bursts) (came_open bursts kept numbers came).holds

pub cut_ends : CutEnds
cut_ends bursts kept numbers said fault noted came told verdict tree reads =
    let read = told.end.ends.answers (together bursts) (came_open bursts kept numbers came).holds in
    let one = reads_one (together bursts) (verdict_in read.reading) verdict (tree_in read.reading) tree read.reads reads in
    let same : answer_verdict told.told.answer ≡ verdict = ap answer_verdict read.told ∙ one.0 in
    (told.number ∙ ap verdict_number same, told.class ∙ ap verdict_class same)

-- after the end was told, the numbers say so
noted_says : (kept numbers : List ℕ) (said fault : ℕ) (noted : List ℕ) → (told : EndTold kept numbers said fault noted) → seen_said noted ≡ told.told.seen
noted_says kept numbers said fault noted told = seen_again noted told.told.seen told.end.notes

pub offer_told_after : OfferToldAfter
offer_told_after kept numbers said fault noted burst again new after room told late =
    let offered = offered_said (noted_says kept numbers said fault noted told) late.offered in
    let same = offered_after kept (seen_said numbers) told.told burst late.told new room told.end.ends offered in
    (alike told_number same.0 late.number told.number, same.1, alike seen_told same.0 late.notes told.end.notes)

pub end_told_after : EndToldAfter
end_told_after kept numbers said fault noted again fault' after room told late =
    let ends = ended_said (noted_says kept numbers said fault noted told) late.end.ends in
    let same = ended_after kept (seen_said numbers) told.told late.told room told.end.ends ends in
    (alike told_number same late.number told.number, alike told_class same late.class told.class, alike seen_told same late.end.notes told.end.notes)

pub start_told_after : StartToldAfter
start_told_after kept numbers said fault noted stamp again fault' after m l room told start =
    let same : seen_said noted ≡ ended (seen_said numbers) = noted_says kept numbers said fault noted told ∙ told.end.ends.notes in
    let both = end_told_after kept numbers said fault noted again fault' after room told start.end in
    let begun : (file : List ℕ) → Holds kept (seen_said numbers).count file → StartFileTold file stamp said fault m l =
    λ file holds.
    subst (λ (n : ℕ). StartFileTold file stamp n fault m l) both.0
    (subst (λ (n : ℕ). StartFileTold file stamp again n m l) both.1
    (start.starts file (subst⁻¹ (λ (s : Seen). Holds kept s.count file) same holds))) in
    (both.0, both.1, both.2, record { end = told; starts = begun })
