-- Document 02, 1, for hosts in C: a class-tree file that comes in bursts. The host lends the bytes that are kept, and two numbers for what was seen.
-- Assumes nothing.
use Rattle.std.specs.Prelude.{ℕ, ◌≡◌, not, cond, List, [], ◌∷◌, Some, None, eqb, length, get_or}
use Rattle.tree.specs.declared.Tree.{Tree}
use Rattle.tree.specs.Verdicts.{Verdict, all_right}
use Rattle.file.specs.Format.{ReadsAs, verdict_in}
use Rattle.file.specs.Fronts.{most_file_bytes}
use Rattle.bursts.specs.declared.Seen.{Seen}
use Rattle.bursts.specs.declared.Taken.{Taken}
use Rattle.bursts.specs.Bursts.{Holds, Answered, Begun, Offered, Ended}
use Rattle.bursts.specs.Theorems.{together}
use Rattle.host.specs.Numbers.{verdict_number, verdict_class}
use Rattle.host.specs.Promises.{StartFileTold}

-- "a count of bytes seen .. and a note that the end was told": what two numbers say was seen. Any number but 0 says that the end was told.
abbrev pub seen_said : List ℕ → Seen
seen_said numbers = record { count = get_or numbers 0 0; ended = not (eqb (get_or numbers 1 0) 0) }

-- and the numbers that are written for it
abbrev pub seen_numbers : Seen → List ℕ
seen_numbers seen = seen.count ∷ cond seen.ended 1 0 ∷ []

-- an answer is told as the verdict that it has; nothing yet, as nothing refused
abbrev pub answer_verdict : Answered → Verdict
answer_verdict None = all_right
answer_verdict (Some reading) = verdict_in reading

abbrev pub told_number : Taken → ℕ
told_number told = verdict_number (answer_verdict told.answer)

abbrev pub told_class : Taken → ℕ
told_class told = verdict_class (answer_verdict told.answer)

-- of the beginning: what the call leaves in the lent memory
pub record BeginTold (kept numbers : List ℕ) : Type 0 where
  pub seen : Seen
  pub noted : numbers ≡ seen_numbers seen
  pub begun : Begun seen kept

-- of a burst: `kept` and `numbers` are the lent memory before it, `new` and `noted` after it; `said` is what the call answers
pub record OfferTold (kept numbers burst : List ℕ) (said : ℕ) (new noted : List ℕ) : Type 0 where
  pub told : Taken
  pub number : said ≡ told_number told
  pub notes : noted ≡ seen_numbers told.seen
  pub offered : Offered kept (seen_said numbers) burst told new

-- the end was told and noted; what is kept was only looked at
pub record EndNoted (kept numbers : List ℕ) (told : Taken) (noted : List ℕ) : Type 0 where
  pub ends : Ended kept (seen_said numbers) told
  pub notes : noted ≡ seen_numbers told.seen

-- of the end: `said` is what the call answers, `fault` what it writes beside `noted`
pub record EndTold (kept numbers : List ℕ) (said fault : ℕ) (noted : List ℕ) : Type 0 where
  pub told : Taken
  pub number : said ≡ told_number told
  pub class : fault ≡ told_class told
  pub end : EndNoted kept numbers told noted

-- of a start: the end is told, and all else is what a start with the whole file promises, for every file that the memory holds
pub record StartBurstsTold (kept numbers : List ℕ) (stamp said fault : ℕ) (noted m l : List ℕ) : Type 0 where
  pub end : EndTold kept numbers said fault noted
  pub starts : (file : List ℕ) → Holds kept (seen_said numbers).count file → StartFileTold file stamp said fault m l

-- one burst after another, up to this content of the lent memory
pub record NextTold (kept numbers burst : List ℕ) (Rest : List ℕ → List ℕ → Type 0) : Type 0 where
  pub said : ℕ
  pub new : List ℕ
  pub noted : List ℕ
  pub told : OfferTold kept numbers burst said new noted
  pub rest : Rest new noted

abbrev pub ComesTold : List (List ℕ) → List ℕ → List ℕ → List ℕ → List ℕ → Type 0
ComesTold [] kept numbers new noted = (kept ≡ new) × (numbers ≡ noted)
ComesTold (burst ∷ bursts) kept numbers new noted = NextTold kept numbers burst (λ k n. ComesTold bursts k n new noted)

-- from the beginning on these bursts were offered
pub record CameTold (bursts : List (List ℕ)) (new noted : List ℕ) : Type 0 where
  pub kept : List ℕ
  pub numbers : List ℕ
  pub began : BeginTold kept numbers
  pub comes : ComesTold bursts kept numbers new noted

-- "the one the whole-file reader of 01 gives, however the bytes were cut": `cut_ends`
abbrev pub CutEnds : Type 0
CutEnds =
    (bursts : List (List ℕ)) (kept numbers : List ℕ) (said fault : ℕ) (noted : List ℕ) → CameTold bursts kept numbers → EndTold kept numbers said fault noted
    → (verdict : Verdict) (tree : Tree) → ReadsAs (together bursts) verdict tree → (said ≡ verdict_number verdict) × (fault ≡ verdict_class verdict)

-- and a start then promises what a start with the whole file does: `cut_starts`
abbrev pub CutStarts : Type 0
CutStarts =
    (bursts : List (List ℕ)) (kept numbers : List ℕ) (stamp said fault : ℕ) (noted m l : List ℕ) → CameTold bursts kept numbers
    → StartBurstsTold kept numbers stamp said fault noted m l → StartFileTold (together bursts) stamp said fault m l

-- "Bytes offered after the end was told change nothing and are answered with the same result", also where a start has told it (`end` of `StartBurstsTold`):
-- `offer_told_after`
abbrev pub OfferToldAfter : Type 0
OfferToldAfter =
    (kept numbers : List ℕ) (said fault : ℕ) (noted burst : List ℕ) (again : ℕ) (new after : List ℕ) → length kept ≡ most_file_bytes
    → EndTold kept numbers said fault noted → OfferTold kept noted burst again new after → (again ≡ said) × (new ≡ kept) × (after ≡ noted)

-- the end, told again, changes nothing and has the same answer: `end_told_after`
abbrev pub EndToldAfter : Type 0
EndToldAfter =
    (kept numbers : List ℕ) (said fault : ℕ) (noted : List ℕ) (again fault' : ℕ) (after : List ℕ) → length kept ≡ most_file_bytes
    → EndTold kept numbers said fault noted → EndTold kept noted again fault' after → (again ≡ said) × (fault' ≡ fault) × (after ≡ noted)

-- a start after the end was told is the start that would have told it: `start_told_after`
abbrev pub StartToldAfter : Type 0
StartToldAfter =
    (kept numbers : List ℕ) (said fault : ℕ) (noted : List ℕ) (stamp again fault' : ℕ) (after m l : List ℕ)
    → length kept ≡ most_file_bytes → EndTold kept numbers said fault noted → StartBurstsTold kept noted stamp again fault' after m l
    → (again ≡ said) × (fault' ≡ fault) × (after ≡ noted) × StartBurstsTold kept numbers stamp said fault noted m l
