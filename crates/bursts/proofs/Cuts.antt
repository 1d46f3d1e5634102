-- However a file is cut into bursts, what is told at its end is what the whole file reads as; and nothing changes it after that.
-- Assumes nothing.
use Prim.Native.Nat.{ℕ}
use mathlib.Core.Path.{◌≡◌, refl, ◌∙◌, sym, ap, subst, subst⁻¹}
use mathlib.Core.Bool.{Bool, true, false, cond}
use mathlib.Core.List.{List, [], ◌∷◌, ◌++◌, append-nil, append_assoc}
use lib.Seq.{take-nil}
use Rattle.file.specs.Fronts.{most_file_bytes}
use Rattle.bursts.specs.declared.Seen.{Seen}
use Rattle.bursts.specs.declared.Taken.{Taken}
use Rattle.bursts.specs.Bursts.{Holds, Begun, Read, Offered, ended, Ended}
use Rattle.bursts.specs.Theorems.{Comes, Came, together, CutReads, CutsAgree, OfferedAfter, EndedAfter}
use Rattle.bursts.proofs.One.{read_same, offered_one, ended_one}
use Rattle.bursts.proofs.Offers.{offered_late}

-- before the first byte the memory holds the file of no bytes
pub begun_holds : (seen : Seen) (kept : List ℕ) → Begun seen kept → Holds kept seen.count []
begun_holds seen kept b = record { first = sym (take-nil most_file_bytes); counted = rw b.count refl }

-- a burst more
pub still_open : (kept : List ℕ) (seen : Seen) (burst : List ℕ) (told : Taken) (new : List ℕ) → seen.ended ≡ false → Offered kept seen burst told new → told.seen.ended ≡ false
still_open kept seen burst told new e o = ap (λ (s : Seen). s.ended) o.notes ∙ rw e refl

pub longer : (kept : List ℕ) (seen : Seen) (burst : List ℕ) (told : Taken) (new file : List ℕ) → seen.ended ≡ false → Offered kept seen burst told new
    → Holds kept seen.count file → Holds new told.seen.count (file ++ burst)
longer kept seen burst told new file e o h = subst (λ (b : Bool). Holds new told.seen.count (cond b file (file ++ burst))) e (o.holds file h)

comes_read : (bursts : List (List ℕ)) (told : Taken) (kept : List ℕ) (seen : Seen) (file : List ℕ) → seen.ended ≡ false → Holds kept seen.count file
    → Comes bursts told kept seen → Read (file ++ together bursts) told.answer
comes_read [] told kept seen file e h end = rw (append-nil file) (end.answers file h)
comes_read (burst ∷ bursts) told kept seen file e h next =
    rw (sym (append_assoc file burst (together bursts)))
    (comes_read bursts told next.new next.told.seen (file ++ burst)
    (still_open kept seen burst next.told next.new e next.offered)
    (longer kept seen burst next.told next.new file e next.offered h) next.rest)

came_read : (bursts : List (List ℕ)) (told : Taken) → Came bursts told → Read (together bursts) told.answer
came_read bursts told came = comes_read bursts told came.kept came.seen [] came.begun.ended (begun_holds came.seen came.kept came.begun) came.comes

pub cut_reads : CutReads
cut_reads bursts told r came reads =
    record { answer = read_same (together bursts) _ _ (came_read bursts told came) (record { reading = r; told = refl; reads = reads }) }

pub cuts_agree : CutsAgree
cuts_agree one other a b same p q =
    record { answer = read_same (together one) _ _ (came_read one a p) (subst⁻¹ (λ (f : List ℕ). Read f b.answer) same (came_read other b q)) }

-- the end, told again, is told of the same
again : (kept : List ℕ) (seen : Seen) (told : Taken) → Ended kept seen told → Ended kept told.seen told
again kept seen told e = record {
  notes = e.notes ∙ ap ended (sym e.notes);
  answers = λ file h. e.answers file (subst (λ (s : Seen). Holds kept s.count file) e.notes h);
}

pub ended_after : EndedAfter
ended_after kept seen told later room e f = ended_one kept told.seen room later told f (again kept seen told e)

pub offered_after : OfferedAfter
offered_after kept seen told burst later new room e o =
    let over : told.seen.ended ≡ true = ap (λ (s : Seen). s.ended) e.notes in
    offered_one kept told.seen room burst later told new kept o (offered_late kept told.seen burst told over (again kept seen told e))
