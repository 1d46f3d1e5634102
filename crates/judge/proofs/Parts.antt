-- A log in two parts, cut at a record's end.
-- Assumes nothing.
use Prim.Native.Nat.{ℕ, ◌+◌, ◌-◌, ◌*◌}
use native.Mathlib.Omega.{arith}
use mathlib.Core.Path.{◌≡◌, refl, sym, ap, subst}
use mathlib.Core.Bool.{false}
use mathlib.Core.List.{List, [], ◌∷◌, ◌++◌}
use lib.ListN.{length}
use Rattle.rules.specs.Calls.{History}
use Rattle.rules.proofs.Tests.{never}
use Rattle.std.specs.Prelude.{Ok, Err}
use Rattle.judge.specs.Kinds.{Finding, Judgement, accepted}
use Rattle.judge.specs.declared.Flaw.TheVariants.{Malformed, Refused, Another}
use Rattle.judge.specs.Judging.{holds, judgement_at, Judges, ended, right, wrong, short, LogJudged, refused, replayed}
use Rattle.judge.proofs.Replaying.{is_accepted}
use Rattle.judge.specs.Theorems.{CutAccepted, InParts, PartsAccepted, AcceptedParts, PartsJudged, FirstPartJudged}

-- a log with a wrong record is not accepted
pub wrong_named : {A : Type 0} (k : ℕ) (f : Finding) → holds f ≡ false → judgement_at k f ≡ accepted → A
wrong_named k (Ok _) e a = never refl e
wrong_named k (Err Malformed) e a = never refl (sym (ap is_accepted a))
wrong_named k (Err (Refused why)) e a = never refl (sym (ap is_accepted a))
wrong_named k (Err (Another ours)) e a = never refl (sym (ap is_accepted a))

-- the judgement is the second part's where the first is accepted
then_judged : {h between next : History} {k : ℕ} {front rest : List ℕ} {u v : Judgement} (r : ℕ) → length front ≡ 4 * r → u ≡ accepted
    → Judges h k front u between → Judges between (k + r) rest v next → Judges h k (front ++ rest) v next
then_judged {next = next} {k = k} {rest = rest} {v = v} r size a (ended {h = h}) second =
    let same : k + r ≡ k = omega arith in
    subst (λ (i : ℕ). Judges h i rest v next) same second
then_judged {between = b} {next = next} {k = k} {rest = rest} {u = u} {v = v} r size a (right p first) second =
    let same : k + r ≡ k + 1 + (r - 1) = omega arith in
    right p (then_judged {u = u} (r - 1) (omega arith) a first (subst (λ (i : ℕ). Judges b i rest v next) same second))
then_judged {k = k} r size a (wrong f p e) second = wrong_named k f e a
then_judged r size a (short some few) second = never refl (sym (ap is_accepted a))

pub parts_judged : PartsJudged
parts_judged h k r front rest v next size parts = then_judged r size refl parts.first parts.second

pub parts_accepted : PartsAccepted
parts_accepted h k r front rest next size parts = parts_judged h k r front rest accepted next size parts

-- and the first part's where it is not
first_judged : {h next : History} {k : ℕ} {front : List ℕ} {v : Judgement} (r : ℕ) (rest : List ℕ) → length front ≡ 4 * r → (v ≡ accepted → ⊥)
    → Judges h k front v next → Judges h k (front ++ rest) v next
first_judged r rest size n ended = absurd (n refl)
first_judged r rest size n (right p judges) = right p (first_judged (r - 1) rest (omega arith) n judges)
first_judged r rest size n (wrong f p e) = wrong f p e
first_judged r rest size n (short some few) = absurd (omega arith)

pub first_part_judged : FirstPartJudged
first_part_judged h k r front rest v next size n judges = first_judged r rest size n judges

-- an accepted log, in its parts
module _ {next : History} {rest : List ℕ} where
  in_parts : {h : History} {k : ℕ} {v : Judgement} (r : ℕ) (front : List ℕ) → length front ≡ 4 * r → v ≡ accepted → Judges h k (front ++ rest) v next
      → InParts h k r front rest v next
  in_parts {h} {k} {v} r [] size a judges =
      let same : k ≡ k + r = omega arith in
      record { between = h; first = ended; second = subst (λ (i : ℕ). Judges h i rest v next) same judges }
  in_parts r (a ∷ []) size e judges = absurd (omega arith)
  in_parts r (a ∷ b ∷ []) size e judges = absurd (omega arith)
  in_parts r (a ∷ b ∷ c ∷ []) size e judges = absurd (omega arith)
  in_parts {h = h} {k = k} {v = v} r (a ∷ b ∷ c ∷ d ∷ front) size e (right {after = after} p judges) =
      let parts = in_parts {h = after} (r - 1) front (omega arith) e judges in
      let same : k + 1 + (r - 1) ≡ k + r = omega arith in
      record {
        between = parts.between;
        first = right p parts.first;
        second = subst (λ (i : ℕ). Judges parts.between i rest v next) same parts.second;
      }
  in_parts {k = k} r (a ∷ b ∷ c ∷ d ∷ front) size e (wrong f p w) = wrong_named k f w e
  in_parts r (a ∷ b ∷ c ∷ d ∷ front) size e (short some few) = absurd (omega arith)

pub accepted_parts : AcceptedParts
accepted_parts h k r front rest next size judges = in_parts r front size refl judges

pub cut_accepted : CutAccepted
cut_accepted tree first r front rest size judged = cut judged refl
  where
    cut : {v : Judgement} → LogJudged tree first (front ++ rest) v → v ≡ accepted → LogJudged tree first front accepted
    cut (refused s) e = never refl (sym (ap is_accepted e))
    cut (replayed s judges) e = replayed s (in_parts r front size e judges).first
