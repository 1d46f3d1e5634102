-- A line's five numbers in a sheet, and the reason found again from them.
-- Assumes nothing.
use Prim.Native.Nat.{ℕ, zero, suc, ◌+◌, ◌≤◌, ◌<◌}
use mathlib.Core.Path.{◌≡◌, refl, sym, ◌∙◌, ap, subst}
use mathlib.Core.Logic.{◌⊎◌, inl, inr, ⊎_elim}
use mathlib.Core.List.{List, [], ◌∷◌}
use native.Mathlib.Omega.{arith}
use lib.ListN.{length, get_or, set, length-set}
use borrow.Rule.Slice.PartMut.{put_mid}
use Rattle.std.proofs.lemmas.List.Edits.{sets-eq}
use Rattle.std.proofs.lemmas.Slice.{put_mid-paste}
use lib.Seq.{sets, take_all, length-sets, get_or-set_same, get_or-set_other}
use Rattle.reason.specs.declared.Reason.{Reason}
use Rattle.reason.specs.declared.Reason.TheVariants.{NothingWaits, ChosenByDeadline, NoCurve, NotEligible, LaterDeadline, HigherNumber, ChosenByShare, PassedOver}
use Rattle.reason.specs.Reasons.{numbers, line_of, reason_of, ReasonBack}
use Rattle.reason.specs.Lines.{LineAt, PutLine}

-- a copy of a run over a part of the sheet is the run's stores, one after another
copied_run : (old new run : List ℕ) (at n k : ℕ) → new ≡ run → n ≡ k → length run ≡ k → at + k ≤ length old → put_mid at n old new ≡ sets old at run
copied_run old new run at n k e f long room =
    put_mid-paste at n old new run k e (sym f) (sym long)
    ∙ rw (take_all k run (omega arith), ← long) (sym (sets-eq run old at (omega arith)))

-- what a run of stores leaves alone
pub sets_other : (vs old : List ℕ) (at n : ℕ) → (n < at) ⊎ (at + length vs ≤ n) → get_or (sets old at vs) n 0 ≡ get_or old n 0
sets_other [] old at n away = refl
sets_other (v ∷ vs) old at n away =
    sets_other vs (set old at v) (suc at) n (⊎_elim (λ (h : n < at). inl (omega arith)) (λ (h : at + length (v ∷ vs) ≤ n). inr (omega arith)) away)
    ∙ get_or-set_other old at n v 0 (λ (e : n ≡ at). ⊎_elim (λ (h : n < at). omega arith) (λ (h : at + length (v ∷ vs) ≤ n). omega arith) away)

-- and what it stores
pub sets_here : (vs old : List ℕ) (at f : ℕ) → at + length vs ≤ length old → f < length vs → get_or (sets old at vs) (at + f) 0 ≡ get_or vs f 0
sets_here [] old at f room below = absurd (omega arith)
sets_here (v ∷ vs) old at zero room below =
    sets_other vs (set old at v) (suc at) (at + 0) (inl (omega arith)) ∙ ap (λ (n : ℕ). get_or (set old at v) n 0) (omega arith) ∙ get_or-set_same old at v 0 (omega arith)
sets_here (v ∷ vs) old at (suc f) room below =
    ap (λ (n : ℕ). get_or (sets (set old at v) (suc at) vs) n 0) (omega arith) ∙ sets_here vs (set old at v) (suc at) f (omega (arith, length-set old at v)) (omega arith)

line_length : (leaf : ℕ) (r : Reason) → length (line_of leaf r) ≡ numbers
line_length leaf NothingWaits = refl
line_length leaf ChosenByDeadline = refl
line_length leaf NoCurve = refl
line_length leaf (NotEligible until) = refl
line_length leaf (LaterDeadline chosen) = refl
line_length leaf (HigherNumber chosen) = refl
line_length leaf ChosenByShare = refl
line_length leaf (PassedOver class child time) = refl

pub copied_line : (old new : List ℕ) (at n leaf : ℕ) (r : Reason) → new ≡ line_of leaf r → n ≡ numbers → at + numbers ≤ length old
    → PutLine old at leaf r (put_mid at n old new)
copied_line old new at n leaf r e f room = copied_run old new (line_of leaf r) at n numbers e f (line_length leaf r) room

-- a line that was put into a sheet with room for it: the sheet's size, the line, and all else
module _ (old new : List ℕ) (at leaf : ℕ) (r : Reason) (put : PutLine old at leaf r new) where
  pub put_size : length new ≡ length old
  put_size = ap length put ∙ length-sets old at (line_of leaf r)

  pub put_line : at + numbers ≤ length old → LineAt new at leaf r
  put_line room f below =
      ap (λ (l : List ℕ). get_or l (at + f) 0) put
      ∙ sets_here (line_of leaf r) old at f (omega (arith, line_length leaf r)) (omega (arith, line_length leaf r))

  pub put_others : (n : ℕ) → (n < at) ⊎ (at + numbers ≤ n) → get_or new n 0 ≡ get_or old n 0
  put_others n away =
      ap (λ (l : List ℕ). get_or l n 0) put
      ∙ sets_other (line_of leaf r) old at n (subst (λ (k : ℕ). (n < at) ⊎ (at + k ≤ n)) (sym (line_length leaf r)) away)

pub reason_back : ReasonBack
unfolding reason_of
reason_back NothingWaits = refl
reason_back ChosenByDeadline = refl
reason_back NoCurve = refl
reason_back (NotEligible until) = refl
reason_back (LaterDeadline chosen) = refl
reason_back (HigherNumber chosen) = refl
reason_back ChosenByShare = refl
reason_back (PassedOver class child time) = refl
