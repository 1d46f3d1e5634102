-- A leaf and its reason are found again from the words of their line.
-- Assumes nothing.
use Prim.Native.Nat.{ℕ}
use mathlib.Core.Path.{◌≡◌, refl}
use mathlib.Core.Bool.{Bool, cond}
use mathlib.Core.List.{List, ◌∷◌}
use lib.Dec.{eqb}
use lib.ListN.{get_or}
use Rattle.wording.specs.Letters.{b, c, d, h, l, n, w}
use Rattle.print.proofs.Back.{word, number, read_colon, read_back, read_colon_lem}
use Rattle.reason.specs.declared.Reason.{Reason}
use Rattle.reason.specs.declared.Reason.TheVariants.{NothingWaits, ChosenByDeadline, NoCurve, NotEligible, LaterDeadline, HigherNumber, ChosenByShare, PassedOver}
use Rattle.printwhy.specs.Spelled.{leaf_word}
use Rattle.printwhy.specs.Lines.{behind_leaf}

-- whether the word of a place starts with a letter
abbrev starts : List (List ℕ) → ℕ → ℕ → Bool
starts words i letter = eqb (get_or (word words i) 0 0) letter

-- the leaf: the number before the colon
pub leaf_in : List (List ℕ) → ℕ
leaf_in words = read_colon (word words 1)

pub leaf_back : (leaf : ℕ) (reason : Reason) → leaf_in (leaf_word ∷ behind_leaf leaf reason) ≡ leaf
unfolding leaf_in
leaf_back leaf reason = read_colon_lem leaf

-- the reason, by its first word, and where two have the same by a later one
pub reason_in : List (List ℕ) → Reason
reason_in words =
    cond (starts words 2 n) (cond (starts words 3 w) NothingWaits (NotEligible (number words 5)))
    (cond (starts words 2 c) (cond (starts words 4 d) ChosenByDeadline ChosenByShare)
    (cond (starts words 2 h) NoCurve
    (cond (starts words 2 b) (cond (starts words 7 l) (LaterDeadline (number words 4)) (HigherNumber (number words 4)))
    (PassedOver (number words 6) (number words 9) (number words 13)))))

pub reason_back : (leaf : ℕ) (reason : Reason) → reason_in (leaf_word ∷ behind_leaf leaf reason) ≡ reason
unfolding reason_in
reason_back leaf NothingWaits = refl
reason_back leaf ChosenByDeadline = refl
reason_back leaf NoCurve = refl
reason_back leaf (NotEligible until) = simp read_back
reason_back leaf (LaterDeadline chosen) = simp read_back
reason_back leaf (HigherNumber chosen) = simp read_back
reason_back leaf ChosenByShare = refl
reason_back leaf (PassedOver class child time) = simp read_back
