-- Request 5, "Tell the studio why its packet waited": the reasons by their number and values, and a line of the sheet.
-- Assumes nothing.
use Rattle.std.specs.Prelude.{ℕ, ◌≡◌, cond, List, [], ◌∷◌, eqb, get_or}
use Rattle.reason.specs.declared.Reason.{Reason}
use Rattle.reason.specs.declared.Reason.TheVariants.{NothingWaits, ChosenByDeadline, NoCurve, NotEligible, LaterDeadline, HigherNumber, ChosenByShare, PassedOver}

-- "If an answer is an enum, a definition gives this paper's number and values for each case." Request 5 gives the reasons no numbers: these are ours, in its order.
abbrev pub number_of : Reason → ℕ
number_of NothingWaits = 0
number_of ChosenByDeadline = 1
number_of NoCurve = 2
number_of (NotEligible until) = 3
number_of (LaterDeadline chosen) = 4
number_of (HigherNumber chosen) = 5
number_of ChosenByShare = 6
number_of (PassedOver class child time) = 7

-- up to three values, 0 where there is nothing to say
abbrev pub values_of : Reason → List ℕ
values_of NothingWaits = 0 ∷ 0 ∷ 0 ∷ []
values_of ChosenByDeadline = 0 ∷ 0 ∷ 0 ∷ []
values_of NoCurve = 0 ∷ 0 ∷ 0 ∷ []
values_of (NotEligible until) = until ∷ 0 ∷ 0 ∷ []
values_of (LaterDeadline chosen) = chosen ∷ 0 ∷ 0 ∷ []
values_of (HigherNumber chosen) = chosen ∷ 0 ∷ 0 ∷ []
values_of ChosenByShare = 0 ∷ 0 ∷ 0 ∷ []
values_of (PassedOver class child time) = class ∷ child ∷ time ∷ []

-- a line of the sheet is five numbers: the leaf, the reason, and the values
abbrev pub numbers : ℕ
numbers = 5

abbrev pub line_of : (leaf : ℕ) → Reason → List ℕ
line_of leaf reason = leaf ∷ number_of reason ∷ values_of reason

-- the reason that a number and values say; a number that no reason has says that nothing waits
unfoldable pub reason_of : (number first second third : ℕ) → Reason
reason_of number first second third =
    cond (eqb number 1) ChosenByDeadline
    (cond (eqb number 2) NoCurve
    (cond (eqb number 3) (NotEligible first)
    (cond (eqb number 4) (LaterDeadline first)
    (cond (eqb number 5) (HigherNumber first)
    (cond (eqb number 6) ChosenByShare
    (cond (eqb number 7) (PassedOver first second third) NothingWaits))))))

-- what a line says is found again: `reason_back`
abbrev pub ReasonBack : Type 0
ReasonBack = (r : Reason) → reason_of (number_of r) (get_or (values_of r) 0 0) (get_or (values_of r) 1 0) (get_or (values_of r) 2 0) ≡ r
