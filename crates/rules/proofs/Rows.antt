-- Every row of document 01's table that is marked P holds of the definitions: the one statement.
-- Assumes nothing.
use Rattle.std.proofs.Common.{ℕ, ◌<◌, [], ◌∷◌, get_or, refl, arith}
use Rattle.curve.specs.Curves.{amount, RightRate, RightCurve}
use Rattle.curve.specs.declared.Curve.TheVariants.{Straight, FrontLoaded}
use Rattle.curve.specs.Pieces.{standing}
use Rattle.curve.specs.Fit.{sum_of, CurvesFit}
use Rattle.curve.proofs.Laws.Limits.{straight_right, front_right}
use Rattle.tree.specs.Trees.{class_at, is_child, child_below, has_child, is_leaf}
use Rattle.rules.specs.Limits.{weigh}
use Rattle.rules.specs.Clock.{clock}
use Rattle.rules.specs.Queues.{queue, accepted_in}
use Rattle.rules.specs.Leaves.{sent_real_time_in, pieces}
use Rattle.rules.specs.Over.{any_of, largest_of, smallest_of}
use Rattle.rules.specs.Classes.{is_met, sent_in, active}
use Rattle.rules.specs.Fair.{rounded_up, virtual_time, is_other, mark_by_children, fair_pieces}
use Rattle.rules.specs.Checks.{outcome}
use Rattle.rules.specs.Rows.{Row, situation, rows, EveryRow}
use Rattle.rules.proofs.Link.Told.{every, lawful}
use Rattle.rules.proofs.Examples.{they_fit, they_dont, row_told}

-- what stands past the end of the table
abbrev no_row : Row
no_row = situation [] []

-- a row, and then the rest of the table
then : {A B : Type 0} → A → B → A × B
then row rest = (row, rest)

-- the rates of the rows' curves are within the limits
straight : {m : ℕ} → RightRate m → RightCurve (Straight m)
straight rate = straight_right _ rate

front : {m : ℕ} → RightRate m → 1 < m → RightCurve (FrontLoaded m 1 1)
front rate falls = front_right _ _ _ (record { first = rate; bend = omega arith; last = omega arith; falls = falls })

-- A row of a situation is told with the deadline of the packet that leaves next, and with those of the packets that left, the newest first.
pub rows_hold : EveryRow rows
unfolding lawful every class_at is_child child_below has_child is_leaf clock queue accepted_in weigh sent_real_time_in pieces standing amount any_of largest_of smallest_of is_met sent_in active rounded_up virtual_time is_other mark_by_children fair_pieces outcome sum_of CurvesFit
rows_hold =
    then (row_told 0 [] (get_or rows 0 no_row) refl)
    (then (row_told 0 [] (get_or rows 1 no_row) refl)
    (then (row_told 0 (4040 ∷ 1040 ∷ []) (get_or rows 2 no_row) refl)
    (then (row_told 0 (4040 ∷ 1040 ∷ []) (get_or rows 3 no_row) refl)
    (then (row_told 0 (4040 ∷ 1040 ∷ []) (get_or rows 4 no_row) refl)
    (then (row_told 0 (4040 ∷ []) (get_or rows 5 no_row) refl)
    (then (row_told 2160 (1040 ∷ []) (get_or rows 6 no_row) refl)
    (then (row_told 0 (4040 ∷ 1040 ∷ []) (get_or rows 7 no_row) refl)
    (then (they_fit _ _ (straight (omega arith)) (straight (omega arith)) (λ t. omega arith))
    (then (they_dont _ _ (straight (omega arith)) (straight (omega arith)) (λ f. omega (arith, f 1)))
    (then (they_fit _ _ (front (omega arith) (omega arith)) (straight (omega arith)) (λ t. omega arith))
    (then (they_dont _ _ (front (omega arith) (omega arith)) (straight (omega arith)) (λ f. omega (arith, f 1)))
    tt)))))))))))
