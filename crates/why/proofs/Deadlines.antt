-- What the columns of a leaf in which a packet waits say of it, where the real-time rule chose.
-- Assumes nothing.
use Prim.Native.Nat.{ℕ, ◌≤◌, ◌<◌}
use mathlib.Core.Path.{◌≡◌, sym, ◌∙◌, subst}
use mathlib.Core.Bool.{true}
use mathlib.Core.List.{List}
use native.Mathlib.Omega.{arith}
use native.Mathlib.Nat.{le_antisymm}
use Rattle.curve.proofs.Laws.Answers.{least_one}
use Rattle.tree.specs.declared.Tree.{Tree}
use Rattle.tree.specs.Trees.{curve_of, is_leaf}
use Rattle.rules.specs.Calls.{Call}
use Rattle.rules.specs.Queues.{waits}
use Rattle.rules.specs.Choice.{has_curve, Contends}
use Rattle.rules.proofs.Tests.{and_both}
use Rattle.rules.proofs.Trees.{leaf_class}
use Rattle.rules.proofs.Queues.{waits_leaf}
use Rattle.state.specs.Table.{at, CLASSES}
use Rattle.state.specs.Columns.{KIND, ELIGIBLE, DEADLINE}
use Rattle.state.specs.State.{has_times}
use Rattle.state.proofs.Choosing.{count_most}
use Rattle.state.proofs.LeafCells.{kind_none, kind_some}
use Rattle.reason.specs.declared.Reason.TheVariants.{ChosenByDeadline, NoCurve, NotEligible, LaterDeadline, HigherNumber}
use Rattle.why.specs.Why.{Holds, RealTimeDecides}
use Rattle.why.specs.Steps.{AskedRealTime}

module _ {m : List ℕ} {tree : Tree} {cs : List Call} {tick chosen i : ℕ} (a : AskedRealTime m tree cs tick chosen i) where
  leaf : is_leaf tree i ≡ true
  leaf = waits_leaf tree cs a.told.lawful i a.waiting

  class : i < tree.count
  class = leaf_class tree i leaf

  chosen_class : chosen < tree.count
  chosen_class = leaf_class tree chosen a.rule.first.meant.leaf

  pub asked_narrow : i < CLASSES
  asked_narrow = omega (arith, class, count_most tree a.told.grown)

  pub chosen_narrow : chosen < CLASSES
  chosen_narrow = omega (arith, chosen_class, count_most tree a.told.grown)

  decides : RealTimeDecides tree cs tick
  decides = record { chosen = chosen; rule = a.rule }

  pub is_chosen : i ≡ chosen → Holds tree cs tick i ChosenByDeadline
  is_chosen e = subst (λ (j : ℕ). Holds tree cs tick j ChosenByDeadline) (sym e) a.rule

  pub is_bare : at m i KIND ≡ 0 → Holds tree cs tick i NoCurve
  is_bare e = record { decides = decides; waiting = a.waiting; curveless = kind_none (curve_of tree i) (sym (a.told.trees i class).kind ∙ e) }

  module _ (some : at m i KIND ≡ 0 → ⊥) where
    curved : has_curve (curve_of tree i) ≡ true
    curved = kind_some (curve_of tree i) (λ e. some ((a.told.trees i class).kind ∙ e))

    timed : has_times tree cs i ≡ true
    timed = and_both (waits cs i) _ a.waiting curved

    pub is_early : tick < at m i ELIGIBLE → Holds tree cs tick i (NotEligible (at m i ELIGIBLE))
    is_early later =
        record { decides = decides; waiting = a.waiting; curved = curved; is_eligible = (a.told.leaves i class).eligible timed; later = later }

    module _ (ripe : at m i ELIGIBLE ≤ tick) where
      contends : Contends tree cs tick i (at m i DEADLINE)
      contends =
          record {
            leaf = leaf;
            waiting = a.waiting;
            curved = curved;
            eligible = at m i ELIGIBLE;
            is_eligible = (a.told.leaves i class).eligible timed;
            ripe = ripe;
            is_deadline = (a.told.leaves i class).deadline timed;
          }

      -- the column of the chosen leaf has the smallest deadline
      smallest : at m chosen DEADLINE ≡ a.rule.deadline
      smallest =
          let meant = a.rule.first.meant in
          least_one ((a.told.leaves chosen chosen_class).deadline (and_both (waits cs chosen) _ meant.waiting meant.curved)) meant.is_deadline

      pub is_later : at m chosen DEADLINE < at m i DEADLINE → Holds tree cs tick i (LaterDeadline chosen)
      is_later later =
          record { smallest = a.rule.deadline; first = a.rule.first; deadline = at m i DEADLINE; contends = contends; later = omega (arith, smallest) }

      pub is_higher : (i ≡ chosen → ⊥) → at m i DEADLINE ≤ at m chosen DEADLINE → Holds tree cs tick i (HigherNumber chosen)
      is_higher apart equal =
          let first = a.rule.first in
          let same : at m i DEADLINE ≡ a.rule.deadline = le_antisymm (omega (arith, smallest)) (first.smallest i (at m i DEADLINE) contends) in
          let here = subst (Contends tree cs tick i) same contends in
          record { deadline = a.rule.deadline; first = first; contends = here; higher = omega (arith, first.lowest i here, apart) }
