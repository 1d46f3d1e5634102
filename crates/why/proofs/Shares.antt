-- What the columns of a leaf in which a packet waits say of it, where the fair rule chose; and what the rules' choice says of any leaf.
-- Assumes nothing.
use Rattle.std.specs.Prelude.{Option, Some, None}
use Prim.Native.Nat.{ℕ, ◌<◌}
use mathlib.Core.Path.{◌≡◌, sym, ◌∙◌, subst}
use mathlib.Core.Bool.{true, false}
use mathlib.Core.List.{List}
use native.Mathlib.Omega.{arith}
use Rattle.tree.specs.declared.Tree.{Tree}
use Rattle.tree.specs.Trees.{is_leaf}
use Rattle.rules.specs.declared.Rule.{Rule}
use Rattle.rules.specs.declared.Rule.TheVariants.{RealTime, Fair}
use Rattle.rules.specs.Calls.{Call}
use Rattle.rules.specs.Queues.{waits}
use Rattle.rules.specs.Choice.{Choice, NothingWaits}
use Rattle.rules.proofs.Trees.{leaf_class, child_class, within_top}
use Rattle.rules.proofs.Queues.{waits_leaf}
use Rattle.rules.proofs.Active.{leaf_active, choice_leaf}
use Rattle.state.specs.declared.choice.Sender.{Sender}
use Rattle.state.specs.Table.{at, CLASSES}
use Rattle.state.specs.Columns.{VIRTUAL, ACTIVE}
use Rattle.state.specs.StepsChoosing.{Chosen}
use Rattle.state.proofs.Choosing.{count_most, cell_passive, cell_active}
use Rattle.reason.specs.declared.Reason.TheVariants.{ChosenByShare, PassedOver}
use Rattle.why.specs.Why.{Holds, LastCommon}
use Rattle.why.specs.Steps.{Apart, AskedRealTime, AskedFair, Asked}
use Rattle.why.proofs.Ways.{common_leaves}

module _ {m : List ℕ} {tree : Tree} {cs : List Call} {tick chosen i : ℕ} (a : AskedFair m tree cs tick chosen i) where
  leaf : is_leaf tree i ≡ true
  leaf = waits_leaf tree cs a.told.lawful i a.waiting

  class : i < tree.count
  class = leaf_class tree i leaf

  other : is_leaf tree chosen ≡ true
  other = choice_leaf tree a.told.grown cs tick chosen Fair a.rule

  pub is_share : i ≡ chosen → Holds tree cs tick i ChosenByShare
  is_share e = subst (λ (j : ℕ). Holds tree cs tick j ChosenByShare) (sym e) a.rule

  module _ (apart : i ≡ chosen → ⊥) where
    pub asked_apart : Apart m tree cs i chosen
    asked_apart = record { told = a.told; leaf = leaf; other = other; apart = apart }

    module _ {p k : ℕ} (common : LastCommon tree i chosen p k) where
      pub child_narrow : k < CLASSES
      child_narrow = omega (arith, child_class tree p k common.below, count_most tree a.told.grown)

      pub is_passed_lem : Holds tree cs tick i (PassedOver p k (at m k VIRTUAL))
      is_passed_lem =
          subst (λ (v : ℕ). Holds tree cs tick i (PassedOver p k v)) (sym (a.told.fairs k (child_class tree p k common.below)).virtual)
          (record {
            decides = record { chosen = chosen; rule = a.rule };
            waiting = a.waiting;
            leaves = common_leaves tree a.told.grown cs i chosen other class apart 0 p k common a.rule.goes_down (within_top tree a.told.grown i class);
          })

module _ {m : List ℕ} {tree : Tree} {cs : List Call} {tick : ℕ} {sender : Option Sender} {i : ℕ} (a : Asked m tree cs tick sender i) where
  asked_class : i < tree.count
  asked_class = leaf_class tree i a.leaf

  pub asked_narrow : i < CLASSES
  asked_narrow = omega (arith, asked_class, count_most tree a.told.grown)

  -- a leaf is active while a packet waits in it
  pub is_empty : at m i ACTIVE ≡ 0 → waits cs i ≡ false
  is_empty e = sym (leaf_active tree a.told.grown cs i a.leaf) ∙ cell_passive a.told i asked_class e

  pub is_waiting : (at m i ACTIVE ≡ 0 → ⊥) → waits cs i ≡ true
  is_waiting some = sym (leaf_active tree a.told.grown cs i a.leaf) ∙ cell_active a.told i asked_class some

  -- what the rules chose
  pub none_chosen : sender ≡ None → NothingWaits cs
  none_chosen e = subst (Chosen tree cs tick) e a.chosen

  module _ (j : ℕ) (r : Rule) (e : sender ≡ Some (record { class = j; rule = r })) (waiting : waits cs i ≡ true) where
    chose : Choice tree cs tick j r
    chose = subst (Chosen tree cs tick) e a.chosen

    pub by_real_time : r ≡ RealTime → AskedRealTime m tree cs tick j i
    by_real_time q = record { told = a.told; waiting = waiting; rule = subst (Choice tree cs tick j) q chose }

    pub by_fair : r ≡ Fair → AskedFair m tree cs tick j i
    by_fair q = record { told = a.told; waiting = waiting; rule = subst (Choice tree cs tick j) q chose }
