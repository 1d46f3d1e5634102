-- The runs: their premises are computed, and the late packet's run bounds the guarantee's number from below.
-- Assumes nothing.
use Rattle.std.proofs.Common.{◌≡◌, ℕ, zero, suc, ◌+◌, ◌<◌, ◌≤◌, true, List, [], ◌∷◌, drop, refl, ⊎_elim, arith}
use Rattle.curve.specs.Curves.{amount}
use Rattle.curve.specs.Pieces.{standing}
use Rattle.curve.specs.Fit.{sum_of}
use Rattle.curve.proofs.Laws.Order.{le_or_lt}
use Rattle.curve.proofs.Laws.Limits.{none_right, straight_right}
use Rattle.curve.proofs.Laws.Fit.{fit_each}
use Rattle.tree.specs.declared.Tree.{Tree}
use Rattle.tree.specs.Trees.{class_at, curve_of, is_child, child_below, has_child, is_leaf}
use Rattle.rules.specs.declared.Rule.{Rule}
use Rattle.rules.specs.Limits.{weigh}
use Rattle.rules.specs.Calls.{Call, came, left, idle}
use Rattle.rules.specs.Clock.{clock}
use Rattle.rules.specs.Queues.{queue, waits, head_length, head_number, accepted_in}
use Rattle.rules.specs.Leaves.{sent_real_time_in, sent_real_time, pieces}
use Rattle.rules.specs.Over.{any_of, largest_of, smallest_of}
use Rattle.rules.specs.Classes.{is_met, sent_in, active}
use Rattle.rules.specs.Fair.{rounded_up, virtual_time, is_other, mark_by_children, fair_pieces}
use Rattle.rules.specs.Choice.{has_curve}
use Rattle.rules.specs.Checks.{outcome}
use Rattle.rules.specs.Lawful.{LawfulCalls, Grown, right}
use Rattle.rules.specs.Rows.{tree_a}
use Rattle.rules.proofs.Examples.{two_right, grown_A}
use Rattle.rules.proofs.Made.{lawful_made}
use Rattle.rules.specs.Link.{heaviest, free, Link}
use Rattle.rules.specs.Guarantee.{Moment, now, after, Head, LeftBy}
use Rattle.rules.specs.Runs.{Premises, run_a, history_a, late_tree, late_run, late_history, Attained, RunsShow, Sharp}
use Rattle.rules.proofs.Link.Told.{every, head_due, least_at, deadline_told, lawful, lawful_told, keeps, keeps_told}
use Rattle.rules.proofs.Link.Guarantee.{guarantee}

lawful_A : LawfulCalls tree_a run_a
unfolding lawful every class_at is_child child_below has_child is_leaf clock queue accepted_in weigh sent_real_time_in pieces standing amount any_of largest_of smallest_of is_met sent_in active rounded_up virtual_time is_other mark_by_children fair_pieces outcome
lawful_A = lawful_told tree_a grown_A (8680 ∷ 6320 ∷ 4240 ∷ 6080 ∷ 2160 ∷ 4040 ∷ 1040 ∷ []) run_a refl

link_A : Link 0 run_a
unfolding keeps clock queue any_of free weigh
link_A = record { soon = omega arith; kept = keeps_told tree_a 0 run_a lawful_A refl }

-- the moment n calls ago
ago : (n : ℕ) (cs : List Call) → Moment (drop n cs) cs
ago zero cs = now
ago (suc n) [] = now
ago (suc n) (c ∷ cs) = after (ago n cs)

-- a head on closed numbers: its deadline is told by a test
head_told : (tree : Tree) (cs : List Call) (j deadline : ℕ) → has_curve (curve_of tree j) ≡ true → waits cs j ≡ true
    → least_at (head_due tree cs j) deadline ≡ true → Head tree cs j (head_number cs j) (head_length cs j) deadline
head_told tree cs j deadline curved waiting e =
    record {
      curved = curved;
      waiting = waiting;
      is_number = refl;
      is_length = refl;
      is_deadline = deadline_told (curve_of tree j) (pieces cs j) (sent_real_time cs j + weigh (head_length cs j)) deadline e;
    }

premises_A : (n j number length deadline : ℕ) → Head tree_a (drop n run_a) j number length deadline → deadline + heaviest ≤ clock run_a
    → Premises history_a j number length deadline
premises_A n j number length deadline head reached =
    record {
      lawful = record { grown = grown_A; stamp = omega arith; lawful = lawful_A };
      link = link_A;
      past = drop n run_a;
      moment = ago n run_a;
      head = head;
      clock_reaches = reached;
    }

first_A : Premises history_a 1 0 500 1040
unfolding every class_at queue clock weigh sent_real_time_in pieces head_number standing amount
first_A = premises_A 10 1 0 500 1040 (head_told tree_a (drop 10 run_a) 1 1040 refl refl refl) (omega arith)

second_A : Premises history_a 2 0 1000 4040
unfolding every class_at queue clock weigh sent_real_time_in pieces head_number standing amount
second_A = premises_A 9 2 0 1000 4040 (head_told tree_a (drop 9 run_a) 2 4040 refl refl refl) (omega arith)

last_A : Premises history_a 2 3 700 8680
unfolding every class_at queue clock weigh sent_real_time_in pieces head_number standing amount
last_A = premises_A 2 2 3 700 8680 (head_told tree_a (drop 2 run_a) 2 8680 refl refl refl) (omega arith)

late_grown : Grown late_tree
unfolding sum_of amount
late_grown = right (two_right _ _ _ _ (omega arith) none_right (omega arith) (straight_right _ (omega arith)) (fit_each _ (λ t. omega arith)))

late_lawful : LawfulCalls late_tree late_run
unfolding lawful every class_at is_child child_below has_child is_leaf clock queue accepted_in weigh sent_real_time_in pieces standing amount any_of largest_of smallest_of is_met sent_in active rounded_up virtual_time is_other mark_by_children fair_pieces outcome
late_lawful = lawful_told late_tree late_grown (weigh 1500 ∷ []) late_run refl

late_link : Link 0 late_run
unfolding keeps clock queue any_of free weigh
late_link = record { soon = omega arith; kept = keeps_told late_tree 0 late_run late_lawful refl }

late_head : Head late_tree (drop 2 late_run) 2 0 1500 (weigh 1500)
unfolding every class_at queue clock weigh sent_real_time_in pieces head_number standing amount
late_head = head_told late_tree (drop 2 late_run) 2 (weigh 1500) refl refl refl

late_premises : Premises late_history 2 0 1500 (weigh 1500)
unfolding clock weigh
late_premises =
    record {
      lawful = record { grown = late_grown; stamp = omega arith; lawful = late_lawful };
      link = late_link;
      past = drop 2 late_run;
      moment = ago 2 late_run;
      head = late_head;
      clock_reaches = omega arith;
    }

-- what holds of every departure of a run holds of each
EveryDeparture : (ℕ → ℕ → Type 0) → List Call → Type 0
EveryDeparture Q [] = Unit {0}
EveryDeparture Q (came at j n ∷ cs) = EveryDeparture Q cs
EveryDeparture Q (left at j rule ∷ cs) = Q at j × EveryDeparture Q cs
EveryDeparture Q (idle at ∷ cs) = EveryDeparture Q cs

departures_before : (Q : ℕ → ℕ → Type 0) (c : Call) (cs : List Call) → EveryDeparture Q (c ∷ cs) → EveryDeparture Q cs
unfolding EveryDeparture
departures_before Q (came at j n) cs h = h
departures_before Q (left at j rule) cs h = h.1
departures_before Q (idle at) cs h = h

departure : (Q : ℕ → ℕ → Type 0) {at j : ℕ} {rule : Rule} {before cs : List Call} → Moment (left at j rule ∷ before) cs → EveryDeparture Q cs → Q at j
unfolding EveryDeparture
departure Q now h = h.0
departure Q (after {c = c} {cs = cs} m) h = departure Q m (departures_before Q c cs h)

no_sooner_lem : (tick : ℕ) → LeftBy late_run 2 0 1500 tick → weigh 1500 + heaviest ≤ tick
unfolding EveryDeparture weigh
no_sooner_lem tick l =
    omega (arith, l.full, departure (λ at j. j ≡ 2 → heaviest ≤ at) l.call ((λ e. omega arith), ((λ e. absurd (omega arith)), tt)) refl)

late_exact : Attained late_history 2 0 1500 (weigh 1500)
late_exact =
    record {
      premises = late_premises;
      leaves = (guarantee 0 late_history late_premises.lawful late_link).none_later (drop 2 late_run) (ago 2 late_run) 2 0 1500 (weigh 1500) late_head late_premises.clock_reaches;
      no_sooner = no_sooner_lem;
    }

pub runs_show : RunsShow
runs_show = record { made = lawful_made history_a first_A.lawful; made_late = lawful_made late_history late_premises.lawful; first = first_A; second = second_A; last = last_A; exact = late_exact }

pub sharp : Sharp
unfolding clock
sharp late holds =
    ⊎_elim (λ l. l) (λ l. absurd (omega (arith, no_sooner_lem (weigh 1500 + late) (by l)))) (le_or_lt heaviest late)
  where
    by : late < heaviest → LeftBy late_run 2 0 1500 (weigh 1500 + late)
    by l =
        holds late_history late_premises.lawful late_link (drop 2 late_run) (ago 2 late_run) 2 0 1500 (weigh 1500) late_head
        (omega (arith, late_premises.clock_reaches))
