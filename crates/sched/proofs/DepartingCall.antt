-- The call of a departure: its tick and its checks, the table that the choice reads, and the clock that is moved at the end.
-- Assumes nothing.
use Rattle.std.specs.Prelude.{Some, None, Ok, Err}
use Rattle.rules.specs.Kinds.{Departure}
use Rattle.state.specs.Kinds.{NextClock}
use Prim.Native.Nat.{ℕ, ◌<◌}
use mathlib.Core.Path.{◌≡◌, refl, sym, ◌∙◌, ap, subst, transport}
use mathlib.Core.List.{List, [], ◌∷◌}
use Rattle.tree.specs.declared.Tree.{Tree}
use Rattle.tree.specs.declared.Refusal.{Refusal}
use Rattle.rules.specs.declared.Packet.{Packet}
use Rattle.rules.specs.declared.Rule.{Rule}
use Rattle.rules.specs.Limits.{wheel}
use Rattle.rules.specs.Calls.{Call, left, idle, History}
use Rattle.rules.specs.Clock.{clock}
use Rattle.rules.specs.Queues.{queue, head_number, next_number, accepted_in}
use Rattle.rules.specs.Leaves.{sent_real_time_in, pieces}
use Rattle.rules.specs.Classes.{sent_in, active}
use Rattle.rules.specs.Fair.{mark, fair_pieces}
use Rattle.rules.specs.Choice.{Choice, NothingWaits}
use Rattle.rules.specs.Lawful.{Allowed, Lawful}
use Rattle.rules.specs.Answers.{passed, outcome, ticks, next_clock, departure_checks, with_call}
use Rattle.rules.proofs.Answers.{departs_lawful, stamp_kept}
use Rattle.state.specs.Table.{header_at, with_header}
use Rattle.state.specs.Columns.{CLOCK, STAMP}
use Rattle.state.specs.State.{activity, ShowsFair, Shows, Reached}
use Rattle.sched.specs.Promises.{DepartRight}
use Rattle.state.specs.Steps.{tick_of}
use Rattle.sched.specs.StepsArriving.{ShowsButClock}
use Rattle.sched.specs.StepsDeparting.{TakeRight}
use Rattle.state.proofs.Choosing.{count_most}
use Rattle.state.proofs.LeafCalls.{SameLeaf, leaf_cells}
use Rattle.state.proofs.Shown.{tick_refused, tick_shown}
use Rattle.sched.proofs.Arriving.{clock_moved}

-- The checks 14 and 15.

module _ {m l : List ℕ} (h : History) (law : Lawful h) (shows : Shows m l h) (stamp : ℕ) {r : NextClock}
    (ticked : r ≡ tick_of (header_at m CLOCK) (header_at m STAMP) stamp) where
  pub refused_right : (why : Refusal) → r ≡ Err why → DepartRight h stamp (Err why) m l
  refused_right why e =
      record {
        next = h;
        departs = record { checked = tick_refused h stamp why [] (sym e ∙ ticked ∙ tick_shown law shows stamp); after = refl };
        shows = shows;
      }

-- What the table shows, as the calls inside read it.

idle_fair : (m : List ℕ) (tree : Tree) (cs : List Call) (t k : ℕ) → ShowsFair m tree cs k → ShowsFair m tree (idle t ∷ cs) k
unfolding sent_in fair_pieces mark activity active queue
idle_fair m tree cs t k s =
    record { sent = s.sent; fair_start = s.fair_start; fair_sent = s.fair_sent; virtual = s.virtual; mark = s.mark; active = s.active }

idle_same : (t : ℕ) (cs : List Call) (k : ℕ) → SameLeaf cs (idle t ∷ cs) k
unfolding queue head_number sent_real_time_in pieces
idle_same t cs k = record { numbers = refl; bytes = refl; pieces = refl; waits = refl; head = refl }

module _ {m l : List ℕ} {h : History} (law : Lawful h) (shows : Shows m l h) where
  -- "'None waits' moves the clock and nothing else."
  pub idle_shows : (t : ℕ) → ShowsButClock m l (with_call h (idle t))
  unfolding queue head_number next_number accepted_in sent_real_time_in pieces
  idle_shows t =
      record {
        size = shows.size;
        room = shows.room;
        accepted = shows.header.accepted;
        count = shows.header.count;
        rest = shows.header.rest;
        trees = shows.trees;
        leaves = λ k b. leaf_cells h.tree (idle_same t h.calls k) (shows.leaves k b).next_number (λ f low f18. refl) (shows.leaves k b);
        fairs = λ k b. idle_fair m h.tree h.calls t k (shows.fairs k b);
        blank = shows.blank;
        slots = λ k b. record { waiting = (shows.slots k b).waiting; free = (shows.slots k b).free };
      }

-- The answers.

module _ {m' : List ℕ} (h : History) (law : Lawful h) (stamp : ℕ) (narrow : stamp < wheel) {now : ℕ} where
  module _ {m l : List ℕ} (shows : Shows m l h) where
    pub none_right : outcome (departure_checks h.calls (ticks h stamp)) ≡ passed → now ≡ next_clock h stamp → NothingWaits h.calls → m' ≡ with_header (with_header m CLOCK now) STAMP stamp
        → DepartRight h stamp (Ok None) m' l
    none_right passes isNow nothing stored =
        record {
          next = with_call h (idle now);
          departs = record { checked = passes; nothing = nothing; after = ap (λ (t : ℕ). with_call h (idle t)) isNow };
          shows =
              subst (λ (x : List ℕ). Shows x l (with_call h (idle now))) (sym stored)
              (clock_moved now stamp (count_most h.tree law.grown) (idle_shows law shows now) (sym is_clock) (sym (stamp_kept h stamp (idle now) narrow (is_clock ∙ isNow))));
        }
      where
        is_clock : clock (idle now ∷ h.calls) ≡ now
        is_clock = unfold clock in refl

  module _ {m l : List ℕ} {p : Packet} {j : ℕ} {r : Rule} where
    pub leaves_right : outcome (departure_checks h.calls (ticks h stamp)) ≡ passed → now ≡ next_clock h stamp → Allowed h.tree h.calls (left now j r)
        → TakeRight h now j r p m l → m' ≡ with_header (with_header m CLOCK now) STAMP stamp → DepartRight h stamp (Ok (Some p)) m' l
    leaves_right passes isNow allowed taken stored =
        record {
          next = with_call h (left now j r);
          departs =
              record {
                checked = passes;
                chosen = chosen;
                head = taken.head;
                after = λ i. with_call h (left (isNow i) (class i) (rule i));
              };
          shows =
              subst (λ (x : List ℕ). Shows x l (with_call h (left now j r))) (sym stored)
              (clock_moved now stamp (count_most h.tree law.grown) taken.shows (sym is_clock) (sym (stamp_kept h stamp (left now j r) narrow (is_clock ∙ isNow))));
        }
      where
        is_clock : clock (left now j r ∷ h.calls) ≡ now
        is_clock = unfold clock in refl

        class : j ≡ p.class
        class = sym taken.class

        rule : r ≡ p.rule
        rule = sym taken.rule

        chosen : Choice h.tree h.calls (next_clock h stamp) p.class p.rule
        chosen = transport (λ i. Choice h.tree h.calls (isNow i) (class i) (rule i)) allowed.finds

-- from the promise of one history that the arrays showed, a state is reached
pub departs_reached : {m l : List ℕ} {h : History} (law : Lawful h) (stamp : ℕ) (answer : Departure) → DepartRight h stamp answer m l → Reached m l
departs_reached {h = h} law stamp answer d =
    record { history = d.next; lawful = departs_lawful h law stamp answer d.next d.departs; shows = d.shows }
