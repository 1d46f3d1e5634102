-- The head of the leaf that the rules choose is taken: what the arrays hold at each step, and that they show the longer history at the end.
-- Assumes nothing.
use Rattle.std.specs.Prelude.{Some, None, Option}
use Prim.Native.Nat.{ℕ, ◌+◌, ◌≤◌, ◌<◌}
use mathlib.Core.Path.{◌≡◌, refl, sym, ◌∙◌, ap, subst}
use mathlib.Core.Bool.{Bool, true, false}
use mathlib.Core.List.{List, [], ◌∷◌}
use mathlib.Core.Logic.{⊎_elim}
use native.Mathlib.Omega.{arith}
use lib.Dec.{eqb}
use lib.ListN.{length, get_or, set, length-set}
use borrow.Author.Tests.{eqb-true, eqb-false}
use Rattle.curve.specs.declared.Kept.{Kept}
use Rattle.tree.specs.declared.Tree.{Tree}
use Rattle.tree.specs.Trees.{curve_of}
use Rattle.tree.specs.Rules.{RightTree}
use Rattle.rules.specs.declared.Rule.{Rule}
use Rattle.rules.specs.declared.Rule.TheVariants.{RealTime, Fair}
use Rattle.rules.specs.declared.Times.{Times}
use Rattle.rules.specs.Limits.{most_bytes_accepted, longest, weigh}
use Rattle.rules.specs.Calls.{Call, left, History}
use Rattle.rules.specs.Queues.{queue, is_nonempty, waits, head_length, head_number, accepted_in, accepted}
use Rattle.rules.specs.Leaves.{sent_real_time}
use Rattle.rules.specs.Choice.{has_curve}
use Rattle.rules.specs.Lawful.{Allowed, LawfulCalls, Lawful}
use Rattle.rules.specs.Answers.{with_call, TimesOf}
use Rattle.rules.proofs.Tests.{never, and_both, equal_or_not}
use Rattle.rules.proofs.Trees.{leaf_class}
use Rattle.rules.proofs.Queues.{waits_leaf, head_length_lem, queue_room}
use Rattle.rules.proofs.Active.{choice_waits, numbers}
use Rattle.rules.proofs.Sent.{number_below_accepted, accepted_most, due_below_accepted}
use Rattle.state.specs.Table.{at, with, CLASSES, CELLS, slot_of}
use Rattle.state.specs.Columns.{HEADER, ACCEPTED, COUNT, KIND, NEXT_NUMBER, HEAD_NUMBER, SENT_REAL_TIME, STEEP_START, STEEP_SENT, FLAT_START, FLAT_SENT, ELIGIBLE, DEADLINE, ACTIVE, times_from, fair_from}
use Rattle.state.specs.State.{has_times, ShowsLeaf, ShowsSlots, Shows}
use Rattle.fair.specs.Steps.{BeforeRaise, AfterRaise}
use Rattle.sched.specs.StepsArriving.{ShowsButClock}
use Rattle.state.specs.Steps.{counted, pick_times, times_in}
use Rattle.sched.specs.StepsDeparting.{BeforeSettle, AfterSettle}
use Rattle.state.proofs.Cells.{length_with, at_with_same, at_with_class, at_with_column}
use Rattle.state.proofs.LeafCells.{kind_none, kind_some, kept_in_lem, tree_cells, fair_cells}
use Rattle.fair.proofs.RestingLift.{fair_left}
use Rattle.state.proofs.Choosing.{count_most}
use Rattle.state.proofs.ChoosingDown.{right_tree}
use Rattle.sched.proofs.Departing.{number_left, next_left, bytes_fair, bytes_real, leaf_left_other, slots_left, slots_other, head_at}

-- The two counts of the leaf: cells that a store to them leaves.

pub record Moved (m m' : List ℕ) (j number sum : ℕ) : Type 0 where
  pub size : length m' ≡ CELLS
  pub cells : (k f : ℕ) → k < CLASSES → (f ≡ HEAD_NUMBER → ⊥) → (f ≡ SENT_REAL_TIME → ⊥) → at m' k f ≡ at m k f
  pub rows : (k f : ℕ) → k < CLASSES → (k ≡ j → ⊥) → at m' k f ≡ at m k f
  pub left : at m' j HEAD_NUMBER ≡ number
  pub bytes : at m' j SENT_REAL_TIME ≡ sum

module _ (m : List ℕ) (j number : ℕ) (size : length m ≡ CELLS) (class : j < CLASSES) where
  abbrev first : List ℕ
  first = with m j HEAD_NUMBER number

  moved_first : Moved m first j number (at m j SENT_REAL_TIME)
  moved_first =
      record {
        size = length_with m j HEAD_NUMBER number ∙ size;
        cells = λ k f l n o. at_with_column m j HEAD_NUMBER number k f class l n;
        rows = λ k f l n. at_with_class m j HEAD_NUMBER number k f class l n;
        left = at_with_same m j HEAD_NUMBER number size class (omega arith);
        bytes = at_with_column m j HEAD_NUMBER number j SENT_REAL_TIME class class (λ e. omega arith);
      }

  moved_bytes : (bytes : ℕ) → Moved m (with first j SENT_REAL_TIME bytes) j number bytes
  moved_bytes bytes =
      let a = moved_first in
      record {
        size = length_with first j SENT_REAL_TIME bytes ∙ a.size;
        cells = λ k f l n o. at_with_column first j SENT_REAL_TIME bytes k f class l o ∙ a.cells k f l n o;
        rows = λ k f l n. at_with_class first j SENT_REAL_TIME bytes k f class l n ∙ a.rows k f l n;
        left = at_with_column first j SENT_REAL_TIME bytes j HEAD_NUMBER class class (λ e. omega arith) ∙ a.left;
        bytes = at_with_same first j SENT_REAL_TIME bytes a.size class (omega arith);
      }

  -- "the bytes sent by the real-time rule", by either rule
  moved_counted : (t : ℕ) (cs : List Call) (r : Rule) → at m j SENT_REAL_TIME ≡ sent_real_time cs j
      → Moved m (counted first j r (weigh (head_length cs j))) j number (sent_real_time (left t j r ∷ cs) j)
  unfolding counted
  moved_counted t cs RealTime e =
      subst (Moved m (counted first j RealTime (weigh (head_length cs j))) j number)
      (ap (λ (x : ℕ). x + weigh (head_length cs j)) (moved_first.bytes ∙ e) ∙ sym (bytes_real t j cs))
      (moved_bytes (at first j SENT_REAL_TIME + weigh (head_length cs j)))
  moved_counted t cs Fair e = subst (Moved m first j number) (e ∙ sym (bytes_fair t j cs j)) moved_first

-- times as the columns have them
pick_times_lem : (P : Option Times → Type 0) (b : Bool) (x y : Option Times) → (b ≡ true → P x) → (b ≡ false → P y) → P (pick_times b x y)
pick_times_lem P true x y f g = f refl
pick_times_lem P false x y f g = g refl

module _ {m l : List ℕ} (h : History) (law : Lawful h) (shows : Shows m l h) (t j : ℕ) (r : Rule) (allowed : Allowed h.tree h.calls (left t j r)) where
  abbrev cs : List Call
  cs = h.calls

  abbrev tree : Tree
  tree = h.tree

  abbrev after : List Call
  after = left t j r ∷ h.calls

  lawful : LawfulCalls tree after
  unfolding LawfulCalls
  lawful = (allowed, law.lawful)

  pub take_waits : waits h.calls j ≡ true
  take_waits = choice_waits tree law.grown cs t j r allowed.finds

  pub take_below : j < h.tree.count
  take_below = leaf_class tree j (waits_leaf tree cs law.lawful j take_waits)

  pub take_class : j < CLASSES
  take_class = omega (arith, take_below, count_most tree law.grown)

  leaf : ShowsLeaf m tree cs j
  leaf = shows.leaves j take_below

  grown_right : RightTree tree
  grown_right = right_tree tree law.grown j take_below

  -- the head's length is in its slot
  pub take_length : get_or l (slot_of j (at m j HEAD_NUMBER)) 0 ≡ head_length h.calls j
  take_length =
      let place : at m j HEAD_NUMBER ≡ head_number cs j + 0 = omega (arith, leaf.head_number) in
      ap (λ (x : ℕ). get_or l (slot_of j x) 0) place
      ∙ (shows.slots j take_class).waiting 0 (some (queue cs j) take_waits)
      ∙ head_at (queue cs j)
    where
      some : (ns : List ℕ) → is_nonempty ns ≡ true → 0 < length ns
      some [] e = never e refl
      some (n ∷ ns) e = omega arith

  pub take_short : head_length h.calls j ≤ longest
  take_short = (head_length_lem tree cs law.lawful j take_waits).1

  -- nothing passes its width
  pub take_number : at m j HEAD_NUMBER ≤ most_bytes_accepted
  take_number =
      omega (
        arith,
        leaf.head_number,
        numbers tree law.grown cs law.lawful j,
        number_below_accepted tree cs law.lawful j,
        accepted_most tree cs law.lawful,
      )

  pub take_bytes : at m j SENT_REAL_TIME + weigh (head_length h.calls j) ≤ most_bytes_accepted
  take_bytes = omega (arith, leaf.sent_real_time, due_below_accepted tree law.grown cs law.lawful j take_waits, accepted_most tree cs law.lawful)

  -- the head, as it stood before it left
  timed : has_curve (curve_of tree j) ≡ true → has_times tree cs j ≡ true
  timed curved = and_both (waits cs j) (has_curve (curve_of tree j)) take_waits curved

  pub take_times : TimesOf h.tree h.calls j (times_in m j)
  unfolding times_in
  take_times =
      let kind = (shows.trees j take_below).kind in
      pick_times_lem (TimesOf tree cs j) (eqb (at m j KIND) 0) None (Some (record { eligible = (at m j ELIGIBLE); deadline = (at m j DEADLINE) }))
      (λ e. kind_none (curve_of tree j) (sym kind ∙ eqb-true (at m j KIND) 0 e))
      (λ e.
      let curved = kind_some (curve_of tree j) (λ q. eqb-false (at m j KIND) 0 e (kind ∙ q)) in
      record { curved = curved; is_eligible = leaf.eligible (timed curved); is_deadline = leaf.deadline (timed curved) })

  -- before the counts above the leaf are brought up

  module _ {m₂ : List ℕ} (moved : m₂ ≡ counted (with m j HEAD_NUMBER (at m j HEAD_NUMBER + 1)) j r (weigh (head_length h.calls j))) where
    move : Moved m m₂ j (at m j HEAD_NUMBER + 1) (sent_real_time after j)
    move =
        subst (λ (x : List ℕ). Moved m x j (at m j HEAD_NUMBER + 1) (sent_real_time after j)) (sym moved)
        (moved_counted m j (at m j HEAD_NUMBER + 1) shows.size take_class t cs r leaf.sent_real_time)

    narrow : (k : ℕ) → k < tree.count → k < CLASSES
    narrow k b = omega (arith, count_most tree law.grown)

    pub before_raise : BeforeRaise m₂ h.tree h.calls j (weigh (head_length h.calls j))
    before_raise =
        record {
          planted =
              record {
                size = move.size;
                right = grown_right;
                lawful = law.lawful;
                trees = λ k b.
                    tree_cells (λ f one f9. move.cells k f (narrow k b) (λ e. omega arith) (λ e. omega arith)) (shows.trees k b);
              };
          waiting = take_waits;
          head = refl;
          fairs = λ k b. fair_cells (λ f low high. move.cells k f (narrow k b) (λ e. omega arith) (λ e. omega arith)) (shows.fairs k b);
        }

    module _ {m₃ : List ℕ} (raised : AfterRaise m₂ m₃ h.tree h.calls j) where
      -- the columns before those among the parent's children are as they were, but for the two counts of the leaf
      early : (k f : ℕ) → k < CLASSES → f < fair_from → (f ≡ HEAD_NUMBER → ⊥) → (f ≡ SENT_REAL_TIME → ⊥) → at m₃ k f ≡ at m k f
      early k f b f18 n o = raised.alone.columns k f b f18 ∙ move.cells k f b n o

      pub before_settle : BeforeSettle m₃ (set l (slot_of j (at m j HEAD_NUMBER)) 0) h.tree h.calls j t r
      before_settle =
          let cell : (f : ℕ) → times_from ≤ f → f < fair_from → at m₃ j f ≡ at m j f = λ f low f18. early j f take_class f18 (λ e. omega arith) (λ e. omega arith) in
          record {
            planted =
                record {
                  size = raised.alone.size;
                  right = grown_right;
                  lawful = law.lawful;
                  trees = λ k b. tree_cells (λ f one f9. early k f (narrow k b) (omega arith) (λ e. omega arith) (λ e. omega arith)) (shows.trees k b);
                };
            allowed = allowed;
            number = raised.alone.columns j HEAD_NUMBER take_class (omega arith) ∙ move.left ∙ ap (λ (x : ℕ). x + 1) leaf.head_number ∙ sym (number_left t j r cs);
            next = early j NEXT_NUMBER take_class (omega arith) (λ e. omega arith) (λ e. omega arith) ∙ leaf.next_number ∙ sym (next_left t j r cs j);
            bytes = raised.alone.columns j SENT_REAL_TIME take_class (omega arith) ∙ move.bytes;
            kept =
                (λ i. record {
                  steep = record { start = cell STEEP_START (omega arith) (omega arith) i; sent = cell STEEP_SENT (omega arith) (omega arith) i };
                  flat = record { start = cell FLAT_START (omega arith) (omega arith) i; sent = cell FLAT_SENT (omega arith) (omega arith) i };
                })
                ∙ kept_in_lem leaf;
            times =
                record {
                  eligible = λ e. rw (cell ELIGIBLE (omega arith) (omega arith)) (leaf.eligible e);
                  deadline = λ e. rw (cell DEADLINE (omega arith) (omega arith)) (leaf.deadline e);
                  never = λ e. cell ELIGIBLE (omega arith) (omega arith) ∙ leaf.never e;
                  no_deadline = λ e. cell DEADLINE (omega arith) (omega arith) ∙ leaf.no_deadline e;
                };
            actives = λ k b.
                raised.others k ACTIVE (narrow k b) (omega arith) (λ e. omega arith) (λ e. omega arith)
                ∙ move.cells k ACTIVE (narrow k b) (λ e. omega arith) (λ e. omega arith)
                ∙ (shows.fairs k b).active;
            room = length-set l (slot_of j (at m j HEAD_NUMBER)) 0 ∙ shows.room;
            slots = freed;
          }
        where
          freed : ShowsSlots (set l (slot_of j (at m j HEAD_NUMBER)) 0) after j
          freed =
              subst (λ (x : ℕ). ShowsSlots (set l (slot_of j x) 0) after j) (sym leaf.head_number)
              (slots_left t j r shows.room take_class take_waits (queue_room tree cs law.lawful j) (shows.slots j take_class))

      module _ {m₄ : List ℕ} (settled : AfterSettle m₃ m₄ h.tree h.calls j t r) where
        leaf_after : ShowsLeaf m₄ tree after j
        leaf_after =
            let b = before_settle in
            let column : (f : ℕ) → f < times_from → at m₄ j f ≡ at m₃ j f = λ f f12. settled.columns j f take_class f12 in
            record {
              next_number = column NEXT_NUMBER (omega arith) ∙ b.next;
              head_number = column HEAD_NUMBER (omega arith) ∙ b.number;
              sent_real_time = column SENT_REAL_TIME (omega arith) ∙ b.bytes;
              steep_start = ap (λ (x : Kept). x.steep.start) settled.kept;
              steep_sent = ap (λ (x : Kept). x.steep.sent) settled.kept;
              flat_start = ap (λ (x : Kept). x.flat.start) settled.kept;
              flat_sent = ap (λ (x : Kept). x.flat.sent) settled.kept;
              eligible = settled.times.eligible;
              deadline = settled.times.deadline;
              never = settled.times.never;
              no_deadline = settled.times.no_deadline;
            }

        leaf_others : (k : ℕ) → k < tree.count → (j ≡ k → ⊥) → ShowsLeaf m₄ tree after k
        leaf_others k b n =
            leaf_left_other t j r k n
            (λ f one f18.
            settled.others k f (narrow k b) f18 (λ e. n (sym e))
            ∙ raised.alone.columns k f (narrow k b) f18
            ∙ move.rows k f (narrow k b) (λ e. n (sym e)))
            (shows.leaves k b)

        header : (k : ℕ) → k < CLASSES → at m₄ k HEADER ≡ at m k HEADER
        header k b =
            settled.columns k HEADER b (omega arith)
            ∙ early k HEADER b (omega arith) (λ e. omega arith) (λ e. omega arith)

        bytes_stay : accepted after ≡ accepted cs
        unfolding accepted_in
        bytes_stay = refl

        pub take_shows : ShowsButClock m₄ (set l (slot_of j (at m j HEAD_NUMBER)) 0) (with_call h (left t j r))
        take_shows =
            record {
              size = settled.size;
              room = length-set l (slot_of j (at m j HEAD_NUMBER)) 0 ∙ shows.room;
              accepted = header ACCEPTED (omega arith) ∙ shows.header.accepted ∙ sym bytes_stay;
              count = header COUNT (omega arith) ∙ shows.header.count;
              rest = λ k low b. header k b ∙ shows.header.rest k low b;
              trees = λ k b.
                  tree_cells
                  (λ f one f9.
                  settled.columns k f (narrow k b) (omega arith)
                  ∙ early k f (narrow k b) (omega arith) (λ e. omega arith) (λ e. omega arith))
                  (shows.trees k b);
              leaves = λ k b.
                  ⊎_elim (λ (e : j ≡ k). subst (ShowsLeaf m₄ tree after) e leaf_after) (λ (n : j ≡ k → ⊥). leaf_others k b n) (equal_or_not j k);
              fairs = λ k b. fair_left before_raise raised (λ i f l low high. settled.fairs i f l low high) t r k b (settled.actives k b);
              blank = λ k f out b one f24.
                  settled.rows k f out b f24
                  ∙ raised.alone.rows k f out b f24
                  ∙ move.rows k f b (λ e. omega (arith, take_below))
                  ∙ shows.blank k f out b one f24;
              slots = λ k b.
                  ⊎_elim (λ (e : j ≡ k). subst (ShowsSlots (set l (slot_of j (at m j HEAD_NUMBER)) 0) after) e before_settle.slots)
                  (λ (n : j ≡ k → ⊥). slots_other t j r shows.room take_class k (at m j HEAD_NUMBER) n (shows.slots k b)) (equal_or_not j k);
            }
