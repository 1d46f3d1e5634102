-- An arrival as a whole: its checks against document 01's, and the arrays after it show the longer history.
-- Assumes nothing.
use Rattle.std.specs.Prelude.{Ok, Err}
use Rattle.rules.specs.Kinds.{Arrival}
use Rattle.state.specs.Kinds.{NextClock}
use Prim.Native.Nat.{ℕ, ◌+◌, ◌≤◌, ◌<◌}
use native.Mathlib.Omega.{arith}
use mathlib.Core.Path.{◌≡◌, refl, sym, ◌∙◌, ap, subst}
use mathlib.Core.Logic.{⊎_elim}
use mathlib.Core.Bool.{Bool, true, false, cond, ◌&&◌}
use mathlib.Core.List.{List, [], ◌∷◌}
use lib.ListN.{length, set, length-set}
use lib.Dec.{leb, ltb}
use borrow.Author.Tests.{le-leb, lt-leb}
use Rattle.tree.specs.declared.Refusal.{Refusal}
use Rattle.tree.specs.Numbers.{number_of}
use Rattle.tree.specs.Trees.{is_leaf, curve_of}
use Rattle.rules.proofs.Allowed.{allowed_admitted}
use Rattle.rules.specs.Limits.{longest, room, last_tick, most_bytes_accepted, wheel, too_far, weigh}
use Rattle.rules.specs.Calls.{Call, came, History}
use Rattle.rules.specs.Clock.{clock, last_stamp}
use Rattle.rules.specs.Queues.{queue, is_nonempty, waits, head_number, next_number, accepted_in, accepted}
use Rattle.rules.specs.Leaves.{sent_real_time_in}
use Rattle.rules.specs.Choice.{has_curve}
use Rattle.rules.specs.Lawful.{Lawful, LawfulCalls, Allowed}
use Rattle.rules.specs.Answers.{passed, refused, outcome, ticks, next_clock, leaf_checks, arrival_checks, with_call}
use Rattle.rules.proofs.Tests.{equal_or_not, is_false, and_right}
use Rattle.rules.proofs.Trees.{leaf_class, right_tree}
use Rattle.rules.proofs.Queues.{waits_came}
use Rattle.rules.proofs.Active.{numbers}
use Rattle.rules.proofs.Answers.{arrives_lawful, stamp_kept}
use Rattle.state.specs.Heads.{EveryHistory}
use Rattle.state.specs.Table.{at, with, header_at, with_header, CLASSES, CELLS, slot_of}
use Rattle.state.specs.Columns.{HEADER, CLOCK, STAMP, ACCEPTED, COUNT, NEXT_NUMBER, HEAD_NUMBER, SENT_REAL_TIME, STEEP_START, STEEP_SENT, FLAT_START, FLAT_SENT, ELIGIBLE, DEADLINE}
use Rattle.state.specs.State.{has_times, ShowsLeaf, ShowsSlots, Shows, Reached}
use Rattle.sched.specs.Promises.{ArriveRight}
use Rattle.state.specs.Steps.{kept_in, tick_of}
use Rattle.sched.specs.StepsArriving.{BeforeBegin, AfterBegin, ShowsButClock, ReceiveAccepted, ReceiveRefused}
use Rattle.state.proofs.Cells.{length_with, at_with_same, at_with_class, at_with_column}
use Rattle.state.proofs.Choosing.{count_most}
use Rattle.state.proofs.LeafCells.{stored, kept_in_lem, tree_cells, fair_cells}
use Rattle.sched.proofs.ArrivingSlots.{slots_came}
use Rattle.state.proofs.LeafCalls.{number_own, number_other, same_self, same_other, same_waiting, leaf_cells, timed_leaf, leaf_timed}
use Rattle.state.proofs.Shown.{tick_refused, tick_kept, checks_after, tick_shown, class_narrow}
use Rattle.fair.proofs.WakingFair.{fair_came_on}

-- 11, 12, 13 and 16

module _ (h : History) (j n : ℕ) where
  pub no_such_leaf : is_leaf h.tree j ≡ false → outcome (leaf_checks h.tree h.calls j n) ≡ refused 11
  unfolding outcome
  no_such_leaf e = rw e refl

  module _ (leaf : is_leaf h.tree j ≡ true) where
    wrong : leb 1 n && leb n longest ≡ false → outcome (leaf_checks h.tree h.calls j n) ≡ refused 12
    unfolding outcome
    wrong e = rw (leaf, e) refl

    pub too_short : n < 1 → outcome (leaf_checks h.tree h.calls j n) ≡ refused 12
    too_short l = wrong (ap (λ (b : Bool). b && leb n longest) (lt-leb 1 n l))

    pub too_long : longest < n → outcome (leaf_checks h.tree h.calls j n) ≡ refused 12
    too_long l =
        wrong
        (is_false (leb 1 n && leb n longest)
        (λ e. let z = sym (lt-leb n longest l) ∙ and_right (leb 1 n) (leb n longest) e in mathlib.Core.Bool.false≢true z))

    module _ (some : 1 ≤ n) (short : n ≤ longest) where
      pub leaf_full : room ≤ length (queue h.calls j) → outcome (leaf_checks h.tree h.calls j n) ≡ refused 13
      unfolding outcome
      leaf_full full = rw (leaf, le-leb 1 n some, le-leb n longest short, le-leb room (length (queue h.calls j)) full) refl

      -- only the bytes are left to decide
      pub bytes_decide : length (queue h.calls j) < room → (full : Bool) → ltb most_bytes_accepted (accepted h.calls + weigh n) ≡ full
          → outcome (leaf_checks h.tree h.calls j n) ≡ cond full (refused 16) passed
      unfolding outcome
      bytes_decide space full e = rw (leaf, le-leb 1 n some, le-leb n longest short, lt-leb room (length (queue h.calls j)) space, e) refl

-- an arrival that passes all of its checks is one that the rules allow
pub passed_allowed : (h : History) → Lawful h → (stamp j n : ℕ) → outcome (arrival_checks h.tree h.calls (ticks h stamp) j n) ≡ passed
    → Allowed h.tree h.calls (came (next_clock h stamp) j n)
unfolding LawfulCalls
passed_allowed h law stamp j n e =
    (arrives_lawful h law stamp j n (Ok (next_number h.calls j)) (with_call h (came (next_clock h stamp) j n))
    (record { checked = e; numbered = refl; after = refl })
    ).lawful.0

-- a queue is empty exactly where its length is 0
empty_queue : (ns : List ℕ) → length ns ≡ 0 → is_nonempty ns ≡ false
empty_queue [] e = refl
empty_queue (n ∷ ns) e = absurd (omega arith)

some_queue : (ns : List ℕ) → (length ns ≡ 0 → ⊥) → is_nonempty ns ≡ true
some_queue [] e = absurd (e refl)
some_queue (n ∷ ns) e = refl

pub waits_none : (cs : List Call) (j : ℕ) → length (queue cs j) ≡ 0 → waits cs j ≡ false
waits_none cs j e = empty_queue (queue cs j) e

pub waits_some : (cs : List Call) (j : ℕ) → (length (queue cs j) ≡ 0 → ⊥) → waits cs j ≡ true
waits_some cs j e = some_queue (queue cs j) e

-- the table with the accepted bytes and the leaf's packets counted
pub record Counted (m m' : List ℕ) (j total number : ℕ) : Type 0 where
  pub size : length m' ≡ CELLS
  pub bytes : header_at m' ACCEPTED ≡ total
  pub came : at m' j NEXT_NUMBER ≡ number
  pub header : (i : ℕ) → i < CLASSES → (i ≡ ACCEPTED → ⊥) → at m' i HEADER ≡ at m i HEADER
  pub cells : (k f : ℕ) → k < CLASSES → 1 ≤ f → (k ≡ j → f ≡ NEXT_NUMBER → ⊥) → at m' k f ≡ at m k f

pub counted : (m : List ℕ) (j b c : ℕ) → length m ≡ CELLS → j < CLASSES → Counted m (with (with_header m ACCEPTED b) j NEXT_NUMBER c) j b c
counted m j b c size class =
    let first = with m ACCEPTED HEADER b in
    let sized : length first ≡ CELLS = length_with m ACCEPTED HEADER b ∙ size in
    record {
      size = length_with first j NEXT_NUMBER c ∙ sized;
      bytes = at_with_column first j NEXT_NUMBER c ACCEPTED HEADER class (omega arith) (λ e. omega arith) ∙ at_with_same m ACCEPTED HEADER b size (omega arith) (omega arith);
      came = at_with_same first j NEXT_NUMBER c sized class (omega arith);
      header = λ i l e. at_with_column first j NEXT_NUMBER c i HEADER class l (λ z. omega arith) ∙ at_with_class m ACCEPTED HEADER b i HEADER (omega arith) l e;
      cells = λ k f l low other.
          ⊎_elim
          (λ (e : f ≡ NEXT_NUMBER). at_with_class first j NEXT_NUMBER c k f class l (λ z. other z e))
          (λ (e : f ≡ NEXT_NUMBER → ⊥). at_with_column first j NEXT_NUMBER c k f class l e)
          (equal_or_not f NEXT_NUMBER)
          ∙ at_with_column m ACCEPTED HEADER b k f (omega arith) l (λ e. omega arith);
    }

module _ {m l : List ℕ} (h : History) (law : Lawful h) (s : Shows m l h) (t j n : ℕ) (allowed : Allowed h.tree h.calls (came t j n)) {m₂ : List ℕ}
    (counts : Counted m m₂ j (accepted h.calls + weigh n) (next_number h.calls j + 1)) where
  own : j < h.tree.count
  own = leaf_class h.tree j (allowed_admitted allowed).leaf

  narrow : (k : ℕ) → k < h.tree.count → k < CLASSES
  narrow k b = class_narrow law s k b

  -- a packet came into an empty leaf
  pub before_begin : waits h.calls j ≡ false → BeforeBegin m₂ h.tree h.calls j t n
  before_begin empty =
      let leaf = s.leaves j own in
      let untimed : has_times h.tree h.calls j ≡ false = ap (λ (b : Bool). b && has_curve (curve_of h.tree j)) empty in
      let cell : (f : ℕ) → HEAD_NUMBER ≤ f → at m₂ j f ≡ at m j f = λ f low. counts.cells j f (narrow j own) (omega arith) (λ z e. omega arith) in
      let same : kept_in m₂ j ≡ kept_in m j =
      λ i.
      record {
        steep = record { start = cell STEEP_START (omega arith) i; sent = cell STEEP_SENT (omega arith) i };
        flat = record { start = cell FLAT_START (omega arith) i; sent = cell FLAT_SENT (omega arith) i };
      }
      in
      record {
        timing = record {
          planted =
              record {
                size = counts.size;
                right = right_tree h.tree law.grown j own;
                lawful = law.lawful;
                trees = λ k b. tree_cells (λ f low high. counts.cells k f (narrow k b) low (λ z e. omega arith)) (s.trees k b);
              };
          allowed = allowed;
          empty = empty;
          bytes = cell SENT_REAL_TIME (omega arith) ∙ leaf.sent_real_time;
          kept = same ∙ kept_in_lem leaf;
          never = cell ELIGIBLE (omega arith) ∙ leaf.never untimed;
          no_deadline = cell DEADLINE (omega arith) ∙ leaf.no_deadline untimed;
        };
        fairs = λ k b. fair_cells (λ f low high. counts.cells k f (narrow k b) (omega arith) (λ z e. omega arith)) (s.fairs k b);
      }

  -- a packet came into a leaf in which others wait: nothing else changes
  pub waited : waits h.calls j ≡ true → AfterBegin m₂ m₂ h.tree h.calls j t n
  waited waiting =
      record {
        size = counts.size;
        columns = λ k f b g. refl;
        others = λ k f b g e. refl;
        rows = λ k f c b g. refl;
        timed =
            leaf_timed h.tree (came t j n ∷ h.calls) j (waits_came t j n h.calls)
            (leaf_cells h.tree (same_waiting t j n h.calls waiting) (counts.came ∙ sym (number_own t j n h.calls))
            (λ f low high. counts.cells j f (narrow j own) (omega arith) (λ z e. omega arith)) (s.leaves j own));
        fairs = λ k b.
            fair_came_on m₂ h.tree law.grown h.calls law.lawful t j n waiting k
            (fair_cells (λ f low high. counts.cells k f (narrow k b) (omega arith) (λ z e. omega arith)) (s.fairs k b));
      }

  -- the arrays then show the longer history, but for clock and stamp
  module _ {m₃ l' : List ℕ} (a : AfterBegin m₂ m₃ h.tree h.calls j t n) (put : l' ≡ set l (slot_of j (next_number h.calls j)) n) where
    header_cell : (i : ℕ) → i < CLASSES → (i ≡ ACCEPTED → ⊥) → at m₃ i HEADER ≡ at m i HEADER
    header_cell i b e = a.columns i HEADER b (omega arith) ∙ counts.header i b e

    own_leaf : ShowsLeaf m₃ h.tree (came t j n ∷ h.calls) j
    unfolding head_number sent_real_time_in
    own_leaf =
        timed_leaf h.tree (came t j n ∷ h.calls) j (waits_came t j n h.calls) a.timed
        (a.columns j NEXT_NUMBER (narrow j own) (omega arith) ∙ counts.came ∙ sym (number_own t j n h.calls))
        (a.columns j HEAD_NUMBER (narrow j own) (omega arith) ∙ counts.cells j HEAD_NUMBER (narrow j own) (omega arith) (λ z e. omega arith) ∙ (s.leaves j own).head_number)
        (a.columns j SENT_REAL_TIME (narrow j own) (omega arith) ∙ counts.cells j SENT_REAL_TIME (narrow j own) (omega arith) (λ z e. omega arith) ∙ (s.leaves j own).sent_real_time)

    other_leaf : (i : ℕ) → i < h.tree.count → (j ≡ i → ⊥) → ShowsLeaf m₃ h.tree (came t j n ∷ h.calls) i
    other_leaf i b e =
        leaf_cells h.tree (same_other t j n h.calls i e)
        (a.columns i NEXT_NUMBER (narrow i b) (omega arith) ∙ counts.cells i NEXT_NUMBER (narrow i b) (omega arith) (λ z w. e (sym z)) ∙ (s.leaves i b).next_number
        ∙ sym (number_other t j n h.calls i e))
        (λ f low high. a.others i f (narrow i b) high (λ z. e (sym z)) ∙ counts.cells i f (narrow i b) (omega arith) (λ z w. e (sym z))) (s.leaves i b)

    pub shows_came : ShowsButClock m₃ l' (with_call h (came t j n))
    unfolding accepted_in
    shows_came =
        record {
          size = a.size;
          room = ap length put ∙ length-set l (slot_of j (next_number h.calls j)) n ∙ s.room;
          accepted = a.columns ACCEPTED HEADER (omega arith) (omega arith) ∙ counts.bytes;
          count = header_cell COUNT (omega arith) (λ e. omega arith) ∙ s.header.count;
          rest = λ i low b. header_cell i b (λ e. omega arith) ∙ s.header.rest i low b;
          trees = λ i b.
              tree_cells (λ f low high. a.columns i f (narrow i b) (omega arith) ∙ counts.cells i f (narrow i b) low (λ z e. omega arith)) (s.trees i b);
          leaves = λ i b.
              ⊎_elim (λ (e : j ≡ i). subst (ShowsLeaf m₃ h.tree (came t j n ∷ h.calls)) e own_leaf) (λ (e : j ≡ i → ⊥). other_leaf i b e) (equal_or_not j i);
          fairs = a.fairs;
          blank = λ i f c b low high.
              a.rows i f c b high ∙ counts.cells i f b low (λ z e. omega (arith, own)) ∙ s.blank i f c b low high;
          slots = λ i b.
              subst (λ (x : List ℕ). ShowsSlots x (came t j n ∷ h.calls) i) (sym put)
              (slots_came l h.calls t j n s.room (narrow j own) (allowed_admitted allowed).space (numbers h.tree law.grown h.calls law.lawful j) s.slots i b);
        }

-- the clock and the stamp of the call are stored
pub clock_moved : {m l : List ℕ} {h : History} (t stamp : ℕ) → h.tree.count ≤ CLASSES → ShowsButClock m l h → t ≡ clock h.calls → stamp ≡ last_stamp h.first h.calls
    → Shows (with_header (with_header m CLOCK t) STAMP stamp) l h
clock_moved {m} {l} {h} t stamp most s now last =
    let first = with m CLOCK HEADER t in
    let sized : length first ≡ CELLS = length_with m CLOCK HEADER t ∙ s.size in
    let cell : (k f : ℕ) → k < CLASSES → 1 ≤ f → at (with first STAMP HEADER stamp) k f ≡ at m k f =
    λ k f b low.
    at_with_column first STAMP HEADER stamp k f (omega arith) b (λ e. omega arith) ∙ at_with_column m CLOCK HEADER t k f (omega arith) b (λ e. omega arith)
    in
    let head : (i : ℕ) → i < CLASSES → 2 ≤ i → at (with first STAMP HEADER stamp) i HEADER ≡ at m i HEADER =
    λ i b low.
    at_with_class first STAMP HEADER stamp i HEADER (omega arith) b (λ e. omega arith) ∙ at_with_class m CLOCK HEADER t i HEADER (omega arith) b (λ e. omega arith)
    in
    record {
      size = length_with first STAMP HEADER stamp ∙ sized;
      room = s.room;
      header =
          record {
            clock =
                at_with_class first STAMP HEADER stamp CLOCK HEADER (omega arith) (omega arith) (λ e. omega arith)
                ∙ at_with_same m CLOCK HEADER t s.size (omega arith) (omega arith)
                ∙ now;
            stamp = at_with_same first STAMP HEADER stamp sized (omega arith) (omega arith) ∙ last;
            accepted = head ACCEPTED (omega arith) (omega arith) ∙ s.accepted;
            count = head COUNT (omega arith) (omega arith) ∙ s.count;
            rest = λ i low b. head i b (omega arith) ∙ s.rest i low b;
          };
      trees = λ i b. tree_cells (λ f low high. cell i f (omega arith) low) (s.trees i b);
      leaves = λ i b.
          leaf_cells h.tree (same_self h.calls i) (cell i NEXT_NUMBER (omega arith) (omega arith) ∙ (s.leaves i b).next_number)
          (λ f low high. cell i f (omega arith) (omega arith)) (s.leaves i b);
      fairs = λ i b. fair_cells (λ f low high. cell i f (omega arith) (omega arith)) (s.fairs i b);
      blank = λ i f c b low high. cell i f b low ∙ s.blank i f c b low high;
      slots = s.slots;
    }

-- the stores of the counts, as the code has them
pub counted_by : {m m₁ m₂ : List ℕ} (j b c bytes number : ℕ) → length m ≡ CELLS → j < CLASSES → m₁ ≡ with_header m ACCEPTED b → m₂ ≡ with m₁ j NEXT_NUMBER c → b ≡ bytes → c ≡ number
    → Counted m m₂ j bytes number
counted_by {m} {m₁} {m₂} j b c bytes number size class first second p q =
    let whole : m₂ ≡ with (with_header m ACCEPTED bytes) j NEXT_NUMBER number = stored j NEXT_NUMBER c second first ∙ (λ i. with (with_header m ACCEPTED (p i)) j NEXT_NUMBER (q i)) in
    subst (λ (x : List ℕ). Counted m x j bytes number) (sym whole) (counted m j bytes number size class)

-- the answers of an arrival

reached_after : {m l : List ℕ} {h : History} {stamp j n : ℕ} {a : Arrival} → Lawful h → ArriveRight h stamp j n a m l → Reached m l
reached_after {h = h} {stamp = stamp} {j = j} {n = n} {a = a} law r =
    record { history = r.next; lawful = arrives_lawful h law stamp j n a r.next r.arrives; shows = r.shows }

-- what an arrival promises of every history that the arrays show it promises of the one that they were reached by
pub promised : {m l m' l' : List ℕ} {stamp j n : ℕ} {a : Arrival} → Reached m l → EveryHistory m l (λ h. ArriveRight h stamp j n a m' l')
    → EveryHistory m l (λ h. ArriveRight h stamp j n a m' l') × Reached m' l'
promised before answer = (answer, reached_after before.lawful (answer before.history before.lawful before.shows))

module _ {m l : List ℕ} {h : History} (law : Lawful h) (s : Shows m l h) (stamp j n : ℕ) {r : NextClock}
    (ticked : r ≡ tick_of (header_at m CLOCK) (header_at m STAMP) stamp) where
  refused_right : {m' l' : List ℕ} (why : Refusal) → outcome (arrival_checks h.tree h.calls (ticks h stamp) j n) ≡ refused (number_of why) → Shows m' l' h
      → ArriveRight h stamp j n (Err why) m' l'
  refused_right why e shows = record { next = h; arrives = record { checked = e; after = refl }; shows = shows }

  pub tick_refuses : (why : Refusal) → r ≡ Err why → ArriveRight h stamp j n (Err why) m l
  tick_refuses why e = refused_right why (tick_refused h stamp why (leaf_checks h.tree h.calls j n) (sym e ∙ ticked ∙ tick_shown law s stamp)) s

  module _ (t : ℕ) (kept : r ≡ Ok t) where
    now_is : (t ≡ next_clock h stamp) × ((leb too_far (ticks h stamp) ≡ false) × (ltb last_tick (next_clock h stamp) ≡ false))
    now_is = tick_kept h stamp t (sym kept ∙ ticked ∙ tick_shown law s stamp)

    same_outcome : outcome (arrival_checks h.tree h.calls (ticks h stamp) j n) ≡ outcome (leaf_checks h.tree h.calls j n)
    same_outcome = checks_after h stamp (leaf_checks h.tree h.calls j n) now_is.1.0 now_is.1.1

    pub now_allowed : outcome (leaf_checks h.tree h.calls j n) ≡ passed → Allowed h.tree h.calls (came t j n)
    now_allowed opened =
        subst (λ (x : ℕ). Allowed h.tree h.calls (came x j n)) (sym now_is.0) (passed_allowed h law stamp j n (same_outcome ∙ opened))

    module _ (m' l' : List ℕ) where
      -- the clock is moved where the arrival was accepted
      pub accepted_right : {m'' : List ℕ} {number : ℕ} → stamp < wheel → ReceiveAccepted h t j n number m' l'
          → m'' ≡ with_header (with_header m' CLOCK t) STAMP stamp → ArriveRight h stamp j n (Ok number) m'' l'
      unfolding clock
      accepted_right small a moved =
          let last : last_stamp h.first (came t j n ∷ h.calls) ≡ stamp = stamp_kept h stamp (came t j n) small now_is.0 in
          record {
            next = with_call h (came (next_clock h stamp) j n);
            arrives = record { checked = same_outcome ∙ a.checked; numbered = a.right.numbered; after = refl };
            shows =
                subst (λ (x : List ℕ). Shows x l' (with_call h (came (next_clock h stamp) j n))) (sym moved)
                (subst (λ (x : ℕ). Shows (with_header (with_header m' CLOCK t) STAMP stamp) l' (with_call h (came x j n))) now_is.0
                (clock_moved t stamp (count_most h.tree law.grown) a.right.shows refl (sym last)));
          }

      -- and left where it was refused
      pub unmoved_right : (why : Refusal) → ReceiveRefused h j n why m' l' → ArriveRight h stamp j n (Err why) m' l'
      unmoved_right why right = refused_right why (same_outcome ∙ right.checked) right.shows
