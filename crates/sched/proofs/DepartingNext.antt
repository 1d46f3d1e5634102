-- The leaf after its head left: the next head's times, or the leaf turns passive.
-- Assumes nothing.
use Prim.Native.Nat.{ℕ, ◌+◌, ◌≤◌, ◌<◌}
use mathlib.Core.Path.{◌≡◌, refl, sym, ◌∙◌, ap, subst}
use mathlib.Core.Bool.{true, false}
use mathlib.Core.List.{List, [], ◌∷◌}
use native.Mathlib.Omega.{arith}
use lib.ListN.{length, get_or}
use Rattle.curve.specs.Answers.{Least}
use Rattle.curve.specs.Keeping.{BothStand, early}
use Rattle.curve.specs.declared.Curve.{Curve}
use Rattle.curve.specs.declared.Kept.{Kept}
use Rattle.tree.specs.declared.Tree.{Tree}
use Rattle.tree.specs.Trees.{curve_of}
use Rattle.rules.specs.declared.Rule.{Rule}
use Rattle.rules.specs.declared.Rule.TheVariants.{RealTime, Fair}
use Rattle.rules.specs.Limits.{longest, weigh}
use Rattle.rules.specs.Calls.{Call, left}
use Rattle.rules.specs.Queues.{queue, tail_of, is_nonempty, waits, head_length, head_number, next_number}
use Rattle.rules.specs.Leaves.{sent_real_time, pieces, DeadlineOf, EligibleOf}
use Rattle.rules.specs.Choice.{has_curve}
use Rattle.rules.specs.Lawful.{LawfulCalls, Grown, right}
use Rattle.rules.proofs.Tests.{never, is_false, and_left, and_right, and_both}
use Rattle.rules.proofs.Trees.{leaf_class, curve_rising}
use Rattle.rules.proofs.Queues.{queue_left, waits_leaf, head_length_lem}
use Rattle.rules.proofs.Active.{choice_waits, numbers}
use Rattle.rules.proofs.Sent.{weigh_some, c_below_w, w_most}
use Rattle.rules.proofs.Leaves.{pieces_in_order, has_piece}
use Rattle.state.specs.Table.{at, CLASSES, slot_of}
use Rattle.state.specs.Columns.{KIND, NEXT_NUMBER, HEAD_NUMBER, STEEP_START, STEEP_SENT, FLAT_START, FLAT_SENT, ELIGIBLE, DEADLINE, ACTIVE, NEVER}
use Rattle.state.specs.State.{kept_for, has_times, ShowsTree}
use Rattle.state.specs.Steps.{kept_in, with_times, SentIsDue, RipeTick, DueTick, LeafOnly, Planted, Timable, NextRipe, NextTimed, untimed, timed, ShowsTimes}
use Rattle.fair.specs.Steps.{BeforeRest, AfterRest}
use Rattle.sched.specs.StepsDeparting.{BeforeSettle, AfterSettle}
use Rattle.state.proofs.LeafCells.{kind_none, kind_some, curve_in_lem, narrow_code, curve_rises, kept_curved, kept_soon, tree_cells, only_none, times_with}
use Rattle.state.proofs.Resting.{still_active}
use Rattle.state.proofs.Choosing.{count_most}
use Rattle.sched.proofs.Departing.{kept_stay, pieces_stay, bytes_fair, bytes_real, head_at, deadline_from, deadline_into, eligible_from}

some_nonempty : (ns : List ℕ) → 0 < length ns → is_nonempty ns ≡ true
some_nonempty [] l = absurd (omega arith)
some_nonempty (n ∷ ns) l = refl

nonempty_some : (ns : List ℕ) → is_nonempty ns ≡ true → 0 < length ns
nonempty_some [] e = never e refl
nonempty_some (n ∷ ns) e = omega arith

none_empty : (ns : List ℕ) → length ns ≡ 0 → is_nonempty ns ≡ false
none_empty [] e = refl
none_empty (n ∷ ns) e = absurd (omega arith)

only_one : (ns : List ℕ) → is_nonempty ns ≡ true → length (tail_of ns) ≡ 0 → length ns ≡ 1
only_one [] e l = never e refl
only_one (n ∷ ns) e l = omega arith

-- a store to the times of the leaf leaves the tree's columns
pub planted_only : {m m' : List ℕ} {tree : Tree} {cs : List Call} {j : ℕ} → LeafOnly m m' j → Planted m tree cs → Planted m' tree cs
planted_only {tree = tree} only p =
    record {
      size = only.size;
      right = p.right;
      lawful = p.lawful;
      trees = λ k l. tree_cells (λ f one f9. only.columns k f (omega (arith, count_most tree (right p.right))) (omega arith)) (p.trees k l);
    }

stands_is : {S S' : Curve} {K K' : Kept} {y y' d : ℕ} → S ≡ S' → K ≡ K' → y ≡ y' → Least (BothStand S K y) d → Least (BothStand S' K' y') d
stands_is {d = d} e f g h = subst (λ (x : Curve × Kept × ℕ). Least (BothStand x.0 x.1 x.2) d) (λ i. (e i, f i, g i)) h

module _ {m l : List ℕ} {tree : Tree} {cs : List Call} {j t : ℕ} {r : Rule} (b : BeforeSettle m l tree cs j t r) where
  grown : Grown tree
  grown = right b.planted.right

  lawful : LawfulCalls tree (left t j r ∷ cs)
  unfolding LawfulCalls
  lawful = (b.allowed, b.planted.lawful)

  waiting : waits cs j ≡ true
  waiting = choice_waits tree grown cs t j r b.allowed.finds

  class : j < tree.count
  class = leaf_class tree j (waits_leaf tree cs b.planted.lawful j waiting)

  pub settle_class : j < CLASSES
  settle_class = omega (arith, class, count_most tree grown)

  numbered : head_number (left t j r ∷ cs) j + length (queue (left t j r ∷ cs) j) ≡ next_number (left t j r ∷ cs) j
  numbered = numbers tree grown (left t j r ∷ cs) lawful j

  -- whether a packet waits is read off the two counts
  pub next_waits : at m j HEAD_NUMBER < at m j NEXT_NUMBER → waits (left t j r ∷ cs) j ≡ true
  next_waits less = some_nonempty (queue (left t j r ∷ cs) j) (omega (arith, numbered, b.number, b.next))

  pub none_waits : at m j NEXT_NUMBER ≤ at m j HEAD_NUMBER → waits (left t j r ∷ cs) j ≡ false
  none_waits less = none_empty (queue (left t j r ∷ cs) j) (omega (arith, numbered, b.number, b.next))

  -- the next head's length is in its slot
  pub next_length : waits (left t j r ∷ cs) j ≡ true → get_or l (slot_of j (at m j HEAD_NUMBER)) 0 ≡ head_length (left t j r ∷ cs) j
  next_length still =
      let place : at m j HEAD_NUMBER ≡ head_number (left t j r ∷ cs) j + 0 = omega (arith, b.number) in
      ap (λ (x : ℕ). get_or l (slot_of j x) 0) place
      ∙ b.slots.waiting 0 (nonempty_some (queue (left t j r ∷ cs) j) still)
      ∙ head_at (queue (left t j r ∷ cs) j)

  pub next_short : waits (left t j r ∷ cs) j ≡ true → head_length (left t j r ∷ cs) j ≤ longest
  next_short still = (head_length_lem tree (left t j r ∷ cs) lawful j still).1

  shows : ShowsTree m tree j
  shows = b.planted.trees j class

  curved : (at m j KIND ≡ 0 → ⊥) → has_curve (curve_of tree j) ≡ true
  curved some = kind_some (curve_of tree j) (λ e. some (shows.kind ∙ e))

  bare : at m j KIND ≡ 0 → has_curve (curve_of tree j) ≡ false
  bare e = kind_none (curve_of tree j) (sym shows.kind ∙ e)

  pub next_timable : (n : ℕ) → n ≤ longest → (at m j KIND ≡ 0 → ⊥) → Timable m j n
  next_timable n short some =
      record {
        narrow = narrow_code b.planted.right class shows;
        rising = curve_rises b.planted.right class shows (curved some);
        bytes = omega (arith, b.bytes, c_below_w tree grown (left t j r ∷ cs) j, w_most tree grown (left t j r ∷ cs) lawful j);
        kept = kept_soon tree cs b.planted.lawful b.kept;
        short = short;
      }

  -- by the real-time rule the old head's bytes are counted now: those that its deadline asked for
  pub sent_is_due : (at m j KIND ≡ 0 → ⊥) → r ≡ RealTime → SentIsDue m j
  sent_is_due some real =
      let order = pieces_in_order tree cs b.planted.lawful j in
      let head = b.times.deadline (and_both (waits cs j) (has_curve (curve_of tree j)) waiting (curved some)) in
      let counted : sent_real_time (left t j r ∷ cs) j ≡ sent_real_time cs j + weigh (head_length cs j) = ap (λ (x : Rule). sent_real_time (left t j x ∷ cs) j) real ∙ bytes_real t j cs in
      stands_is (sym (curve_in_lem shows)) (sym (b.kept ∙ kept_curved tree cs j (curved some))) (sym (b.bytes ∙ counted))
      (deadline_into (curve_of tree j) (curve_rising tree grown j class (curved some)) (pieces cs j) (has_piece cs j waiting) order.order
      (sent_real_time cs j) (weigh (head_length cs j)) order.sent (weigh_some (head_length cs j) (head_length_lem tree cs b.planted.lawful j waiting).0) head)

  kept_after_lem : kept_in m j ≡ kept_for tree (left t j r ∷ cs) j
  kept_after_lem = b.kept ∙ sym (kept_stay t j r cs tree j)

  -- the leaf still holds a packet: all are as active as before
  settled_only : {m' : List ℕ} → LeafOnly m m' j → kept_in m' j ≡ kept_in m j → ShowsTimes m' tree (left t j r ∷ cs) j → waits (left t j r ∷ cs) j ≡ true
      → AfterSettle m m' tree cs j t r
  settled_only only kept times still =
      record {
        size = only.size;
        columns = only.columns;
        others = λ k f l f18 n. only.others k f l (omega arith) n;
        fairs = λ k f l low high. only.fairs k f l low (omega arith);
        rows = λ k f out l f24. only.others k f l f24 (λ e. omega (arith, class));
        kept = kept ∙ kept_after_lem;
        times = times;
        actives = λ k l.
            only.fairs k ACTIVE (omega (arith, count_most tree grown)) (omega arith) (omega arith)
            ∙ b.actives k l
            ∙ sym (still_active tree grown cs b.planted.lawful j waiting t r still k);
      }

  module _ (some : at m j KIND ≡ 0 → ⊥) (still : waits (left t j r ∷ cs) j ≡ true) where
    has : has_times tree (left t j r ∷ cs) j ≡ true
    has = and_both (waits (left t j r ∷ cs) j) (has_curve (curve_of tree j)) still (curved some)

    eligible_anew : (e : ℕ) → RipeTick m j e → EligibleOf tree (left t j r ∷ cs) j e
    eligible_anew e least =
        let order = pieces_in_order tree (left t j r ∷ cs) lawful j in
        eligible_from (curve_of tree j) (curve_rising tree grown j class (curved some)) (pieces (left t j r ∷ cs) j) (has_piece (left t j r ∷ cs) j still) order.order
        (sent_real_time (left t j r ∷ cs) j) order.sent
        (stands_is (ap early (curve_in_lem shows)) (kept_after_lem ∙ kept_curved tree (left t j r ∷ cs) j (curved some)) b.bytes least)

    deadline_anew : (n : ℕ) → n ≡ head_length (left t j r ∷ cs) j → (d : ℕ) → DueTick m j n d → DeadlineOf tree (left t j r ∷ cs) j d
    deadline_anew n head d least =
        let order = pieces_in_order tree (left t j r ∷ cs) lawful j in
        deadline_from (curve_of tree j) (curve_rising tree grown j class (curved some)) (pieces (left t j r ∷ cs) j) (has_piece (left t j r ∷ cs) j still) order.order
        (sent_real_time (left t j r ∷ cs) j) (weigh (head_length (left t j r ∷ cs) j)) order.sent
        (weigh_some (head_length (left t j r ∷ cs) j) (head_length_lem tree (left t j r ∷ cs) lawful j still).0)
        (stands_is (curve_in_lem shows) (kept_after_lem ∙ kept_curved tree (left t j r ∷ cs) j (curved some)) (λ i. b.bytes i + weigh (head i)) least)

    -- both times are stored
    settled_timed : (n : ℕ) → n ≡ head_length (left t j r ∷ cs) j → {m' : List ℕ} {e d : ℕ} → EligibleOf tree (left t j r ∷ cs) j e → DueTick m j n d → m' ≡ with_times m j e d
        → AfterSettle m m' tree cs j t r
    settled_timed n head {m'} {e} {d} ripe due stored =
        let cells = times_with m j e d b.planted.size settle_class in
        subst (λ (x : List ℕ). AfterSettle m x tree cs j t r) (sym stored)
        (settled_only cells.only cells.kept
        (record {
          eligible = λ q. subst (EligibleOf tree (left t j r ∷ cs) j) (sym cells.eligible) ripe;
          deadline = λ q. subst (DeadlineOf tree (left t j r ∷ cs) j) (sym cells.deadline) (deadline_anew n head d due);
          never = λ q. never has q;
          no_deadline = λ q. never has q;
        })
        still)

  -- a leaf with no curve has no times
  settled_bare : at m j KIND ≡ 0 → waits (left t j r ∷ cs) j ≡ true → AfterSettle m m tree cs j t r
  settled_bare e still =
      let none = bare e in
      let before : has_times tree cs j ≡ false = is_false (has_times tree cs j) (λ q. never (and_right (waits cs j) (has_curve (curve_of tree j)) q) none) in
      settled_only (only_none m j b.planted.size) refl
      (record {
        eligible = λ q. never (and_right (waits (left t j r ∷ cs) j) (has_curve (curve_of tree j)) q) none;
        deadline = λ q. never (and_right (waits (left t j r ∷ cs) j) (has_curve (curve_of tree j)) q) none;
        never = λ q. b.times.never before;
        no_deadline = λ q. b.times.no_deadline before;
      })
      still

  -- the last packet has left: no times, and the leaf turns passive
  pub settled_last : {m' : List ℕ} → waits (left t j r ∷ cs) j ≡ false
      → AfterRest (with_times m j NEVER 0) m' tree cs j → AfterSettle m m' tree cs j t r
  settled_last {m'} empty rest =
      let cells = times_with m j NEVER 0 b.planted.size settle_class in
      let only = cells.only in
      let cell : (k f : ℕ) → k < CLASSES → f < ACTIVE → at m' k f ≡ at (with_times m j NEVER 0) k f = λ k f l h. rest.others k f l (omega arith) (λ e. omega arith) in
      let none : has_times tree (left t j r ∷ cs) j ≡ false =
      is_false (has_times tree (left t j r ∷ cs) j) (λ q. never (and_left (waits (left t j r ∷ cs) j) (has_curve (curve_of tree j)) q) empty)
      in
      record {
        size = rest.alone.size;
        columns = λ k f l h. cell k f l (omega arith) ∙ only.columns k f l h;
        others = λ k f l h n. cell k f l (omega arith) ∙ only.others k f l (omega arith) n;
        fairs = λ k f l low high. cell k f l high ∙ only.fairs k f l low (omega arith);
        rows = λ k f out l h. rest.alone.rows k f out l h ∙ only.others k f l h (λ e. omega (arith, class));
        kept =
            (λ i. record {
              steep = record { start = cell j STEEP_START settle_class (omega arith) i; sent = cell j STEEP_SENT settle_class (omega arith) i };
              flat = record { start = cell j FLAT_START settle_class (omega arith) i; sent = cell j FLAT_SENT settle_class (omega arith) i };
            })
            ∙ cells.kept
            ∙ kept_after_lem;
        times =
            record {
              eligible = λ e. never e none;
              deadline = λ e. never e none;
              never = λ e. cell j ELIGIBLE settle_class (omega arith) ∙ cells.eligible;
              no_deadline = λ e. cell j DEADLINE settle_class (omega arith) ∙ cells.deadline;
            };
        actives = λ k l. rest.actives t r k l;
      }

  pub before_rest : waits (left t j r ∷ cs) j ≡ false → at m j NEXT_NUMBER ≤ at m j HEAD_NUMBER → BeforeRest (with_times m j NEVER 0) tree cs j
  before_rest empty less =
      let cells = times_with m j NEVER 0 b.planted.size settle_class in
      let only = cells.only in
      record {
        planted = planted_only only b.planted;
        waiting = waiting;
        last = only_one (queue cs j) waiting (omega (arith, numbered, b.number, b.next, ap length (queue_left t j r cs)));
        actives = λ k l. only.fairs k ACTIVE (omega (arith, count_most tree grown)) (omega arith) (omega arith) ∙ b.actives k l;
      }

-- the eligible time of the next head, by either rule: it stays the same after a departure by the fair rule
next_eligible : {m l : List ℕ} {tree : Tree} {cs : List Call} {j t : ℕ} (r : Rule) (b : BeforeSettle m l tree cs j t r) → (at m j KIND ≡ 0 → ⊥)
    → waits (left t j r ∷ cs) j ≡ true → (e : ℕ) → NextRipe r m j e → EligibleOf tree (left t j r ∷ cs) j e
next_eligible RealTime b some still e ripe = eligible_anew b some still e ripe
next_eligible {m} {l} {tree} {cs} {j} {t} Fair b some still e same =
    rw (pieces_stay t j Fair cs j, bytes_fair t j cs j)
    (subst (EligibleOf tree cs j) (sym same) (b.times.eligible (and_both (waits cs j) (has_curve (curve_of tree j)) (waiting b) (curved b some))))

pub settled_next : {m l m' : List ℕ} {tree : Tree} {cs : List Call} {j t : ℕ} (r : Rule) (b : BeforeSettle m l tree cs j t r) (n : ℕ)
    → n ≡ head_length (left t j r ∷ cs) j → waits (left t j r ∷ cs) j ≡ true → NextTimed m m' j n r → AfterSettle m m' tree cs j t r
settled_next {m} {l} {m'} {tree} {cs} {j} {t} r b n head still (untimed e same) =
    subst (λ (x : List ℕ). AfterSettle m x tree cs j t r) (sym same) (settled_bare b e still)
settled_next r b n head still (timed some e d ripe due stored) = settled_timed b some still n head (next_eligible r b some still e ripe) due stored
