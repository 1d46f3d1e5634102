-- The first of the classes that are meant: what a walk in increasing order keeps, of the classes passed, is what the rules of the choice ask.
-- Assumes nothing.
use Rattle.std.specs.Prelude.{Some, None}
use Prim.Native.Nat.{ℕ, suc, ◌+◌, ◌≤◌, ◌<◌}
use mathlib.Core.Path.{◌≡◌, refl, sym, ◌∙◌, ap, subst}
use mathlib.Core.Bool.{true, false, ◌&&◌}
use mathlib.Core.List.{List}
use mathlib.Core.Logic.{◌⊎◌, inl, inr, ⊎_elim}
use native.Mathlib.Omega.{arith}
use native.Mathlib.Numerals.{add-one}
use Rattle.curve.proofs.Laws.Order.{le_or_lt}
use Rattle.curve.proofs.Laws.Answers.{least_one}
use Rattle.tree.specs.declared.Tree.{Tree}
use Rattle.tree.specs.Trees.{curve_of, is_child}
use Rattle.rules.specs.Calls.{Call}
use Rattle.rules.specs.Limits.{last_tick}
use Rattle.rules.specs.Queues.{waits}
use Rattle.rules.specs.Classes.{active}
use Rattle.rules.specs.Fair.{virtual_time_of}
use Rattle.rules.specs.Choice.{has_curve, Contends, ActiveChild}
use Rattle.rules.specs.Lawful.{Grown, right, none}
use Rattle.rules.proofs.Tests.{never, decided, is_true, and_left, and_right, and_both}
use Rattle.rules.proofs.Over.{any_which, last_or_below}
use Rattle.rules.proofs.Trees.{none_count, leaf_class, child_class, child_some}
use Rattle.rules.proofs.Queues.{waits_leaf}
use Rattle.rules.proofs.Active.{interior_active}
use Rattle.rules.proofs.Leaves.{deadline_below}
use Rattle.rules.proofs.Fair.{virtual_most}
use Rattle.rules.proofs.Sent.{w_most}
use Rattle.state.specs.Table.{at, CLASSES}
use Rattle.state.specs.Columns.{ELIGIBLE, DEADLINE, CHILD, SIBLING, VIRTUAL, ACTIVE, NEVER}
use Rattle.state.specs.State.{has_times, next_sibling}
use Rattle.state.specs.StepsChoosing.{Told, Soonest, Stepping, Lightest}
use Rattle.state.proofs.Chain.{FoundChild, NextChild, first_child_lem, next_sibling_lem, next_found, next_none}
use Rattle.state.proofs.Resting.{zero_passive, passive_zero}

pub count_most : (tree : Tree) → Grown tree → tree.count ≤ CLASSES
count_most tree (right r) = r.shape.count.below
count_most tree (none e) = omega (arith, none_count e)

-- A walk over classes in increasing order that keeps the first of smallest value.

-- none of those passed has a value below the least
abbrev pub Passed : (ℕ → Type 0) → (ℕ → ℕ) → ℕ → ℕ → Type 0
Passed Meant value n least = (k : ℕ) → k < n → Meant k → least ≤ value k

-- class j is the first of those passed
pub record Leads (Meant : ℕ → Type 0) (value : ℕ → ℕ) (n j least : ℕ) : Type 0 where
  pub below : j < n
  pub meant : Meant j
  pub has : value j ≡ least
  pub lower : (k : ℕ) → k < j → Meant k → least < value k

pub passed_none : (Meant : ℕ → Type 0) (value : ℕ → ℕ) (least : ℕ) → Passed Meant value 0 least
passed_none Meant value least k l m = absurd (omega arith)

module _ (Meant : ℕ → Type 0) (value : ℕ → ℕ) (n least : ℕ) where
  -- one class more, whose value is not below the least, or which is not meant
  pub passed_more : (Meant n → least ≤ value n) → Passed Meant value n least → Passed Meant value (suc n) least
  passed_more this before k l m =
      ⊎_elim (λ (e : k ≡ n). subst (λ (x : ℕ). least ≤ value x) (sym e) (this (subst Meant e m))) (λ (h : k < n). before k h m) (last_or_below n k l)

  pub leads_more : {j : ℕ} → Leads Meant value n j least → Leads Meant value (suc n) j least
  leads_more h = record { below = omega (arith, h.below); meant = h.meant; has = h.has; lower = h.lower }

  -- one class more, which leads
  pub passed_new : value n < least → Passed Meant value n least → Passed Meant value (suc n) (value n)
  passed_new less before k l m =
      ⊎_elim (λ (e : k ≡ n). omega (arith, ap value e)) (λ (h : k < n). omega (arith, before k h m)) (last_or_below n k l)

  pub leads_new : Meant n → value n < least → Passed Meant value n least → Leads Meant value (suc n) n (value n)
  leads_new meant less before =
      record { below = omega arith; meant = meant; has = refl; lower = λ k l m. omega (arith, before k l m) }

  -- classes that are not meant change nothing
  pub passed_skip : {m : ℕ} → ((k : ℕ) → n ≤ k → k < m → Meant k → ⊥) → Passed Meant value n least → Passed Meant value m least
  passed_skip not before k l meant = ⊎_elim (λ (h : n ≤ k). absurd (not k h l meant)) (λ (h : k < n). before k h meant) (le_or_lt n k)

-- the column of activity is 0 exactly where the class is passive
module _ {m : List ℕ} {tree : Tree} {cs : List Call} (told : Told m tree cs) (k : ℕ) (below : k < tree.count) where
  pub cell_passive : at m k ACTIVE ≡ 0 → active tree cs k ≡ false
  cell_passive e =
      zero_passive tree told.grown cs (λ j w. waits_leaf tree cs told.lawful j w) k (sym (told.fairs k below).active ∙ e)

  pub cell_active : (at m k ACTIVE ≡ 0 → ⊥) → active tree cs k ≡ true
  cell_active busy = is_true (active tree cs k) (λ e. busy ((told.fairs k below).active ∙ passive_zero tree told.grown cs k e))

-- The real-time rule.

abbrev pub RipeCell : List ℕ → ℕ → ℕ → Type 0
RipeCell m tick k = at m k ELIGIBLE ≤ tick

abbrev pub due_cell : List ℕ → ℕ → ℕ
due_cell m k = at m k DEADLINE

-- one turn of the walk: the least deadline yet, and where it is below what a cell holds the class that leads
pub record Looked (m : List ℕ) (tick n least best : ℕ) : Type 0 where
  pub passed : Passed (RipeCell m tick) (due_cell m) n least
  pub met : (least ≡ NEVER → ⊥) → Leads (RipeCell m tick) (due_cell m) n best least

pub looked_none : (m : List ℕ) (tick : ℕ) → Looked m tick 0 NEVER 0
looked_none m tick = record { passed = passed_none (RipeCell m tick) (due_cell m) NEVER; met = λ some. absurd (some refl) }

module _ (m : List ℕ) (tick n least best : ℕ) (before : Looked m tick n least best) {least' best' : ℕ} where
  pub looked_past : (RipeCell m tick n → least ≤ due_cell m n) → best' ≡ best → least' ≡ least → Looked m tick (n + 1) least' best'
  looked_past this e f =
      rw (add-one, e, f)
      (record {
        passed = passed_more (RipeCell m tick) (due_cell m) n least this before.passed;
        met = λ some. leads_more (RipeCell m tick) (due_cell m) n least (before.met some);
      })

  pub looked_new : RipeCell m tick n → due_cell m n < least → best' ≡ n → least' ≡ due_cell m n → Looked m tick (n + 1) least' best'
  looked_new ripe less e f =
      rw (add-one, e, f)
      (record {
        passed = passed_new (RipeCell m tick) (due_cell m) n least less before.passed;
        met = λ some. leads_new (RipeCell m tick) (due_cell m) n least ripe less before.passed;
      })

module _ (m : List ℕ) (tree : Tree) (cs : List Call) (told : Told m tree cs) (tick : ℕ) (in_time : tick ≤ last_tick) where
  contends_cell : (k d : ℕ) → Contends tree cs tick k d → (k < tree.count) × (RipeCell m tick k) × (due_cell m k ≡ d)
  contends_cell k d c =
      let below = leaf_class tree k c.leaf in
      let timed = and_both (waits cs k) (has_curve (curve_of tree k)) c.waiting c.curved in
      (below, omega (arith, least_one ((told.leaves k below).eligible timed) c.is_eligible, c.ripe), least_one ((told.leaves k below).deadline timed) c.is_deadline)

  cell_contends : (k : ℕ) → k < tree.count → RipeCell m tick k → Contends tree cs tick k (due_cell m k)
  cell_contends k below ripe =
      ⊎_elim
      (λ (timed : has_times tree cs k ≡ true).
      let waiting = and_left (waits cs k) _ timed in
      record {
        leaf = waits_leaf tree cs told.lawful k waiting;
        waiting = waiting;
        curved = and_right (waits cs k) _ timed;
        eligible = at m k ELIGIBLE;
        is_eligible = (told.leaves k below).eligible timed;
        ripe = ripe;
        is_deadline = (told.leaves k below).deadline timed;
      })
      (λ (e : has_times tree cs k ≡ false). absurd (omega (arith, (told.leaves k below).never e)))
      (decided (has_times tree cs k))

  module _ (n least best : ℕ) (all : n ≡ tree.count) (looked : Looked m tick n least best) where
    pub soonest_some : (least ≡ NEVER → ⊥) → Soonest tree cs tick (Some best)
    soonest_some some =
        let leads = looked.met some in
        record {
          deadline = least;
          first =
              record {
                meant = subst (Contends tree cs tick best) leads.has (cell_contends best (omega (arith, leads.below)) leads.meant);
                smallest = λ k y c. let (below, ripe, due) = contends_cell k y c in omega (arith, looked.passed k (omega arith) ripe);
                lowest = λ k c.
                    let (below, ripe, due) = contends_cell k least c in
                    ⊎_elim (λ (h : best ≤ k). h) (λ (h : k < best). absurd (omega (arith, leads.lower k h ripe))) (le_or_lt best k);
              };
        }

    pub soonest_none : least ≡ NEVER → Soonest tree cs tick None
    soonest_none e = λ k d c.
        let (below, ripe, due) = contends_cell k d c in
        omega (arith, looked.passed k (omega arith) ripe, deadline_below tree told.grown cs told.lawful k d c.waiting c.curved c.is_deadline)

-- The fair rule: one step down.

pub record ActiveCell (m : List ℕ) (tree : Tree) (i k : ℕ) : Type 0 where
  pub child : is_child tree i k ≡ true
  pub busy : at m k ACTIVE ≡ 0 → ⊥

abbrev pub virtual_cell : List ℕ → ℕ → ℕ
virtual_cell m k = at m k VIRTUAL

-- no child was met that is active, or the first of those met
abbrev pub MetLightest : List ℕ → Tree → (i n least best : ℕ) → Type 0
MetLightest m tree i n least best = ((best ≡ 0) × (least ≡ NEVER)) ⊎ Leads (ActiveCell m tree i) (virtual_cell m) n best least

-- the walk over the children of i stands at `child`: those below n are passed
pub record Walked (m : List ℕ) (tree : Tree) (i best least child : ℕ) : Type 0 where
  pub n : ℕ
  pub next : NextChild tree i n child
  pub passed : Passed (ActiveCell m tree i) (virtual_cell m) n least
  pub met : MetLightest m tree i n least best

pub walked_is : (m : List ℕ) (tree : Tree) (i : ℕ) {best best' least least' child child' : ℕ} → best' ≡ best → least' ≡ least → child' ≡ child
    → Walked m tree i best least child → Walked m tree i best' least' child'
walked_is m tree i e f g w = rw (e, f, g) w

-- a child that was found comes after what is passed, and what lies between is not meant
module _ (m : List ℕ) (tree : Tree) (i best least child : ℕ) (w : Walked m tree i best least child) (some : child ≡ 0 → ⊥) where
  walked_child : FoundChild tree i w.n child
  walked_child = next_found w.next some

  pub walked_below : (tree.count ≤ CLASSES) → (1 ≤ child) × (child < tree.count)
  walked_below small = (child_some tree i child walked_child.child, child_class tree i child walked_child.child)

  passed_here : Passed (ActiveCell m tree i) (virtual_cell m) child least
  passed_here = passed_skip (ActiveCell m tree i) (virtual_cell m) w.n least (λ k l h a. never a.child (walked_child.between k l h)) w.passed

  met_here : MetLightest m tree i child least best
  met_here =
      ⊎_elim (λ e. inl e)
      (λ (h : Leads (ActiveCell m tree i) (virtual_cell m) w.n best least).
      inr (record { below = omega (arith, h.below, walked_child.after); meant = h.meant; has = h.has; lower = h.lower })) w.met

  met_more : MetLightest m tree i (suc child) least best
  met_more = ⊎_elim (λ e. inl e) (λ (h : Leads (ActiveCell m tree i) (virtual_cell m) child best least). inr (leads_more (ActiveCell m tree i) (virtual_cell m) child least h)) met_here

  -- the next child of the walk
  module _ (shows : at m child SIBLING ≡ next_sibling tree child) where
    next_here : NextChild tree i (suc child) (at m child SIBLING)
    next_here = subst (NextChild tree i (suc child)) (sym shows) (next_sibling_lem tree i child walked_child.child)

    pub walked_passive : at m child ACTIVE ≡ 0 → Walked m tree i best least (at m child SIBLING)
    walked_passive idle =
        record { n = suc child; next = next_here; passed = passed_more (ActiveCell m tree i) (virtual_cell m) child least (λ a. absurd (a.busy idle)) passed_here; met = met_more }

    pub walked_later : least ≤ at m child VIRTUAL → Walked m tree i best least (at m child SIBLING)
    walked_later later = record { n = suc child; next = next_here; passed = passed_more (ActiveCell m tree i) (virtual_cell m) child least (λ a. later) passed_here; met = met_more }

    pub walked_first : (at m child ACTIVE ≡ 0 → ⊥) → at m child VIRTUAL < least → Walked m tree i child (at m child VIRTUAL) (at m child SIBLING)
    walked_first busy less =
        let meant : ActiveCell m tree i child = record { child = walked_child.child; busy = busy } in
        record {
          n = suc child;
          next = next_here;
          passed = passed_new (ActiveCell m tree i) (virtual_cell m) child least less passed_here;
          met = inr (leads_new (ActiveCell m tree i) (virtual_cell m) child least meant less passed_here);
        }

    pub walked_falls : tree.count ≤ CLASSES → (at m child SIBLING ≡ 0) ⊎ ((child < at m child SIBLING) × (at m child SIBLING < CLASSES))
    walked_falls small = falls next_here
      where
        falls : NextChild tree i (suc child) (at m child SIBLING) → (at m child SIBLING ≡ 0) ⊎ ((child < at m child SIBLING) × (at m child SIBLING < CLASSES))
        falls (inl f) = inr (omega (arith, f.after), omega (arith, child_class tree i (at m child SIBLING) f.child))
        falls (inr f) = inl f.zero

module _ (m : List ℕ) (tree : Tree) (cs : List Call) (i : ℕ) (s : Stepping m tree cs i) where
  pub walked_none : Walked m tree i 0 NEVER (at m i CHILD)
  walked_none =
      record {
        n = 0;
        next = subst (NextChild tree i 0) (sym (s.told.trees i s.class).child) (first_child_lem tree i);
        passed = passed_none (ActiveCell m tree i) (virtual_cell m) NEVER;
        met = inl (refl, refl);
      }

  cell_child : (k : ℕ) → ActiveCell m tree i k → ActiveChild tree cs i k (virtual_time_of tree cs k)
  cell_child k a =
      let below = child_class tree i k a.child in
      record {
        child = a.child;
        is_active = cell_active s.told k below a.busy;
        virtual = refl;
      }

  child_cell : (k v : ℕ) → ActiveChild tree cs i k v → ActiveCell m tree i k × (virtual_cell m k ≡ v)
  child_cell k v a =
      let below = child_class tree i k a.child in (
        record {
          child = a.child;
          busy = λ e. never a.is_active (cell_passive s.told k below e);
        },
        (s.told.fairs k below).virtual ∙ a.virtual,
      )

  virtual_small : (k : ℕ) → is_child tree i k ≡ true → at m k VIRTUAL < NEVER
  virtual_small k child =
      omega (
        arith,
        (s.told.fairs k (child_class tree i k child)).virtual,
        virtual_most tree s.told.grown cs s.told.lawful i k child,
        w_most tree s.told.grown cs s.told.lawful i,
      )

  pub lightest_right : (best least child : ℕ) → Walked m tree i best least child → child ≡ 0 → Lightest tree cs i best
  lightest_right best least child w e = go w.met
    where
      all : (k : ℕ) → ActiveCell m tree i k → least ≤ at m k VIRTUAL
      all k a =
          ⊎_elim (λ (h : w.n ≤ k). never a.child ((next_none w.next e).none k h)) (λ (h : k < w.n). w.passed k h a) (le_or_lt w.n k)

      go : MetLightest m tree i w.n least best → Lightest tree cs i best
      go (inl (nobody, top)) =
          let (k, below, both) =
          any_which tree.count (λ k. is_child tree i k && active tree cs k)
          (sym (interior_active tree s.told.grown cs s.told.lawful i s.inner) ∙ s.is_active)
          in
          let child = and_left (is_child tree i k) _ both in
          let (cell, v) = child_cell k (virtual_time_of tree cs k) (record { child = child; is_active = and_right (is_child tree i k) _ both; virtual = refl }) in
          absurd (omega (arith, all k cell, virtual_small k child))
      go (inr leads) =
          let value : virtual_time_of tree cs best ≡ least =
          sym (s.told.fairs best (child_class tree i best leads.meant.child)).virtual ∙ leads.has
          in
          record {
            meant = cell_child best leads.meant;
            smallest = λ k y a. let (cell, v) = child_cell k y a in omega (arith, all k cell);
            lowest = λ k a.
                let (cell, v) = child_cell k (virtual_time_of tree cs best) a in
                ⊎_elim (λ (h : best ≤ k). h) (λ (h : k < best). absurd (omega (arith, leads.lower k h cell))) (le_or_lt best k);
          }
