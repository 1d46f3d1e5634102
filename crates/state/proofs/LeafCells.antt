-- What the columns of a leaf hold: its curve, the pieces kept of its history, and what a store to one of them leaves as it was.
-- Assumes nothing.
use Prim.Native.Nat.{ℕ, ◌≤◌, ◌<◌, ◌^◌}
use native.Mathlib.Omega.{arith}
use native.Mathlib.Nat.{le_trans}
use mathlib.Core.Path.{◌≡◌, refl, ◌∙◌, ap}
use mathlib.Core.Bool.{true, false}
use mathlib.Core.List.{List}
use lib.ListN.{length}
use Rattle.curve.specs.Curves.{Rising, RightCurve}
use Rattle.curve.specs.Codec.{code_of, kind_curve, curve_said}
use Rattle.curve.specs.Keeping.{kept_of}
use Rattle.curve.specs.declared.Curve.{Curve}
use Rattle.curve.specs.declared.Curve.TheVariants.{None, Straight, FrontLoaded, Delayed}
use Rattle.curve.specs.declared.Kept.{Kept}
use Rattle.curve.specs.declared.codec.Code.{Code}
use Rattle.curve.proofs.Laws.Limits.{straight_limits, front_limits, delayed_limits}
use Rattle.curve.proofs.Laws.Kept.{kept_latest}
use Rattle.curve.proofs.Laws.Codec.{said_code}
use Rattle.tree.specs.declared.Tree.{Tree}
use Rattle.tree.specs.Rules.{RightTree}
use Rattle.tree.specs.Trees.{curve_of}
use Rattle.tree.proofs.Right as right_tree
use Rattle.rules.specs.Calls.{Call}
use Rattle.rules.specs.Clock.{clock}
use Rattle.rules.specs.Leaves.{pieces}
use Rattle.rules.specs.Choice.{has_curve}
use Rattle.rules.specs.Lawful.{Grown, LawfulCalls}
use Rattle.rules.proofs.Tests.{by_cond}
use Rattle.rules.proofs.Trees.{curve_rising}
use Rattle.rules.proofs.Sent.{clock_most}
use Rattle.rules.proofs.Leaves.{pieces_in_order}
use Rattle.state.specs.Table.{at, with, CLASSES, COLUMNS, CELLS}
use Rattle.state.specs.Columns.{PARENT, SHARE, KIND, FIRST, SECOND, THIRD, CHILD, SIBLING, SENT, FAIR_START, FAIR_SENT, VIRTUAL, MARK, ACTIVE, STEEP_START, STEEP_SENT, FLAT_START, FLAT_SENT, ELIGIBLE, DEADLINE, leaf_from, times_from, fair_from}
use Rattle.state.specs.State.{kept_for, no_kept, ShowsTree, ShowsLeaf, ShowsFair}
use Rattle.state.specs.Steps.{curve_in, kept_in, with_kept, with_times, NarrowCode, KeptSoon, LeafOnly}
use Rattle.state.proofs.Cells.{length_with, at_with_same, at_with_class, at_with_column}

-- a store after others
pub stored : (i f v : ℕ) {a b d : List ℕ} → a ≡ with b i f v → b ≡ d → a ≡ with d i f v
stored i f v p q = p ∙ ap (λ (m : List ℕ). with m i f v) q

-- a class has no curve exactly where its kind is 0
pub kind_none : (S : Curve) → (code_of S).kind ≡ 0 → has_curve S ≡ false
unfolding code_of
kind_none None e = refl
kind_none (Straight m) e = absurd (omega arith)
kind_none (FrontLoaded m₁ d m₂) e = absurd (omega arith)
kind_none (Delayed d m) e = absurd (omega arith)

pub kind_some : (S : Curve) → ((code_of S).kind ≡ 0 → ⊥) → has_curve S ≡ true
unfolding code_of
kind_some None n = absurd (n refl)
kind_some (Straight m) n = refl
kind_some (FrontLoaded m₁ d m₂) n = refl
kind_some (Delayed d m) n = refl

-- the columns have the tree's curve
pub curve_in_lem : {m : List ℕ} {tree : Tree} {i : ℕ} → ShowsTree m tree i → curve_in m i ≡ curve_of tree i
curve_in_lem {m} {tree} {i} s =
    let columns : curve_in m i ≡ curve_said (code_of (curve_of tree i)) = λ j. kind_curve (s.kind j) (s.first j) (s.second j) (s.third j) in
    columns ∙ said_code (curve_of tree i)

-- a code of 32 bits a number
record Narrow (c : Code) : Type 0 where
  kind : c.kind < 2 ^ 32
  first : c.first < 2 ^ 32
  second : c.second < 2 ^ 32
  third : c.third < 2 ^ 32

narrow : (S : Curve) → RightCurve S → Narrow (code_of S)
unfolding code_of
narrow None r = record { kind = omega arith; first = omega arith; second = omega arith; third = omega arith }
narrow (Straight m) r = let limits = straight_limits m r in record { kind = omega arith; first = omega arith; second = omega arith; third = omega arith }
narrow (FrontLoaded m₁ d m₂) r =
    let limits = front_limits m₁ d m₂ r in record { kind = omega arith; first = omega arith; second = omega arith; third = omega arith }
narrow (Delayed d m) r = let limits = delayed_limits d m r in record { kind = omega arith; first = omega arith; second = omega arith; third = omega arith }

module _ {m : List ℕ} {tree : Tree} (right : RightTree tree) {i : ℕ} (below : i < tree.count) (shows : ShowsTree m tree i) where
  pub narrow_code : NarrowCode m i
  narrow_code =
      let n = narrow (curve_of tree i) (right_tree.curve_right tree right.shape i below) in
      record { kind = rw shows.kind n.kind; first = rw shows.first n.first; second = rw shows.second n.second; third = rw shows.third n.third }

  pub curve_rises : has_curve (curve_of tree i) ≡ true → Rising (curve_in m i)
  curve_rises e = rw (curve_in_lem shows) (curve_rising tree (Grown.right right) i below e)

-- the columns have what is kept of the leaf's pieces
pub kept_in_lem : {m : List ℕ} {tree : Tree} {cs : List Call} {i : ℕ} → ShowsLeaf m tree cs i → kept_in m i ≡ kept_for tree cs i
kept_in_lem s = λ j. record { steep = record { start = s.steep_start j; sent = s.steep_sent j }; flat = record { start = s.flat_start j; sent = s.flat_sent j } }

pub kept_curved : (tree : Tree) (cs : List Call) (i : ℕ) → has_curve (curve_of tree i) ≡ true → kept_for tree cs i ≡ kept_of (curve_of tree i) (pieces cs i)
unfolding kept_for
kept_curved tree cs i e = rw e refl

pub kept_bare : (tree : Tree) (cs : List Call) (i : ℕ) → has_curve (curve_of tree i) ≡ false → kept_for tree cs i ≡ no_kept
unfolding kept_for
kept_bare tree cs i e = rw e refl

-- no kept piece starts after the clock
pub kept_started : (tree : Tree) (cs : List Call) → LawfulCalls tree cs → (i : ℕ)
    → ((kept_for tree cs i).steep.start ≤ clock cs) × ((kept_for tree cs i).flat.start ≤ clock cs)
unfolding kept_for
kept_started tree cs law i =
    let order = pieces_in_order tree cs law i in
    let latest = kept_latest (curve_of tree i) (pieces cs i) order.order in
    by_cond (λ (k : Kept). (k.steep.start ≤ clock cs) × (k.flat.start ≤ clock cs)) (has_curve (curve_of tree i))
    (λ e. (le_trans latest.0 order.latest, le_trans latest.1 order.latest))
    (λ e. (omega arith, omega arith))

pub kept_soon : {m : List ℕ} (tree : Tree) (cs : List Call) → LawfulCalls tree cs → {i : ℕ} → kept_in m i ≡ kept_for tree cs i → KeptSoon m i
kept_soon {m} tree cs law {i} e =
    let started = kept_started tree cs law i in
    record {
      steep = omega (arith, ap (λ (k : Kept). k.steep.start) e, started.0, clock_most tree cs law);
      flat = omega (arith, ap (λ (k : Kept). k.flat.start) e, started.1, clock_most tree cs law);
    }

-- a class's columns, cell by cell
pub tree_cells : {m m' : List ℕ} {tree : Tree} {i : ℕ} → ((f : ℕ) → 1 ≤ f → f < leaf_from → at m' i f ≡ at m i f) → ShowsTree m tree i → ShowsTree m' tree i
tree_cells same s =
    record {
      parent = same PARENT (omega arith) (omega arith) ∙ s.parent;
      share = same SHARE (omega arith) (omega arith) ∙ s.share;
      kind = same KIND (omega arith) (omega arith) ∙ s.kind;
      first = same FIRST (omega arith) (omega arith) ∙ s.first;
      second = same SECOND (omega arith) (omega arith) ∙ s.second;
      third = same THIRD (omega arith) (omega arith) ∙ s.third;
      child = same CHILD (omega arith) (omega arith) ∙ s.child;
      sibling = same SIBLING (omega arith) (omega arith) ∙ s.sibling;
    }

pub fair_cells : {m m' : List ℕ} {tree : Tree} {cs : List Call} {i : ℕ} → ((f : ℕ) → fair_from ≤ f → f < COLUMNS → at m' i f ≡ at m i f)
    → ShowsFair m tree cs i → ShowsFair m' tree cs i
fair_cells same s =
    record {
      sent = same SENT (omega arith) (omega arith) ∙ s.sent;
      fair_start = same FAIR_START (omega arith) (omega arith) ∙ s.fair_start;
      fair_sent = same FAIR_SENT (omega arith) (omega arith) ∙ s.fair_sent;
      virtual = same VIRTUAL (omega arith) (omega arith) ∙ s.virtual;
      mark = same MARK (omega arith) (omega arith) ∙ s.mark;
      active = same ACTIVE (omega arith) (omega arith) ∙ s.active;
    }

-- stores to the pieces and times of one leaf

pub only_none : (m : List ℕ) (j : ℕ) → length m ≡ CELLS → LeafOnly m m j
only_none m j s = record { size = s; columns = λ k f l g. refl; fairs = λ k f l g h. refl; others = λ k f l g n. refl }

pub only_with : (m : List ℕ) (j f v : ℕ) → length m ≡ CELLS → j < CLASSES → times_from ≤ f → f < fair_from → LeafOnly m (with m j f v) j
only_with m j f v s l low high =
    record {
      size = length_with m j f v ∙ s;
      columns = λ k g b h. at_with_column m j f v k g l b (λ e. omega arith);
      fairs = λ k g b h t. at_with_column m j f v k g l b (λ e. omega arith);
      others = λ k g b h n. at_with_class m j f v k g l b n;
    }

pub only_then : {m m' m'' : List ℕ} {j : ℕ} → LeafOnly m m' j → LeafOnly m' m'' j → LeafOnly m m'' j
only_then a b =
    record {
      size = b.size;
      columns = λ k f l g. b.columns k f l g ∙ a.columns k f l g;
      fairs = λ k f l g h. b.fairs k f l g h ∙ a.fairs k f l g h;
      others = λ k f l g n. b.others k f l g n ∙ a.others k f l g n;
    }

module _ (m : List ℕ) (j : ℕ) (k : Kept) (size : length m ≡ CELLS) (class : j < CLASSES) where
  abbrev first : List ℕ
  first = with m j STEEP_START k.steep.start

  abbrev second : List ℕ
  second = with first j STEEP_SENT k.steep.sent

  abbrev third : List ℕ
  third = with second j FLAT_START k.flat.start

  pub only_kept : LeafOnly m (with_kept m j k) j
  unfolding with_kept
  only_kept =
      let a = only_with m j STEEP_START k.steep.start size class (omega arith) (omega arith) in
      let b = only_then a (only_with first j STEEP_SENT k.steep.sent a.size class (omega arith) (omega arith)) in
      let c = only_then b (only_with second j FLAT_START k.flat.start b.size class (omega arith) (omega arith)) in
      only_then c (only_with third j FLAT_SENT k.flat.sent c.size class (omega arith) (omega arith))

  other : (n : List ℕ) (f g v : ℕ) → (g ≡ f → ⊥) → at (with n j f v) j g ≡ at n j g
  other n f g v d = at_with_column n j f v j g class class d

  pub kept_with_lem : kept_in (with_kept m j k) j ≡ k
  unfolding with_kept
  kept_with_lem =
      let sizes : length second ≡ CELLS = length_with first j STEEP_SENT k.steep.sent ∙ length_with m j STEEP_START k.steep.start ∙ size in
      let a : at (with third j FLAT_SENT k.flat.sent) j STEEP_START ≡ k.steep.start =
      other third FLAT_SENT STEEP_START k.flat.sent (λ e. omega arith) ∙ other second FLAT_START STEEP_START k.flat.start (λ e. omega arith)
      ∙ other first STEEP_SENT STEEP_START k.steep.sent (λ e. omega arith)
      ∙ at_with_same m j STEEP_START k.steep.start size class (omega arith)
      in
      let b : at (with third j FLAT_SENT k.flat.sent) j STEEP_SENT ≡ k.steep.sent =
      other third FLAT_SENT STEEP_SENT k.flat.sent (λ e. omega arith) ∙ other second FLAT_START STEEP_SENT k.flat.start (λ e. omega arith)
      ∙ at_with_same first j STEEP_SENT k.steep.sent (length_with m j STEEP_START k.steep.start ∙ size) class (omega arith)
      in
      let c : at (with third j FLAT_SENT k.flat.sent) j FLAT_START ≡ k.flat.start =
      other third FLAT_SENT FLAT_START k.flat.sent (λ e. omega arith) ∙ at_with_same second j FLAT_START k.flat.start sizes class (omega arith)
      in
      let d : at (with third j FLAT_SENT k.flat.sent) j FLAT_SENT ≡ k.flat.sent =
      at_with_same third j FLAT_SENT k.flat.sent (length_with second j FLAT_START k.flat.start ∙ sizes) class (omega arith)
      in
      λ i. record { steep = record { start = a i; sent = b i }; flat = record { start = c i; sent = d i } }

-- the curve and the kept pieces where only other cells were stored to
pub curve_same : {m m' : List ℕ} {j : ℕ} → j < CLASSES → LeafOnly m m' j → curve_in m' j ≡ curve_in m j
curve_same {m} {m'} {j} l o = λ i.
    kind_curve (o.columns j KIND l (omega arith) i) (o.columns j FIRST l (omega arith) i) (o.columns j SECOND l (omega arith) i) (o.columns j THIRD l (omega arith) i)

pub kept_same : (m : List ℕ) (j f v : ℕ) → j < CLASSES → ELIGIBLE ≤ f → kept_in (with m j f v) j ≡ kept_in m j
kept_same m j f v l h = λ i.
    record {
      steep =
          record {
            start = at_with_column m j f v j STEEP_START l l (λ e. omega arith) i;
            sent = at_with_column m j f v j STEEP_SENT l l (λ e. omega arith) i;
          };
      flat =
          record {
            start = at_with_column m j f v j FLAT_START l l (λ e. omega arith) i;
            sent = at_with_column m j f v j FLAT_SENT l l (λ e. omega arith) i;
          };
    }

-- the times of a leaf's head, stored
pub record TimesStored (m m' : List ℕ) (j e d : ℕ) : Type 0 where
  pub only : LeafOnly m m' j
  pub kept : kept_in m' j ≡ kept_in m j
  pub eligible : at m' j ELIGIBLE ≡ e
  pub deadline : at m' j DEADLINE ≡ d

pub times_with : (m : List ℕ) (j e d : ℕ) → length m ≡ CELLS → j < CLASSES → TimesStored m (with_times m j e d) j e d
times_with m j e d size class =
    let mid = with m j ELIGIBLE e in
    let first = only_with m j ELIGIBLE e size class (omega arith) (omega arith) in
    record {
      only = only_then first (only_with mid j DEADLINE d first.size class (omega arith) (omega arith));
      kept = kept_same mid j DEADLINE d class (omega arith) ∙ kept_same m j ELIGIBLE e class (omega arith);
      eligible = at_with_column mid j DEADLINE d j ELIGIBLE class class (λ q. omega arith) ∙ at_with_same m j ELIGIBLE e size class (omega arith);
      deadline = at_with_same mid j DEADLINE d first.size class (omega arith);
    }
