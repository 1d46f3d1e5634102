-- A backlog instant: the new piece, and the eligible time and deadline of the head that came.
-- Assumes nothing.
use Prim.Native.Nat.{ℕ, ◌+◌, ◌≤◌, ◌<◌}
use native.Mathlib.Omega.{arith}
use native.Mathlib.Nat.{le_trans}
use mathlib.Core.Path.{◌≡◌, sym, ◌∙◌, ap, subst, subst₃}
use mathlib.Core.Bool.{true, false}
use mathlib.Core.List.{List, ◌∷◌}
use Rattle.curve.specs.Answers.{Least}
use Rattle.curve.specs.Curves.{Rising}
use Rattle.curve.specs.Pieces.{Deadline, Eligible}
use Rattle.curve.specs.Keeping.{Orderly, kept_of, kept_with, BothStand, early}
use Rattle.curve.specs.declared.Curve.{Curve}
use Rattle.curve.specs.declared.Piece.{Piece}
use Rattle.curve.specs.declared.Kept.{Kept}
use Rattle.curve.proofs.Laws.Kept.{deadline_kept, eligible_kept}
use Rattle.tree.specs.declared.Tree.{Tree}
use Rattle.tree.specs.Rules.{RightTree}
use Rattle.tree.specs.Trees.{curve_of}
use Rattle.rules.proofs.Allowed.{allowed_admitted}
use Rattle.rules.specs.Limits.{most_bytes_accepted, longest, weigh}
use Rattle.rules.specs.Calls.{Call, came}
use Rattle.rules.specs.Queues.{waits}
use Rattle.rules.specs.Leaves.{sent_real_time_in, sent_real_time, pieces, DeadlineOf, EligibleOf}
use Rattle.rules.specs.Choice.{has_curve}
use Rattle.rules.specs.Lawful.{Grown, LawfulCalls, Allowed}
use Rattle.rules.proofs.Tests.{never}
use Rattle.rules.proofs.Trees.{leaf_class, curve_rising}
use Rattle.rules.proofs.Sent.{weigh_some, c_below_w, w_most}
use Rattle.rules.proofs.Leaves.{pieces_in_order}
use Rattle.state.specs.Table.{at, CLASSES}
use Rattle.state.specs.Columns.{KIND, SENT_REAL_TIME}
use Rattle.state.specs.State.{kept_for, ShowsTree}
use Rattle.state.specs.Steps.{curve_in, kept_in, with_kept, with_times, RipeTick, DueTick, NarrowCode, KeptSoon, LeafOnly, BeforeTiming, AfterTiming}
use Rattle.state.proofs.LeafCells.{kind_none, kind_some, curve_in_lem, narrow_code, curve_rises, kept_curved, kept_bare, kept_soon, tree_cells, only_none, only_then, only_kept, kept_with_lem, curve_same, times_with}
use Rattle.state.proofs.LeafCalls.{pieces_begun, unsent, kept_adds, head_begun}

-- by the definitions

module _ (tree : Tree) (cs : List Call) (j t n : ℕ) (right : RightTree tree) (law : LawfulCalls tree cs) (allowed : Allowed tree cs (came t j n))
    (empty : waits cs j ≡ false) where
  after : LawfulCalls tree (came t j n ∷ cs)
  unfolding LawfulCalls
  after = (allowed, law)

  below : j < tree.count
  below = leaf_class tree j (allowed_admitted allowed).leaf

  sent_most : sent_real_time cs j ≤ most_bytes_accepted
  sent_most = le_trans (c_below_w tree (Grown.right right) cs j) (w_most tree (Grown.right right) cs law j)

  abbrev piece : Piece
  piece = record { start = t; sent = sent_real_time cs j }

  orderly : Orderly (piece ∷ pieces cs j)
  orderly = subst Orderly (pieces_begun t j n cs empty) (pieces_in_order tree (came t j n ∷ cs) after j).order

  module _ (curved : has_curve (curve_of tree j) ≡ true) where
    rising : Rising (curve_of tree j)
    rising = curve_rising tree (Grown.right right) j below curved

    kept_now_lem : kept_for tree (came t j n ∷ cs) j ≡ kept_of (curve_of tree j) (piece ∷ pieces cs j)
    kept_now_lem = kept_curved tree (came t j n ∷ cs) j curved ∙ ap (kept_of (curve_of tree j)) (pieces_begun t j n cs empty)

    kept_begun : kept_with (curve_of tree j) (kept_for tree cs j) piece ≡ kept_for tree (came t j n ∷ cs) j
    kept_begun =
        ap (λ (k : Kept). kept_with (curve_of tree j) k piece) (kept_curved tree cs j curved)
        ∙ kept_adds (curve_of tree j) (pieces cs j) piece (unsent tree (Grown.right right) cs law j)
        ∙ sym kept_now_lem

    eligible_begun : (e : ℕ) → Least (BothStand (early (curve_of tree j)) (kept_for tree (came t j n ∷ cs) j) (sent_real_time cs j)) e
        → EligibleOf tree (came t j n ∷ cs) j e
    unfolding sent_real_time_in
    eligible_begun e h =
        subst (λ (ps : List Piece). Eligible (curve_of tree j) ps (sent_real_time cs j) e) (sym (pieces_begun t j n cs empty))
        (eligible_kept (curve_of tree j) rising piece (pieces cs j) orderly {bytes = sent_real_time cs j} {t = e} (omega arith)
        (subst (λ (k : Kept). Least (BothStand (early (curve_of tree j)) k (sent_real_time cs j)) e) kept_now_lem h))

    deadline_begun : (d : ℕ) → Least (BothStand (curve_of tree j) (kept_for tree (came t j n ∷ cs) j) (sent_real_time cs j + weigh n)) d
        → DeadlineOf tree (came t j n ∷ cs) j d
    unfolding sent_real_time_in
    deadline_begun d h =
        subst (λ (x : ℕ). Deadline (curve_of tree j) (pieces (came t j n ∷ cs) j) (sent_real_time cs j + weigh x) d) (sym (head_begun t j n cs empty))
        (subst (λ (ps : List Piece). Deadline (curve_of tree j) ps (sent_real_time cs j + weigh n) d) (sym (pieces_begun t j n cs empty))
        (deadline_kept (curve_of tree j) rising piece (pieces cs j) orderly {bytes = sent_real_time cs j + weigh n} {t = d}
        (omega (arith, weigh_some n (allowed_admitted allowed).some))
        (subst (λ (k : Kept). Least (BothStand (curve_of tree j) k (sent_real_time cs j + weigh n)) d) kept_now_lem h)))

-- by the table, store by store

pub tree_only : {m m' : List ℕ} {tree : Tree} {j : ℕ} (k : ℕ) → k < CLASSES → LeafOnly m m' j → ShowsTree m tree k → ShowsTree m' tree k
tree_only k b only s = tree_cells (λ f l h. only.columns k f b (omega arith)) s

-- the piece is kept
pub record Pieced (m m' : List ℕ) (tree : Tree) (cs : List Call) (j t n : ℕ) : Type 0 where
  pub only : LeafOnly m m' j
  pub kept : kept_in m' j ≡ kept_for tree (came t j n ∷ cs) j

module _ {m : List ℕ} {tree : Tree} {cs : List Call} {j t n : ℕ} (b : BeforeTiming m tree cs j t n) where
  own : j < tree.count
  own = below tree cs j t n b.planted.right b.planted.lawful b.allowed b.empty

  pub timing_class : j < CLASSES
  timing_class = omega (arith, own, b.planted.right.shape.count.below)

  shows_own : ShowsTree m tree j
  shows_own = b.planted.trees j own

  pub timing_curved : (kind : ℕ) → kind ≡ at m j KIND → (kind ≡ 0 → ⊥) → has_curve (curve_of tree j) ≡ true
  timing_curved kind e some = kind_some (curve_of tree j) (λ z. some (e ∙ shows_own.kind ∙ z))

  pub timing_bare : (kind : ℕ) → kind ≡ at m j KIND → kind ≡ 0 → has_curve (curve_of tree j) ≡ false
  timing_bare kind e z = kind_none (curve_of tree j) (sym shows_own.kind ∙ sym e ∙ z)

  -- what each step asks of the table
  pub asked_curve : {m' : List ℕ} → LeafOnly m m' j → has_curve (curve_of tree j) ≡ true → NarrowCode m' j × Rising (curve_in m' j) × (at m' j SENT_REAL_TIME ≤ most_bytes_accepted)
  asked_curve {m'} only curved =
      let s = tree_only j timing_class only shows_own in (
        narrow_code b.planted.right own s,
        curve_rises b.planted.right own s curved,
        omega (
          arith,
          only.columns j SENT_REAL_TIME timing_class (omega arith),
          b.bytes,
          sent_most tree cs j t n b.planted.right b.planted.lawful b.allowed b.empty,
        ),
      )

  pub asked_soon : {m' : List ℕ} → Pieced m m' tree cs j t n → KeptSoon m' j
  asked_soon p = kept_soon tree (came t j n ∷ cs) (after tree cs j t n b.planted.right b.planted.lawful b.allowed b.empty) p.kept

  pub short : n ≤ longest
  short = (allowed_admitted b.allowed).short

  module _ (curved : has_curve (curve_of tree j) ≡ true) where
    pub pieced_by : {m₁ : List ℕ} → m₁ ≡ with_kept m j (kept_with (curve_in m j) (kept_in m j) (record { start = t; sent = at m j SENT_REAL_TIME })) → Pieced m m₁ tree cs j t n
    pieced_by {m₁} e =
        let made : Kept = kept_with (curve_in m j) (kept_in m j) (record { start = t; sent = at m j SENT_REAL_TIME }) in
        let same : made ≡ kept_with (curve_of tree j) (kept_for tree cs j) (record { start = t; sent = sent_real_time cs j }) =
        λ i. kept_with (curve_in_lem shows_own i) (b.kept i) (record { start = t; sent = b.bytes i })
        in
        record {
          only = subst (λ (x : List ℕ). LeafOnly m x j) (sym e) (only_kept m j made b.planted.size timing_class);
          kept =
              ap (λ (x : List ℕ). kept_in x j) e ∙ kept_with_lem m j made b.planted.size timing_class ∙ same
              ∙ kept_begun tree cs j t n b.planted.right b.planted.lawful b.allowed b.empty curved;
        }

    bytes_still : {m₁ : List ℕ} → LeafOnly m m₁ j → at m₁ j SENT_REAL_TIME ≡ sent_real_time cs j
    bytes_still only = only.columns j SENT_REAL_TIME timing_class (omega arith) ∙ b.bytes

    curve_still : {m₁ : List ℕ} → LeafOnly m m₁ j → curve_in m₁ j ≡ curve_of tree j
    curve_still only = curve_same timing_class only ∙ curve_in_lem shows_own

    -- both times, by the table with the new piece, are stored
    pub timed_by : {m₁ m₂ : List ℕ} {e d : ℕ} → Pieced m m₁ tree cs j t n → RipeTick m₁ j e → DueTick m₁ j n d → m₂ ≡ with_times m₁ j e d → AfterTiming m m₂ tree cs j t n
    timed_by {m₁} {m₂} {e} {d} p ripe due stored =
        let size = p.only.size in
        let cells = times_with m₁ j e d size timing_class in
        subst (λ (x : List ℕ). AfterTiming m x tree cs j t n) (sym stored)
        (record {
          only = only_then p.only cells.only;
          timed =
              record {
                kept = cells.kept ∙ p.kept;
                eligible = λ c.
                    subst (EligibleOf tree (came t j n ∷ cs) j) (sym cells.eligible)
                    (eligible_begun tree cs j t n b.planted.right b.planted.lawful b.allowed b.empty curved e
                    (subst₃ (λ (S : Curve) (k : Kept) (x : ℕ). Least (BothStand (early S) k x) e) (curve_still p.only) p.kept (bytes_still p.only) ripe));
                deadline = λ c.
                    subst (DeadlineOf tree (came t j n ∷ cs) j) (sym cells.deadline)
                    (deadline_begun tree cs j t n b.planted.right b.planted.lawful b.allowed b.empty curved d
                    (subst₃ (λ (S : Curve) (k : Kept) (x : ℕ). Least (BothStand S k (x + weigh n)) d) (curve_still p.only) p.kept (bytes_still p.only) due));
                never = λ c. never curved c;
                no_deadline = λ c. never curved c;
              };
        })

  pub timed_bare : has_curve (curve_of tree j) ≡ false → AfterTiming m m tree cs j t n
  timed_bare bare =
      record {
        only = only_none m j b.planted.size;
        timed =
            record {
              kept = b.kept ∙ kept_bare tree cs j bare ∙ sym (kept_bare tree (came t j n ∷ cs) j bare);
              eligible = λ c. never c bare;
              deadline = λ c. never c bare;
              never = λ c. b.never;
              no_deadline = λ c. b.no_deadline;
            };
      }
