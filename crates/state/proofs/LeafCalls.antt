-- A leaf's columns after a call: which of its definitions change, and that its cells then show them.
-- Assumes nothing.
use Prim.Native.Nat.{ℕ, ◌+◌, ◌≤◌, ◌<◌}
use native.Mathlib.Omega.{arith}
use mathlib.Core.Path.{◌≡◌, refl, sym, ◌∙◌, ap, subst}
use mathlib.Core.Bool.{Bool, true, false, ◌&&◌}
use mathlib.Core.List.{List, [], ◌∷◌, ◌++◌}
use lib.Dec.{eqb}
use borrow.Author.Tests.{eq-eqb, ne_eqb, eqb-true}
use Rattle.curve.specs.Keeping.{kept_of, kept_with}
use Rattle.curve.specs.declared.Curve.{Curve}
use Rattle.curve.specs.declared.Piece.{Piece}
use Rattle.curve.specs.declared.Kept.{Kept}
use Rattle.curve.proofs.Laws.Kept.{kept_start, kept_more}
use Rattle.tree.specs.declared.Tree.{Tree}
use Rattle.tree.specs.Trees.{curve_of}
use Rattle.rules.specs.Calls.{Call, came, left, idle}
use Rattle.rules.specs.Queues.{queue, head_of, is_nonempty, waits, head_length, head_number, next_number}
use Rattle.rules.specs.Leaves.{is_real_time, sent_real_time_in, sent_real_time, pieces, DeadlineOf, EligibleOf}
use Rattle.rules.specs.Choice.{has_curve}
use Rattle.rules.specs.Lawful.{Grown, LawfulCalls}
use Rattle.rules.proofs.Tests.{never, and_right, by_cond, cond_yes, cond_no}
use Rattle.rules.proofs.Queues.{queue_came, queue_came_other, waits_came}
use Rattle.rules.proofs.Active.{choice_waits}
use Rattle.rules.proofs.Leaves.{HasPiece, has_piece}
use Rattle.state.specs.Table.{at}
use Rattle.state.specs.Columns.{NEXT_NUMBER, HEAD_NUMBER, SENT_REAL_TIME, STEEP_START, STEEP_SENT, FLAT_START, FLAT_SENT, ELIGIBLE, DEADLINE, fair_from}
use Rattle.state.specs.State.{kept_for, has_times, ShowsLeaf}
use Rattle.state.specs.Steps.{kept_in, LeafTimed}
use Rattle.state.proofs.LeafCells.{kept_in_lem}

-- the pieces after an arrival

pub pieces_other : (t k n : ℕ) (cs : List Call) (i : ℕ) → (k ≡ i → ⊥) → pieces (came t k n ∷ cs) i ≡ pieces cs i
unfolding pieces
pieces_other t k n cs i h = cond_no _ _ (ne_eqb k i h)

pub pieces_waiting : (t j n : ℕ) (cs : List Call) → waits cs j ≡ true → pieces (came t j n ∷ cs) j ≡ pieces cs j
unfolding pieces
pieces_waiting t j n cs w = cond_yes _ _ (eq-eqb j j refl) ∙ cond_yes _ _ w

pub pieces_begun : (t j n : ℕ) (cs : List Call) → waits cs j ≡ false → pieces (came t j n ∷ cs) j ≡ record { start = t; sent = sent_real_time cs j } ∷ pieces cs j
unfolding pieces
pieces_begun t j n cs w = cond_yes _ _ (eq-eqb j j refl) ∙ cond_no _ _ w

-- nothing is sent by the real-time rule before the first backlog instant

abbrev pub NoPiece : List Piece → Type 0
NoPiece [] = Unit {0}
NoPiece (p ∷ ps) = ⊥

some_none : (ps : List Piece) → HasPiece ps → NoPiece ps → ⊥
some_none [] s e = s
some_none (p ∷ ps) s e = e

pub unsent : (tree : Tree) → Grown tree → (cs : List Call) → LawfulCalls tree cs → (j : ℕ) → NoPiece (pieces cs j) → sent_real_time cs j ≡ 0
unfolding LawfulCalls pieces sent_real_time_in
unsent tree grown [] law j e = refl
unsent tree grown (came at k n ∷ cs) law j e =
    let rest = unsent tree grown cs law.1 j in
    by_cond (λ (ps : List Piece). NoPiece ps → sent_real_time cs j ≡ 0) (eqb k j)
    (λ q. by_cond (λ (ps : List Piece). NoPiece ps → sent_real_time cs j ≡ 0) (waits cs j) (λ w. rest) (λ w z. absurd z)) (λ q. rest)
    e
unsent tree grown (left at k r ∷ cs) law j e =
    by_cond (λ (x : ℕ). x ≡ 0) (is_real_time r && eqb k j)
    (λ q.
    absurd
    (some_none (pieces cs j)
    (has_piece cs j
    (subst (λ (x : ℕ). waits cs x ≡ true) (eqb-true k j (and_right (is_real_time r) (eqb k j) q)) (choice_waits tree grown cs at k r law.0.finds)))
    e))
    (λ q. unsent tree grown cs law.1 j e)
unsent tree grown (idle at ∷ cs) law j e = unsent tree grown cs law.1 j e

-- what is kept after one piece more, the first one too
pub kept_adds : (S : Curve) (ps : List Piece) (p : Piece) → (NoPiece ps → p.sent ≡ 0) → kept_with S (kept_of S ps) p ≡ kept_of S (p ∷ ps)
kept_adds S [] p h = kept_start S p (h tt)
kept_adds S (q ∷ qs) p h = kept_more S p q qs

-- the head after an arrival

head_last : (ns : List ℕ) (n : ℕ) → is_nonempty ns ≡ false → head_of (ns ++ n ∷ []) ≡ n
head_last [] n e = refl
head_last (m ∷ ns) n e = never refl e

head_more : (ns : List ℕ) (n : ℕ) → is_nonempty ns ≡ true → head_of (ns ++ n ∷ []) ≡ head_of ns
head_more [] n e = never e refl
head_more (m ∷ ns) n e = refl

pub head_begun : (t j n : ℕ) (cs : List Call) → waits cs j ≡ false → head_length (came t j n ∷ cs) j ≡ n
head_begun t j n cs w = ap head_of (queue_came t j n cs) ∙ head_last (queue cs j) n w

-- the number after an arrival

pub number_own : (t j n : ℕ) (cs : List Call) → next_number (came t j n ∷ cs) j ≡ next_number cs j + 1
unfolding next_number
number_own t j n cs = cond_yes _ _ (eq-eqb j j refl)

pub number_other : (t k n : ℕ) (cs : List Call) (i : ℕ) → (k ≡ i → ⊥) → next_number (came t k n ∷ cs) i ≡ next_number cs i
unfolding next_number
number_other t k n cs i h = cond_no _ _ (ne_eqb k i h)

-- calls after which a leaf is the same, but for how many packets came
pub record SameLeaf (cs cs' : List Call) (i : ℕ) : Type 0 where
  pub numbers : head_number cs' i ≡ head_number cs i
  pub bytes : sent_real_time cs' i ≡ sent_real_time cs i
  pub pieces : pieces cs' i ≡ pieces cs i
  pub waits : waits cs' i ≡ waits cs i
  pub head : head_length cs' i ≡ head_length cs i

pub same_self : (cs : List Call) (i : ℕ) → SameLeaf cs cs i
same_self cs i = record { numbers = refl; bytes = refl; pieces = refl; waits = refl; head = refl }

pub same_other : (t k n : ℕ) (cs : List Call) (i : ℕ) → (k ≡ i → ⊥) → SameLeaf cs (came t k n ∷ cs) i
unfolding head_number sent_real_time_in
same_other t k n cs i h =
    record {
      numbers = refl;
      bytes = refl;
      pieces = pieces_other t k n cs i h;
      waits = ap is_nonempty (queue_came_other t k n cs i h);
      head = ap head_of (queue_came_other t k n cs i h);
    }

pub same_waiting : (t j n : ℕ) (cs : List Call) → waits cs j ≡ true → SameLeaf cs (came t j n ∷ cs) j
unfolding head_number sent_real_time_in
same_waiting t j n cs w =
    record {
      numbers = refl;
      bytes = refl;
      pieces = pieces_waiting t j n cs w;
      waits = waits_came t j n cs ∙ sym w;
      head = ap head_of (queue_came t j n cs) ∙ head_more (queue cs j) n w;
    }

module _ (tree : Tree) {cs cs' : List Call} {i : ℕ} (same : SameLeaf cs cs' i) where
  kept_on : kept_for tree cs i ≡ kept_for tree cs' i
  unfolding kept_for
  kept_on = rw same.pieces refl

  times_on : has_times tree cs' i ≡ has_times tree cs i
  times_on = ap (λ (b : Bool). b && has_curve (curve_of tree i)) same.waits

  eligible_on : (e : ℕ) → EligibleOf tree cs i e → EligibleOf tree cs' i e
  eligible_on e h = rw (same.pieces, same.bytes) h

  deadline_on : (d : ℕ) → DeadlineOf tree cs i d → DeadlineOf tree cs' i d
  deadline_on d h = rw (same.pieces, same.bytes, same.head) h

  -- the cells, where only the number of packets that came was stored to
  pub leaf_cells : {m m' : List ℕ} → at m' i NEXT_NUMBER ≡ next_number cs' i → ((f : ℕ) → HEAD_NUMBER ≤ f → f < fair_from → at m' i f ≡ at m i f) → ShowsLeaf m tree cs i
      → ShowsLeaf m' tree cs' i
  leaf_cells {m} {m'} number cells s =
      let stay = kept_on in
      record {
        next_number = number;
        head_number = cells HEAD_NUMBER (omega arith) (omega arith) ∙ s.head_number ∙ sym same.numbers;
        sent_real_time = cells SENT_REAL_TIME (omega arith) (omega arith) ∙ s.sent_real_time ∙ sym same.bytes;
        steep_start = cells STEEP_START (omega arith) (omega arith) ∙ s.steep_start ∙ ap (λ (k : Kept). k.steep.start) stay;
        steep_sent = cells STEEP_SENT (omega arith) (omega arith) ∙ s.steep_sent ∙ ap (λ (k : Kept). k.steep.sent) stay;
        flat_start = cells FLAT_START (omega arith) (omega arith) ∙ s.flat_start ∙ ap (λ (k : Kept). k.flat.start) stay;
        flat_sent = cells FLAT_SENT (omega arith) (omega arith) ∙ s.flat_sent ∙ ap (λ (k : Kept). k.flat.sent) stay;
        eligible = λ e.
            subst (EligibleOf tree cs' i) (sym (cells ELIGIBLE (omega arith) (omega arith))) (eligible_on (at m i ELIGIBLE) (s.eligible (sym times_on ∙ e)));
        deadline = λ e.
            subst (DeadlineOf tree cs' i) (sym (cells DEADLINE (omega arith) (omega arith))) (deadline_on (at m i DEADLINE) (s.deadline (sym times_on ∙ e)));
        never = λ e. cells ELIGIBLE (omega arith) (omega arith) ∙ s.never (sym times_on ∙ e);
        no_deadline = λ e. cells DEADLINE (omega arith) (omega arith) ∙ s.no_deadline (sym times_on ∙ e);
      }

-- a waiting leaf's columns, by its counts and by its pieces and times
module _ (tree : Tree) (cs : List Call) (j : ℕ) (waiting : waits cs j ≡ true) where
  times_curve : has_times tree cs j ≡ has_curve (curve_of tree j)
  times_curve = ap (λ (b : Bool). b && has_curve (curve_of tree j)) waiting

  pub timed_leaf : {m : List ℕ} → LeafTimed m tree cs j → at m j NEXT_NUMBER ≡ next_number cs j → at m j HEAD_NUMBER ≡ head_number cs j → at m j SENT_REAL_TIME ≡ sent_real_time cs j
      → ShowsLeaf m tree cs j
  timed_leaf timed number head bytes =
      record {
        next_number = number;
        head_number = head;
        sent_real_time = bytes;
        steep_start = ap (λ (k : Kept). k.steep.start) timed.kept;
        steep_sent = ap (λ (k : Kept). k.steep.sent) timed.kept;
        flat_start = ap (λ (k : Kept). k.flat.start) timed.kept;
        flat_sent = ap (λ (k : Kept). k.flat.sent) timed.kept;
        eligible = λ e. timed.eligible (sym times_curve ∙ e);
        deadline = λ e. timed.deadline (sym times_curve ∙ e);
        never = λ e. timed.never (sym times_curve ∙ e);
        no_deadline = λ e. timed.no_deadline (sym times_curve ∙ e);
      }

  pub leaf_timed : {m : List ℕ} → ShowsLeaf m tree cs j → LeafTimed m tree cs j
  leaf_timed s =
      record {
        kept = kept_in_lem s;
        eligible = λ e. s.eligible (times_curve ∙ e);
        deadline = λ e. s.deadline (times_curve ∙ e);
        never = λ e. s.never (times_curve ∙ e);
        no_deadline = λ e. s.no_deadline (times_curve ∙ e);
      }

pub timed_cells : {m m' : List ℕ} {tree : Tree} {cs : List Call} {j : ℕ} → ((f : ℕ) → f < fair_from → at m' j f ≡ at m j f) → LeafTimed m tree cs j → LeafTimed m' tree cs j
timed_cells {m} {m'} {tree} {cs} {j} cells s =
    let kept : kept_in m' j ≡ kept_in m j =
    λ i.
    record {
      steep = record { start = cells STEEP_START (omega arith) i; sent = cells STEEP_SENT (omega arith) i };
      flat = record { start = cells FLAT_START (omega arith) i; sent = cells FLAT_SENT (omega arith) i };
    }
    in
    record {
      kept = kept ∙ s.kept;
      eligible = λ e. subst (EligibleOf tree cs j) (sym (cells ELIGIBLE (omega arith))) (s.eligible e);
      deadline = λ e. subst (DeadlineOf tree cs j) (sym (cells DEADLINE (omega arith))) (s.deadline e);
      never = λ e. cells ELIGIBLE (omega arith) ∙ s.never e;
      no_deadline = λ e. cells DEADLINE (omega arith) ∙ s.no_deadline e;
    }
