-- A departure, call by call: what the head that leaves changes of its leaf's columns, and what stays the same of the others.
-- Assumes nothing.
use Prim.Native.Nat.{ℕ, suc, ◌+◌, ◌*◌, ◌%◌, ◌≤◌, ◌<◌}
use mathlib.Core.Path.{◌≡◌, refl, sym, ◌∙◌, ap}
use mathlib.Core.Bool.{true, ◌&&◌}
use mathlib.Core.List.{List, [], ◌∷◌}
use mathlib.Core.Logic.{⊎_elim}
use native.Mathlib.Omega.{arith}
use lib.Dec.{eqb}
use lib.ListN.{length, get_or, set}
use lib.Seq.{get_or-set_same, get_or-set_other}
use borrow.Author.Tests.{eqb-true, eq-eqb, ne_eqb}
use Rattle.curve.specs.Answers.{Least}
use Rattle.curve.specs.Curves.{Rising}
use Rattle.curve.specs.Pieces.{Deadline, Eligible}
use Rattle.curve.specs.Keeping.{BothStand, early, kept_of, Orderly, latest_sent}
use Rattle.curve.specs.declared.Curve.{Curve}
use Rattle.curve.specs.declared.Piece.{Piece}
use Rattle.curve.proofs.Laws.Kept.{deadline_kept, kept_deadline, eligible_kept}
use Rattle.curve.proofs.Laws.Order.{le_or_lt}
use Rattle.tree.specs.declared.Tree.{Tree}
use Rattle.rules.specs.declared.Rule.{Rule}
use Rattle.rules.specs.declared.Rule.TheVariants.{RealTime, Fair}
use Rattle.rules.specs.Limits.{room, weigh}
use Rattle.rules.specs.Calls.{Call, left}
use Rattle.rules.specs.Queues.{queue, head_of, tail_of, is_nonempty, waits, head_length, next_number, head_number}
use Rattle.rules.specs.Leaves.{is_real_time, sent_real_time_in, sent_real_time, pieces}
use Rattle.rules.proofs.Tests.{never, is_false, and_right, cond_yes, cond_no}
use Rattle.rules.proofs.Queues.{queue_left, queue_left_other}
use Rattle.rules.proofs.Leaves.{HasPiece}
use Rattle.state.specs.Table.{at, CLASSES, SLOTS, PLACES, slot_of}
use Rattle.state.specs.Columns.{NEXT_NUMBER, leaf_from, fair_from}
use Rattle.state.specs.State.{kept_for, ShowsLeaf, ShowsSlots}
use Rattle.state.proofs.LeafCalls.{SameLeaf, leaf_cells}

-- The definitions of a leaf after a departure.

module _ (t j : ℕ) (r : Rule) (cs : List Call) where
  pub number_left : head_number (left t j r ∷ cs) j ≡ head_number cs j + 1
  unfolding head_number
  number_left = cond_yes _ _ (eq-eqb j j refl)

  pub number_left_other : (k : ℕ) → (j ≡ k → ⊥) → head_number (left t j r ∷ cs) k ≡ head_number cs k
  unfolding head_number
  number_left_other k n = cond_no _ _ (ne_eqb j k n)

  pub next_left : (k : ℕ) → next_number (left t j r ∷ cs) k ≡ next_number cs k
  unfolding next_number
  next_left k = refl

  pub pieces_stay : (k : ℕ) → pieces (left t j r ∷ cs) k ≡ pieces cs k
  unfolding pieces
  pieces_stay k = refl

  pub kept_stay : (tree : Tree) (k : ℕ) → kept_for tree (left t j r ∷ cs) k ≡ kept_for tree cs k
  unfolding kept_for pieces
  kept_stay tree k = refl

  pub bytes_other : (k : ℕ) → (j ≡ k → ⊥) → sent_real_time (left t j r ∷ cs) k ≡ sent_real_time cs k
  unfolding sent_real_time_in
  bytes_other k n = cond_no _ _ (is_false (is_real_time r && eqb j k) (λ e. n (eqb-true j k (and_right (is_real_time r) (eqb j k) e))))

pub bytes_fair : (t j : ℕ) (cs : List Call) (k : ℕ) → sent_real_time (left t j Fair ∷ cs) k ≡ sent_real_time cs k
unfolding sent_real_time_in
bytes_fair t j cs k = refl

pub bytes_real : (t j : ℕ) (cs : List Call) → sent_real_time (left t j RealTime ∷ cs) j ≡ sent_real_time cs j + weigh (head_length cs j)
unfolding sent_real_time_in
bytes_real t j cs = cond_yes _ _ (eq-eqb j j refl)

-- Another leaf is the same.

same_left : (t j : ℕ) (r : Rule) (cs : List Call) (k : ℕ) → (j ≡ k → ⊥) → SameLeaf cs (left t j r ∷ cs) k
same_left t j r cs k n =
    record {
      numbers = number_left_other t j r cs k n;
      bytes = bytes_other t j r cs k n;
      pieces = pieces_stay t j r cs k;
      waits = ap is_nonempty (queue_left_other t j r cs k n);
      head = ap head_of (queue_left_other t j r cs k n);
    }

pub leaf_left_other : {m m' : List ℕ} {tree : Tree} {cs : List Call} (t j : ℕ) (r : Rule) (k : ℕ) → (j ≡ k → ⊥) → ((f : ℕ) → leaf_from ≤ f → f < fair_from → at m' k f ≡ at m k f)
    → ShowsLeaf m tree cs k → ShowsLeaf m' tree (left t j r ∷ cs) k
leaf_left_other {m} {m'} {tree} {cs} t j r k n same s =
    leaf_cells tree (same_left t j r cs k n) (same NEXT_NUMBER (omega arith) (omega arith) ∙ s.next_number ∙ sym (next_left t j r cs k)) (λ f low f18. same f (omega arith) f18) s

-- "Room freed by a departure is used by later arrivals": the slots of the leaf, and of the others.

tail_at : (ns : List ℕ) (k : ℕ) → get_or (tail_of ns) k 0 ≡ get_or ns (suc k) 0
tail_at [] k = refl
tail_at (n ∷ ns) k = refl

tail_one : (ns : List ℕ) → is_nonempty ns ≡ true → suc (length (tail_of ns)) ≡ length ns
tail_one [] e = never e refl
tail_one (n ∷ ns) e = refl

pub head_at : (ns : List ℕ) → get_or ns 0 0 ≡ head_of ns
head_at [] = refl
head_at (n ∷ ns) = refl

module _ {l : List ℕ} {cs : List Call} (t j : ℕ) (r : Rule) (large : length l ≡ PLACES) (class : j < CLASSES) where
  pub slots_left : waits cs j ≡ true → length (queue cs j) ≤ room → ShowsSlots l cs j → ShowsSlots (set l (slot_of j (head_number cs j)) 0) (left t j r ∷ cs) j
  slots_left waiting few s =
      record {
        waiting = λ k b.
            place k
            ∙ other k (omega (arith, b, ap length rest, few, one))
            ∙ ap (λ (x : ℕ). get_or l (slot_of j x) 0) (shift k)
            ∙ s.waiting (suc k) (omega (arith, b, ap length rest, one))
            ∙ sym (tail_at (queue cs j) k)
            ∙ ap (λ (ns : List ℕ). get_or ns k 0) (sym rest);
        free = λ k b c.
            place k
            ∙ ⊎_elim
            (λ (h : 63 ≤ k).
            ap (λ (x : ℕ). get_or (set l (slot_of j (head_number cs j)) 0) (SLOTS * j + x) 0) (round k h c)
            ∙ get_or-set_same l (slot_of j (head_number cs j)) 0 0 (omega arith))
            (λ (h : k < 63).
            other k h
            ∙ ap (λ (x : ℕ). get_or l (slot_of j x) 0) (shift k)
            ∙ s.free (suc k) (omega (arith, b, ap length rest, one)) (omega arith))
            (le_or_lt 63 k);
      }
    where
      rest : queue (left t j r ∷ cs) j ≡ tail_of (queue cs j)
      rest = queue_left t j r cs

      place : (k : ℕ) → get_or (set l (slot_of j (head_number cs j)) 0) (slot_of j (head_number (left t j r ∷ cs) j + k)) 0
          ≡ get_or (set l (slot_of j (head_number cs j)) 0) (slot_of j ((head_number cs j + 1) + k)) 0
      place k = ap (λ (x : ℕ). get_or (set l (slot_of j (head_number cs j)) 0) (slot_of j (x + k)) 0) (number_left t j r cs)

      one : suc (length (tail_of (queue cs j))) ≡ length (queue cs j)
      one = tail_one (queue cs j) waiting

      shift : (k : ℕ) → (head_number cs j + 1) + k ≡ head_number cs j + suc k
      shift k = omega arith

      round : (k : ℕ) → 63 ≤ k → k < SLOTS → ((head_number cs j + 1) + k) % SLOTS ≡ head_number cs j % SLOTS
      round k h c = omega arith

      other : (k : ℕ) → k < 63 → get_or (set l (slot_of j (head_number cs j)) 0) (slot_of j ((head_number cs j + 1) + k)) 0 ≡ get_or l (slot_of j ((head_number cs j + 1) + k)) 0
      other k h = get_or-set_other l (slot_of j (head_number cs j)) (slot_of j ((head_number cs j + 1) + k)) 0 0 (λ e. omega arith)

  pub slots_other : (i p : ℕ) → (j ≡ i → ⊥) → ShowsSlots l cs i → ShowsSlots (set l (slot_of j p) 0) (left t j r ∷ cs) i
  slots_other i p n s =
      record {
        waiting = λ k b. place k ∙ other k ∙ s.waiting k (omega (arith, b, ap length rest)) ∙ ap (λ (ns : List ℕ). get_or ns k 0) (sym rest);
        free = λ k b c. place k ∙ other k ∙ s.free k (omega (arith, b, ap length rest)) c;
      }
    where
      rest : queue (left t j r ∷ cs) i ≡ queue cs i
      rest = queue_left_other t j r cs i n

      place : (k : ℕ) → get_or (set l (slot_of j p) 0) (slot_of i (head_number (left t j r ∷ cs) i + k)) 0 ≡ get_or (set l (slot_of j p) 0) (slot_of i (head_number cs i + k)) 0
      place k = ap (λ (x : ℕ). get_or (set l (slot_of j p) 0) (slot_of i (x + k)) 0) (number_left_other t j r cs i n)

      other : (k : ℕ) → get_or (set l (slot_of j p) 0) (slot_of i (head_number cs i + k)) 0 ≡ get_or l (slot_of i (head_number cs i + k)) 0
      other k = get_or-set_other l (slot_of j p) (slot_of i (head_number cs i + k)) 0 0 (λ e. n (omega arith))

-- The times of a head, from the kept pieces.

pub deadline_from : (S : Curve) → Rising S → (ps : List Piece) → HasPiece ps → Orderly ps → (c n : ℕ) → latest_sent ps ≤ c → 1 ≤ n → {d : ℕ}
    → Least (BothStand S (kept_of S ps) (c + n)) d → Deadline S ps (c + n) d
deadline_from S rising [] some order c n less one = absurd some
deadline_from S rising (p ∷ ps) some order c n less one = deadline_kept S rising p ps order (omega (arith, less))

pub deadline_into : (S : Curve) → Rising S → (ps : List Piece) → HasPiece ps → Orderly ps → (c n : ℕ) → latest_sent ps ≤ c → 1 ≤ n → {d : ℕ}
    → Deadline S ps (c + n) d → Least (BothStand S (kept_of S ps) (c + n)) d
deadline_into S rising [] some order c n less one = absurd some
deadline_into S rising (p ∷ ps) some order c n less one = kept_deadline S rising p ps order (omega (arith, less))

pub eligible_from : (S : Curve) → Rising S → (ps : List Piece) → HasPiece ps → Orderly ps → (c : ℕ) → latest_sent ps ≤ c → {e : ℕ}
    → Least (BothStand (early S) (kept_of S ps) c) e → Eligible S ps c e
eligible_from S rising [] some order c less = absurd some
eligible_from S rising (p ∷ ps) some order c less = eligible_kept S rising p ps order less
