-- One history allows one content of the two arrays.
-- Assumes nothing.
use Prim.Native.Nat.{ℕ, zero, suc, ◌+◌, ◌-◌, ◌/◌, ◌%◌, ◌≤◌, ◌<◌}
use mathlib.Core.Path.{◌≡◌, sym, subst, ◌∙◌}
use mathlib.Core.List.{List}
use mathlib.Core.Logic.{⊎_elim}
use native.Mathlib.Omega.{arith}
use lib.ListN.{length, get_or}
use lib.Seq.{ext_get_or}
use Rattle.curve.proofs.Laws.Answers.{least_one}
use Rattle.curve.proofs.Laws.Order.{le_or_lt}
use Rattle.rules.specs.Calls.{History}
use Rattle.rules.specs.Queues.{queue, head_number}
use Rattle.rules.proofs.Tests.{decided}
use Rattle.rules.proofs.Over.{last_or_below}
use Rattle.state.specs.Table.{at, header_at, CLASSES, COLUMNS, SLOTS, slot_of}
use Rattle.state.specs.Columns as col
use Rattle.state.specs.State.{has_times, Shows}
use Rattle.state.proofs.Cells.{cells_equal}

-- what is shown of each number below n, one after the other, holds of every number below n
EachBelow : (ℕ → Type 0) → ℕ → Type 0
EachBelow P zero = Unit {0}
EachBelow P (suc n) = EachBelow P n × P n

each_below : (P : ℕ → Type 0) (n : ℕ) → EachBelow P n → (k : ℕ) → k < n → P k
unfolding EachBelow
each_below P zero e k l = absurd (omega arith)
each_below P (suc n) e k l = ⊎_elim (λ (q : k ≡ n). subst P (sym q) e.1) (λ (q : k < n). each_below P n e.0 k q) (last_or_below n k l)

module _ {m m' l l' : List ℕ} {h : History} (s : Shows m l h) (s' : Shows m' l' h) where
  -- the header
  header_one : (i : ℕ) → i < CLASSES → header_at m i ≡ header_at m' i
  unfolding EachBelow
  header_one i room =
      let a = s.header in
      let b = s'.header in
      ⊎_elim
      (λ (q : col.header_cells ≤ i). a.rest i q room ∙ sym (b.rest i q room))
      (λ (q : i < col.header_cells).
      each_below (λ k. header_at m k ≡ header_at m' k) col.header_cells
      ((((tt, a.clock ∙ sym b.clock), a.stamp ∙ sym b.stamp), a.accepted ∙ sym b.accepted), a.count ∙ sym b.count)
      i q)
      (le_or_lt col.header_cells i)

  -- a class's row
  row_one : (i : ℕ) → i < h.tree.count → i < CLASSES → (f : ℕ) → f < COLUMNS → at m i f ≡ at m' i f
  unfolding EachBelow
  row_one i class room =
      let a = s.trees i class in
      let b = s'.trees i class in
      let c = s.leaves i class in
      let d = s'.leaves i class in
      let e = s.fairs i class in
      let g = s'.fairs i class in
      let timed = decided (has_times h.tree h.calls i) in
      let tree-columns : EachBelow (λ f. at m i f ≡ at m' i f) col.leaf_from = (
        (
          (
            (
              (((((tt, header_one i room), a.parent ∙ sym b.parent), a.share ∙ sym b.share), a.kind ∙ sym b.kind), a.first ∙ sym b.first),
              a.second ∙ sym b.second,
            ),
            a.third ∙ sym b.third,
          ),
          a.child ∙ sym b.child,
        ),
        a.sibling ∙ sym b.sibling,
      )
      in
      let leaf-columns : EachBelow (λ f. at m i f ≡ at m' i f) col.fair_from = (
        (
          (
            (
              (
                ((((tree-columns, c.next_number ∙ sym d.next_number), c.head_number ∙ sym d.head_number), c.sent_real_time ∙ sym d.sent_real_time), c.steep_start ∙ sym d.steep_start),
                c.steep_sent ∙ sym d.steep_sent,
              ),
              c.flat_start ∙ sym d.flat_start,
            ),
            c.flat_sent ∙ sym d.flat_sent,
          ),
          ⊎_elim (λ x. least_one (c.eligible x) (d.eligible x)) (λ x. c.never x ∙ sym (d.never x)) timed,
        ),
        ⊎_elim (λ x. least_one (c.deadline x) (d.deadline x)) (λ x. c.no_deadline x ∙ sym (d.no_deadline x)) timed,
      )
      in
      each_below (λ f. at m i f ≡ at m' i f) COLUMNS (
        (
          ((((leaf-columns, e.sent ∙ sym g.sent), e.fair_start ∙ sym g.fair_start), e.fair_sent ∙ sym g.fair_sent), e.virtual ∙ sym g.virtual),
          e.mark ∙ sym g.mark,
        ),
        e.active ∙ sym g.active,
      )

  words_one : m ≡ m'
  words_one =
      cells_equal m m' s.size s'.size
      (λ i f room column.
      ⊎_elim
      (λ (q : h.tree.count ≤ i).
      ⊎_elim
      (λ (z : 1 ≤ f). s.blank i f q room z column ∙ sym (s'.blank i f q room z column))
      (λ (z : f < 1).
      let header : col.HEADER ≡ f = omega arith in
      subst (λ (x : ℕ). at m i x ≡ at m' i x) header (header_one i room))
      (le_or_lt 1 f))
      (λ (q : i < h.tree.count). row_one i q room f column)
      (le_or_lt h.tree.count i))

  -- every slot of a leaf is that of the head packet, or of one of those after it
  lengths_one : l ≡ l'
  lengths_one =
      ext_get_or 0 l l' (s.room ∙ sym s'.room)
      (λ n below.
      let size = s.room in
      let i = n / SLOTS in
      let room : i < CLASSES = omega arith in
      let first = head_number h.calls i in
      let k = (n % SLOTS + (SLOTS - first % SLOTS)) % SLOTS in
      let near : k < SLOTS = omega arith in
      let place : slot_of i (first + k) ≡ n = omega arith in
      let a = s.slots i room in
      let b = s'.slots i room in
      subst (λ (x : ℕ). get_or l x 0 ≡ get_or l' x 0) place
      (⊎_elim
      (λ (q : length (queue h.calls i) ≤ k). a.free k q near ∙ sym (b.free k q near))
      (λ (q : k < length (queue h.calls i)). a.waiting k q ∙ sym (b.waiting k q))
      (le_or_lt (length (queue h.calls i)) k)))

  pub shows_one : (m ≡ m') × (l ≡ l')
  shows_one = (words_one, lengths_one)
