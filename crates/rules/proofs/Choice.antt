-- The two rules choose one leaf, and where a packet waits they do choose one.
-- Assumes nothing.
use Rattle.std.proofs.Common.{◌≡◌, ℕ, zero, suc, ◌+◌, ◌<◌, ◌≤◌, true, false, ◌&&◌, ◌⊎◌, List, sym, refl, ◌∙◌, subst, inl, inr, ⊎_elim, le_antisymm, arith}
use Rattle.curve.proofs.Laws.Answers.{least_one}
use Rattle.curve.proofs.Laws.Order.{le_or_lt}
use Rattle.curve.proofs.Laws.Times.{deadline_exists, eligible_exists}
use Rattle.tree.specs.declared.Tree.{Tree}
use Rattle.tree.specs.Trees.{curve_of, is_child, is_leaf}
use Rattle.rules.specs.declared.Rule.{Rule}
use Rattle.rules.specs.declared.Rule.TheVariants.{RealTime, Fair}
use Rattle.rules.specs.Limits.{weigh}
use Rattle.rules.specs.Calls.{Call}
use Rattle.rules.specs.Queues.{waits, head_length}
use Rattle.rules.specs.Leaves.{pieces, sent_real_time}
use Rattle.rules.specs.Classes.{active}
use Rattle.rules.specs.Fair.{virtual_time_of}
use Rattle.rules.specs.Choice.{has_curve, First, Contends, ActiveChild, GoesDown, reached, down, Choice}
use Rattle.rules.specs.Lawful.{Grown, LawfulCalls}
use Rattle.rules.proofs.Tests.{never, decided, and_left, and_right}
use Rattle.rules.proofs.Over.{any_which, last_or_below}
use Rattle.rules.proofs.Trees.{leaf_class, child_class, child_parent, child_some, parent_lower, leaf_childless, within_top, curve_rising}
use Rattle.rules.proofs.Active.{active_of, interior_active}
use Rattle.rules.proofs.Queues.{waits_leaf}

-- At most one.

pub first_one : {Meant : ℕ → ℕ → Type 0} {j k x y : ℕ} → First Meant j x → First Meant k y → (j ≡ k) × (x ≡ y)
first_one {Meant} {j} {k} {x} {y} f g =
    let e : x ≡ y = le_antisymm (f.smallest k y g.meant) (g.smallest j x f.meant) in (
      le_antisymm
          (f.lowest k (subst (λ (z : ℕ). Meant k z) (sym e) g.meant))
          (g.lowest j (subst (λ (z : ℕ). Meant j z) e f.meant)),
      e,
    )

module _ (tree : Tree) (cs : List Call) where
  stops : (k i : ℕ) → GoesDown tree cs k i → is_leaf tree i ≡ true → i ≡ k
  stops k i (reached other) leaf = refl
  stops k i (down {k = c} first rest) leaf = never first.meant.child (leaf_childless tree i c leaf)

  pub goes_on : (k i c v : ℕ) → First (ActiveChild tree cs i) c v → GoesDown tree cs k i → GoesDown tree cs k c
  goes_on k i c v first (reached leaf) = never first.meant.child (leaf_childless tree i c leaf)
  goes_on k i c v first (down other rest) = subst (λ (z : ℕ). GoesDown tree cs k z) (first_one other first).0 rest

  pub goes_one : (j k i : ℕ) → GoesDown tree cs j i → GoesDown tree cs k i → j ≡ k
  goes_one j k i (reached leaf) g = stops k i g leaf
  goes_one j k i (down {k = c} {v = v} first rest) g = goes_one j k c rest (goes_on k i c v first g)

  pub choice_one : (now j k : ℕ) (r s : Rule) → Choice tree cs now j r → Choice tree cs now k s → (j ≡ k) × (r ≡ s)
  choice_one now j k RealTime RealTime c d = ((first_one c.first d.first).0, refl)
  choice_one now j k RealTime Fair c d = absurd (d.none j c.deadline c.first.meant)
  choice_one now j k Fair RealTime c d = absurd (c.none k d.deadline d.first.meant)
  choice_one now j k Fair Fair c d = (goes_one j k 0 c.goes_down d.goes_down, refl)

-- At least one: of finitely many classes with a value each, one is first.

module _ (Meant : ℕ → ℕ → Type 0) (decides : (k : ℕ) → ((x : ℕ) × Meant k x) ⊎ ((x : ℕ) → Meant k x → ⊥))
    (valued : (k x y : ℕ) → Meant k x → Meant k y → x ≡ y) where
  record FirstBelow (n j x : ℕ) : Type 0 where
    meant : Meant j x
    class : j < n
    smallest : (k y : ℕ) → k < n → Meant k y → x ≤ y
    lowest : (k : ℕ) → k < n → Meant k x → j ≤ k

  abbrev Searched : ℕ → Type 0
  Searched n = ((j : ℕ) × (x : ℕ) × FirstBelow n j x) ⊎ ((k x : ℕ) → k < n → Meant k x → ⊥)

  above : (n : ℕ) (Q : ℕ → Type 0) → Q n → ((k : ℕ) → k < n → Q k) → (k : ℕ) → k < suc n → Q k
  above n Q this below k l = ⊎_elim (λ (e : k ≡ n). subst Q (sym e) this) (λ (h : k < n). below k h) (last_or_below n k l)

  more : (n : ℕ) → Searched n → ((x : ℕ) × Meant n x) ⊎ ((x : ℕ) → Meant n x → ⊥) → Searched (suc n)
  more n (inl (j, x, f)) (inr none) =
      inl (
        j,
        x,
        record {
          meant = f.meant;
          class = omega (arith, f.class);
          smallest = λ k y l. above n (λ (k : ℕ). Meant k y → x ≤ y) (λ m. absurd (none y m)) (λ k h. f.smallest k y h) k l;
          lowest = λ k l. above n (λ (k : ℕ). Meant k x → j ≤ k) (λ m. absurd (none x m)) (λ k h. f.lowest k h) k l;
        },
      )
  more n (inr before) (inr none) = inr (λ k x l. above n (λ (k : ℕ). Meant k x → ⊥) (none x) (λ k h. before k x h) k l)
  more n (inr before) (inl (x, m)) =
      inl (
        n,
        x,
        record {
          meant = m;
          class = omega arith;
          smallest = λ k y l.
              above n (λ (k : ℕ). Meant k y → x ≤ y) (λ o. omega (arith, valued n x y m o)) (λ k h o. absurd (before k y h o)) k l;
          lowest = λ k l. above n (λ (k : ℕ). Meant k x → n ≤ k) (λ o. omega arith) (λ k h o. absurd (before k x h o)) k l;
        },
      )
  more n (inl (j, y, f)) (inl (x, m)) = ⊎_elim stays leads (le_or_lt y x)
    where
      stays : y ≤ x → Searched (suc n)
      stays h =
          inl (
            j,
            y,
            record {
              meant = f.meant;
              class = omega (arith, f.class);
              smallest = λ k z l.
                  above n (λ (k : ℕ). Meant k z → y ≤ z) (λ o. omega (arith, valued n x z m o)) (λ k h. f.smallest k z h) k l;
              lowest = λ k l. above n (λ (k : ℕ). Meant k y → j ≤ k) (λ o. omega (arith, f.class)) (λ k h. f.lowest k h) k l;
            },
          )

      leads : x < y → Searched (suc n)
      leads h =
          inl (
            n,
            x,
            record {
              meant = m;
              class = omega arith;
              smallest = λ k z l.
                  above n (λ (k : ℕ). Meant k z → x ≤ z) (λ o. omega (arith, valued n x z m o)) (λ k l o. omega (arith, f.smallest k z l o)) k l;
              lowest = λ k l.
                  above n (λ (k : ℕ). Meant k x → n ≤ k) (λ o. omega arith) (λ k l o. absurd (omega (arith, f.smallest k x l o))) k l;
            },
          )

  searched : (n : ℕ) → Searched n
  searched zero = inr (λ k x l m. omega arith)
  searched (suc n) = more n (searched n) (decides n)

  pub first_exists : (n : ℕ) → ((k x : ℕ) → Meant k x → k < n) → ((j : ℕ) × (x : ℕ) × First Meant j x) ⊎ ((k x : ℕ) → Meant k x → ⊥)
  first_exists n classes = go (searched n)
    where
      go : Searched n → ((j : ℕ) × (x : ℕ) × First Meant j x) ⊎ ((k x : ℕ) → Meant k x → ⊥)
      go (inl (j, x, f)) =
          inl (
            j,
            x,
            record {
              meant = f.meant;
              smallest = λ k y m. f.smallest k y (classes k y m) m;
              lowest = λ k m. f.lowest k (classes k x m) m;
            },
          )
      go (inr none) = inr (λ k x m. none k x (classes k x m) m)

module _ (tree : Tree) (grown : Grown tree) (cs : List Call) where
  contends_decided : (now k : ℕ) → ((d : ℕ) × Contends tree cs now k d) ⊎ ((d : ℕ) → Contends tree cs now k d → ⊥)
  contends_decided now k =
      ⊎_elim
      (λ (leaf : is_leaf tree k ≡ true).
      ⊎_elim
      (λ (waiting : waits cs k ≡ true).
      ⊎_elim (λ (curved : has_curve (curve_of tree k) ≡ true). timed leaf waiting curved)
      (λ (e : has_curve (curve_of tree k) ≡ false). inr (λ d c. never c.curved e)) (decided (has_curve (curve_of tree k))))
      (λ (e : waits cs k ≡ false). inr (λ d c. never c.waiting e)) (decided (waits cs k)))
      (λ (e : is_leaf tree k ≡ false). inr (λ d c. never c.leaf e)) (decided (is_leaf tree k))
    where
      timed : is_leaf tree k ≡ true → waits cs k ≡ true → has_curve (curve_of tree k) ≡ true
          → ((d : ℕ) × Contends tree cs now k d) ⊎ ((d : ℕ) → Contends tree cs now k d → ⊥)
      timed leaf waiting curved =
          let rising = curve_rising tree grown k (leaf_class tree k leaf) curved in
          let e = eligible_exists (curve_of tree k) rising (pieces cs k) (sent_real_time cs k) in
          let d = deadline_exists (curve_of tree k) rising (pieces cs k) (sent_real_time cs k + weigh (head_length cs k)) in
          ⊎_elim
          (λ (ripe : e.0 ≤ now).
          inl (
            d.0,
            record {
              leaf = leaf;
              waiting = waiting;
              curved = curved;
              eligible = e.0;
              is_eligible = e.1;
              ripe = ripe;
              is_deadline = d.1;
            },
          ))
          (λ (later : now < e.0). inr (λ d c. omega (arith, c.ripe, least_one e.1 c.is_eligible))) (le_or_lt e.0 now)

  child_decided : (i k : ℕ) → ((v : ℕ) × ActiveChild tree cs i k v) ⊎ ((v : ℕ) → ActiveChild tree cs i k v → ⊥)
  child_decided i k =
      ⊎_elim
      (λ (child : is_child tree i k ≡ true).
      ⊎_elim
      (λ (a : active tree cs k ≡ true). inl (virtual_time_of tree cs k, record { child = child; is_active = a; virtual = refl }))
      (λ (e : active tree cs k ≡ false). inr (λ v c. never c.is_active e)) (decided (active tree cs k)))
      (λ (e : is_child tree i k ≡ false). inr (λ v c. never c.child e)) (decided (is_child tree i k))

  -- the active child that the fair rule goes to
  child_exists : (i : ℕ) → LawfulCalls tree cs → is_leaf tree i ≡ false → active tree cs i ≡ true → (k : ℕ) × (v : ℕ) × First (ActiveChild tree cs i) k v
  child_exists i law inner a =
      let s = any_which tree.count (λ k. is_child tree i k && active tree cs k) (sym (interior_active tree grown cs law i inner) ∙ a) in
      ⊎_elim (λ found. found)
      (λ none.
      absurd
      (none s.0 (virtual_time_of tree cs s.0)
      (record { child = and_left (is_child tree i s.0) _ s.2; is_active = and_right (is_child tree i s.0) _ s.2; virtual = refl })))
      (first_exists (ActiveChild tree cs i) (child_decided i) (λ k x y c d. sym c.virtual ∙ d.virtual) tree.count (λ k x c. child_class tree i k c.child))

  -- each step goes to a higher number, so that it comes to a leaf
  goes_exists : LawfulCalls tree cs → (n i : ℕ) → tree.count ≤ i + n → i < tree.count → active tree cs i ≡ true → (j : ℕ) × GoesDown tree cs j i
  goes_exists law zero i enough below a = absurd (omega arith)
  goes_exists law (suc n) i enough below a =
      ⊎_elim (λ (leaf : is_leaf tree i ≡ true). (i, reached leaf))
      (λ (inner : is_leaf tree i ≡ false).
      let (k, v, first) = child_exists i law inner a in
      let child = first.meant.child in
      let class = child_class tree i k child in
      let higher = parent_lower tree grown k (child_some tree i k child) class in
      let (j, rest) = goes_exists law n k (omega (arith, child_parent tree i k child, higher)) class first.meant.is_active in
      (j, down first rest))
      (decided (is_leaf tree i))

  pub choice_exists : LawfulCalls tree cs → (now j : ℕ) → waits cs j ≡ true → (k : ℕ) × (r : Rule) × Choice tree cs now k r
  choice_exists law now j e =
      ⊎_elim
      (λ (found : (k : ℕ) × (d : ℕ) × First (Contends tree cs now) k d). (found.0, RealTime, record { deadline = found.1; first = found.2 }))
      (λ (none : (k d : ℕ) → Contends tree cs now k d → ⊥).
      let below = leaf_class tree j (waits_leaf tree cs law j e) in
      let a = active_of tree cs 0 j below (within_top tree grown j below) e in
      let (k, rest) = goes_exists law tree.count 0 (omega arith) (omega (arith, below)) a in
      (k, Fair, record { none = none; goes_down = rest }))
      (first_exists (Contends tree cs now) (contends_decided now) (λ k x y c d. least_one c.is_deadline d.is_deadline) tree.count
      (λ k x c. leaf_class tree k c.leaf))
