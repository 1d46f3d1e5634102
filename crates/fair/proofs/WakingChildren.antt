-- The children of a class, met one after another by their columns: what a walk over them has gathered, and what the parent's mark is held against.
-- Assumes nothing.
use Prim.Native.Nat.{ℕ, zero, suc, ◌+◌, ◌-◌, ◌/◌, ◌%◌, ◌^◌, ◌≤◌, ◌<◌, min}
use native.Mathlib.Omega.{arith}
use mathlib.Core.Path.{◌≡◌, refl, sym, ◌∙◌, ap, subst}
use mathlib.Core.Bool.{true, false}
use mathlib.Core.List.{List}
use mathlib.Core.Logic.{◌⊎◌, inl, inr, ⊎_elim}
use Rattle.curve.proofs.Laws.Order.{le_or_lt}
use Rattle.curve.specs.declared.Piece.{Piece}
use Rattle.curve.specs.Keeping.{most_start, lower_of}
use Rattle.curve.proofs.Laws.Kept.{lower_either}
use Rattle.tree.specs.declared.Tree.{Tree}
use Rattle.tree.specs.Trees.{is_child}
use Rattle.rules.specs.Over.{any_of, largest_of, smallest_of}
use Rattle.rules.proofs.Tests.{decided, and_left, by_cond, cond_yes, cond_no}
use Rattle.rules.proofs.Over.{any_which, largest_most, smallest_most}
use Rattle.rules.proofs.Trees.{child_class, child_some}
use Rattle.fair.specs.declared.Spread.{Spread}
use Rattle.state.specs.Heads.{Some}
use Rattle.state.specs.Table.{at, CLASSES}
use Rattle.state.specs.Columns.{CHILD, SIBLING, VIRTUAL, LARGEST}
use Rattle.fair.specs.StepsWaking.{other_in, others_in, spread_with, spread_below, met_in, Family}
use Rattle.state.proofs.Chain.{NextChild, FoundChild, NoChild, first_child_lem, next_sibling_lem}

small : (v : ℕ) → v ≤ most_start → min v (LARGEST) ≡ v
small v h = omega arith

module _ (m : List ℕ) (tree : Tree) (p i : ℕ) where
  -- a class that is no child adds nothing
  spread_over : (k : ℕ) → is_child tree p k ≡ false → spread_below m tree p i (suc k) ≡ spread_below m tree p i k
  unfolding spread_below any_of largest_of smallest_of
  spread_over k e = rw e refl

  -- a child adds its virtual time
  spread_child : (k : ℕ) → is_child tree p k ≡ true → at m k VIRTUAL ≤ most_start
      → spread_with (spread_below m tree p i k) (at m k VIRTUAL) (other_in m i k) ≡ spread_below m tree p i (suc k)
  unfolding spread_below any_of largest_of smallest_of
  spread_child k e soon =
      ⊎_elim
      (λ (q : other_in m i k ≡ true).
      ⊎_elim
      (λ (a : any_of k (λ k. others_in m tree p i k) ≡ true). rw (e, q, a) refl)
      (λ (a : any_of k (λ k. others_in m tree p i k) ≡ false). rw (e, q, a, small (at m k VIRTUAL) soon) refl)
      (decided (any_of k (λ k. others_in m tree p i k))))
      (λ (q : other_in m i k ≡ false). rw (e, q) refl)
      (decided (other_in m i k))

  spread_skip : (a n : ℕ) → a ≤ n → ((k : ℕ) → a ≤ k → k < n → is_child tree p k ≡ false) → spread_below m tree p i a ≡ spread_below m tree p i n
  spread_skip a zero l none = ap (spread_below m tree p i) (omega arith)
  spread_skip a (suc n) l none =
      ⊎_elim
      (λ (h : a ≤ n). spread_skip a n h (λ k b c. none k b (omega arith)) ∙ sym (spread_over n (none n h (omega arith))))
      (λ (h : n < a). ap (spread_below m tree p i) (omega arith)) (le_or_lt a n)

  pub spread_none : spread_below m tree p i 0 ≡ record { any = false; low = LARGEST; high = 0; last = 0 }
  unfolding spread_below any_of largest_of smallest_of
  spread_none = refl

  -- at child c the children before it are gathered; at 0, past the last child, all are
  abbrev pub Gathered : Spread → ℕ → Type 0
  Gathered s c = ((is_child tree p c ≡ true) × (s ≡ spread_below m tree p i c)) ⊎ ((c ≡ 0) × (s ≡ spread_below m tree p i tree.count))

  gathered_next : (s : Spread) (a c : ℕ) → a ≤ tree.count → s ≡ spread_below m tree p i a → NextChild tree p a c → Gathered s c
  gathered_next s a c l e (inl f) = inl (f.child, e ∙ spread_skip a c f.after f.between)
  gathered_next s a c l e (inr f) = inr (f.zero, e ∙ spread_skip a tree.count l (λ k b h. f.none k b))

  module _ (family : Family m tree p) where
    pub gathered_first : (s : Spread) (c : ℕ) → s ≡ record { any = false; low = LARGEST; high = 0; last = 0 } → c ≡ at m p CHILD → Gathered s c
    gathered_first s c e q =
        gathered_next s 0 c (omega arith) (e ∙ sym spread_none)
        (subst (NextChild tree p 0) (sym (q ∙ (family.trees p family.class).child)) (first_child_lem tree p))

    pub gathered_child : (s : Spread) (c : ℕ) → (c ≡ 0 → ⊥) → Gathered s c → is_child tree p c ≡ true
    gathered_child s c some (inl h) = h.0
    gathered_child s c some (inr h) = absurd (some h.0)

    -- the next child has a greater number, or there is none
    next_child : (c d : ℕ) → is_child tree p c ≡ true → d ≡ at m c SIBLING → NextChild tree p (suc c) d
    next_child c d child q =
        subst (NextChild tree p (suc c)) (sym (q ∙ (family.trees c (child_class tree p c child)).sibling)) (next_sibling_lem tree p c child)

    pub gathered_more : (s : Spread) (c d : ℕ) → (c ≡ 0 → ⊥) → Gathered s c → d ≡ at m c SIBLING
        → (r : Spread) → r ≡ spread_with s (at m c VIRTUAL) (other_in m i c) → Gathered r d
    gathered_more s c d some (inr h) q r e = absurd (some h.0)
    gathered_more s c d some (inl h) q r e =
        gathered_next r (suc c) d (omega (arith, child_class tree p c h.0))
        (e ∙ ap (λ (x : Spread). spread_with x (at m c VIRTUAL) (other_in m i c)) h.1 ∙ spread_child c h.0 (family.soon c h.0))
        (next_child c d h.0 q)

    pub gathered_falls : (c d : ℕ) → is_child tree p c ≡ true → d ≡ at m c SIBLING → (CLASSES - d) % CLASSES < (CLASSES - c) % CLASSES
    gathered_falls c d child q =
        ⊎_elim
        (λ (f : FoundChild tree p (suc c) d).
        omega (arith, f.after, child_class tree p d f.child, child_some tree p c child, family.right.shape.count.below))
        (λ (f : NoChild tree p (suc c) d).
        omega (arith, f.zero, child_class tree p c child, child_some tree p c child, family.right.shape.count.below))
        (next_child c d child q)

    pub gathered_all : (s : Spread) (c : ℕ) → c ≡ 0 → Gathered s c → s ≡ spread_below m tree p i tree.count
    gathered_all s c e (inl h) = absurd (omega (arith, child_some tree p c h.0))
    gathered_all s c e (inr h) = h.1

    -- the smallest and the largest are not beyond what the children have
    pub low_soon : any_of tree.count (λ k. others_in m tree p i k) ≡ true
        → smallest_of tree.count (λ k. others_in m tree p i k) (λ k. at m k VIRTUAL) ≤ most_start
    low_soon e =
        let r = any_which tree.count (λ k. others_in m tree p i k) e in
        omega (
          arith,
          smallest_most tree.count (λ k. others_in m tree p i k) (λ k. at m k VIRTUAL) r.0 r.1 r.2,
          family.soon r.0 (and_left (is_child tree p r.0) _ r.2),
        )

    pub high_soon : largest_of tree.count (λ k. others_in m tree p i k) (λ k. at m k VIRTUAL) ≤ most_start
    high_soon =
        largest_most tree.count (λ k. others_in m tree p i k) (λ k. at m k VIRTUAL) most_start
        (λ k l e. family.soon k (and_left (is_child tree p k) _ e))

    last_soon : largest_of tree.count (λ k. is_child tree p k) (λ k. at m k VIRTUAL) ≤ most_start
    last_soon = largest_most tree.count (λ k. is_child tree p k) (λ k. at m k VIRTUAL) most_start (λ k l e. family.soon k e)

    pub met_soon : met_in m tree p i ≤ most_start
    unfolding met_in
    met_soon =
        by_cond (λ (x : ℕ). x ≤ most_start) (any_of tree.count (λ k. others_in m tree p i k)) (λ e. omega (arith, low_soon e, high_soon)) (λ e. last_soon)

    -- what the walk gathered is what the children give the mark, and its sum has room
    pub met_sum : (s : Spread) → s ≡ spread_below m tree p i tree.count → s.any ≡ true → s.low + s.high < 2 ^ 64
    unfolding spread_below
    met_sum s e a =
        let some : any_of tree.count (λ k. others_in m tree p i k) ≡ true = sym (ap (λ (x : Spread). x.any) e) ∙ a in
        omega (
          arith,
          ap (λ (x : Spread). x.low) e ∙ cond_yes _ _ some,
          ap (λ (x : Spread). x.high) e,
          low_soon some,
          high_soon,
        )

    pub met_some : (s : Spread) → s ≡ spread_below m tree p i tree.count → s.any ≡ true → (s.low + s.high) / 2 ≡ met_in m tree p i
    unfolding spread_below met_in
    met_some s e a =
        let some : any_of tree.count (λ k. others_in m tree p i k) ≡ true = sym (ap (λ (x : Spread). x.any) e) ∙ a in
        rw (ap (λ (x : Spread). x.low) e ∙ cond_yes _ _ some, ap (λ (x : Spread). x.high) e, some) refl

    pub met_none : (s : Spread) → s ≡ spread_below m tree p i tree.count → s.any ≡ false → s.last ≡ met_in m tree p i
    unfolding spread_below met_in
    met_none s e a =
        let none : any_of tree.count (λ k. others_in m tree p i k) ≡ false = sym (ap (λ (x : Spread). x.any) e) ∙ a in
        ap (λ (x : Spread). x.last) e ∙ sym (cond_no _ _ none)

-- what the walk's invariant tells of the child that it has come to
module _ (m : List ℕ) (p i : ℕ) (s : Spread) (c : ℕ) (has : Some (λ (tree : Tree). Family m tree p))
    (walk : (tree : Tree) → Family m tree p → Gathered m tree p i s c) (some : c ≡ 0 → ⊥) where
  come_to : is_child has.it p c ≡ true
  come_to = gathered_child m has.it p i has.holds s c some (walk has.it has.holds)

  pub walk_narrow : c < CLASSES
  walk_narrow = omega (arith, child_class has.it p c come_to, has.holds.right.shape.count.below)

  pub walk_falls : (d : ℕ) → d ≡ at m c SIBLING → (CLASSES - d) % CLASSES < (CLASSES - c) % CLASSES
  walk_falls d q = gathered_falls m has.it p i has.holds c d come_to q

-- the lower of two pieces starts where one of them does
pub lower_start : (share : ℕ) (old new : Piece) (most : ℕ) → old.start ≤ most → new.start ≤ most → (lower_of share old new).start ≤ most
lower_start share old new most l h = lower_either (λ p. p.start ≤ most) share old new l h
