-- The ways up from two leaves: a walk finds their last common class, and there the choice's way down leaves the other leaf's ancestors.
-- Assumes nothing.
use Prim.Native.Nat.{ℕ, ◌<◌}
use mathlib.Core.Path.{◌≡◌, refl, sym, ◌∙◌, ap, subst}
use mathlib.Core.Bool.{true, false}
use mathlib.Core.List.{List}
use mathlib.Core.Logic.{◌⊎◌, inl, inr, ⊎_elim}
use native.Mathlib.Omega.{arith}
use Rattle.tree.specs.declared.Tree.{Tree}
use Rattle.tree.specs.Trees.{parent_of, is_child, is_leaf}
use Rattle.rules.specs.Calls.{Call}
use Rattle.rules.specs.Classes.{is_within}
use Rattle.rules.specs.Fair.{virtual_time_of}
use Rattle.rules.specs.Choice.{GoesDown, reached, down}
use Rattle.rules.specs.Lawful.{Grown}
use Rattle.rules.proofs.Tests.{never, decided, is_false}
use Rattle.rules.proofs.Choice.{first_one, goes_on}
use Rattle.rules.proofs.Trees.{leaf_class, a_child, within_cases, within_at_root, within_self, within_top, within_le, within_parent, within_split, within_leaf, within_one, upward}
use Rattle.state.proofs.Resting.{within_trans}
use Rattle.why.specs.Why.{LeavesWay, here, below, LastCommon}

module _ (tree : Tree) (grown : Grown tree) where
  -- The walk up from two leaves.

  -- the second way has not moved yet, or its last class is a child of the one it stands at, and not on the first leaf's way
  pub record Took (i chosen other child : ℕ) : Type 0 where
    pub below : is_child tree other child ≡ true
    pub taken : is_within tree child chosen ≡ true
    pub left : is_within tree child i ≡ false

  -- the first way stands at `class`, the second at `other`: every class common to both is still ahead
  pub record Going (i chosen class other child : ℕ) : Type 0 where
    pub mine : is_within tree class i ≡ true
    pub theirs : is_within tree other chosen ≡ true
    pub common : (d : ℕ) → is_within tree d i ≡ true → is_within tree d chosen ≡ true → (is_within tree d class ≡ true) × (is_within tree d other ≡ true)
    pub took : (other ≡ chosen) ⊎ Took i chosen other child

  pub going_none : (i chosen : ℕ) → Going i chosen i chosen chosen
  going_none i chosen = record { mine = within_self tree grown i; theirs = within_self tree grown chosen; common = λ d a b. (a, b); took = inl refl }

  module _ {i chosen class other child : ℕ} (small : i < tree.count) (small' : chosen < tree.count) (g : Going i chosen class other child) where
    pub going_class : class < tree.count
    going_class = omega (arith, within_le tree grown class i small g.mine)

    pub going_other : other < tree.count
    going_other = omega (arith, within_le tree grown other chosen small' g.theirs)

    -- a class that is common lies at or above both, so that neither way passes it
    pub going_up : other < class → Going i chosen (parent_of tree class) other child
    going_up l =
        record {
          mine = within_parent tree grown (parent_of tree class) class i (a_child tree class (omega arith) going_class) small g.mine;
          theirs = g.theirs;
          common = λ d a b.
              let (up, over) = g.common d a b in (
                ⊎_elim (λ (e : class ≡ d). absurd (omega (arith, within_le tree grown d other going_other over))) (λ (h : is_within tree d (parent_of tree class) ≡ true). h)
                    (within_cases tree grown d class (omega arith) going_class up),
                over,
              );
          took = g.took;
        }

    pub going_over : class < other → Going i chosen class (parent_of tree other) other
    going_over l =
        let born = a_child tree other (omega arith) going_other in
        record {
          mine = g.mine;
          theirs = within_parent tree grown (parent_of tree other) other chosen born small' g.theirs;
          common = λ d a b.
              let (up, over) = g.common d a b in (
                up,
                ⊎_elim (λ (e : other ≡ d). absurd (omega (arith, within_le tree grown d class going_class up))) (λ (h : is_within tree d (parent_of tree other) ≡ true). h)
                    (within_cases tree grown d other (omega arith) going_other over),
              );
          took =
              inr
              (record {
                below = born;
                taken = g.theirs;
                left = is_false (is_within tree other i) (λ w. omega (arith, within_le tree grown other class going_class (g.common other w g.theirs).0));
              });
        }

    -- where they meet, the second way has moved: a leaf lies above no other leaf
    pub going_met : is_leaf tree chosen ≡ true → (i ≡ chosen → ⊥) → class ≡ other → LastCommon tree i chosen class child
    going_met leaf apart e = go g.took
      where
        go : (other ≡ chosen) ⊎ Took i chosen other child → LastCommon tree i chosen class child
        go (inl q) = absurd (apart (sym (within_leaf tree grown chosen i leaf small (subst (λ (x : ℕ). is_within tree x i ≡ true) (e ∙ q) g.mine))))
        go (inr t) =
            record {
              leafs = g.mine;
              choices = subst (λ (x : ℕ). is_within tree x chosen ≡ true) (sym e) g.theirs;
              last = λ d a b. (g.common d a b).0;
              below = subst (λ (x : ℕ). is_child tree x child ≡ true) (sym e) t.below;
              taken = t.taken;
              left = t.left;
            }

  -- The choice's way down.

  module _ (cs : List Call) where
    goes_within : (j p : ℕ) → GoesDown tree cs j p → j < tree.count → is_within tree p j ≡ true
    goes_within j p (reached leaf) small = within_self tree grown j
    goes_within j p (down {k = k} first rest) small = within_parent tree grown p k j first.meant.child small (goes_within j k rest small)

    -- a leaf that the choice reaches is never left
    pub reached_stays : (i p class child time : ℕ) → i < tree.count → GoesDown tree cs i p → LeavesWay tree cs i p class child time → ⊥
    reached_stays i p class child time small goes (here {k = k} {v = v} first left) = never (goes_within i k (goes_on tree cs i p k v first goes) small) left
    reached_stays i p class child time small goes (below {k = k} {v = v} first within rest) =
        reached_stays i k class child time small (goes_on tree cs i p k v first goes) rest

    -- it leaves another leaf's ancestors at one class, for one child
    pub leaves_one : (i p a b u c d v : ℕ) → LeavesWay tree cs i p a b u → LeavesWay tree cs i p c d v → (a ≡ c) × (b ≡ d) × (u ≡ v)
    leaves_one i p a b u c d v (here f e) (here g h) = (refl, (first_one f g).0, (first_one f g).1)
    leaves_one i p a b u c d v (here f e) (below g h rest) = never h (subst (λ (x : ℕ). is_within tree x i ≡ false) (first_one f g).0 e)
    leaves_one i p a b u c d v (below f e rest) (here g h) = never e (subst (λ (x : ℕ). is_within tree x i ≡ false) (first_one g f).0 h)
    leaves_one i p a b u c d v (below {k = k} f e rest) (below g h other) =
        leaves_one i k a b u c d v rest (subst (λ (x : ℕ). LeavesWay tree cs i x c d v) (first_one g f).0 other)

    module _ (i chosen : ℕ) (leaf : is_leaf tree chosen ≡ true) (small : i < tree.count) (apart : i ≡ chosen → ⊥) where
      chosen_small : chosen < tree.count
      chosen_small = leaf_class tree chosen leaf

      not_above : is_within tree chosen i ≡ true → ⊥
      not_above w = apart (sym (within_leaf tree grown chosen i leaf small w))

      -- and where the choice is another leaf, it does leave them
      leaves_from : (p : ℕ) → GoesDown tree cs chosen p → is_within tree p i ≡ true → (class : ℕ) × (child : ℕ) × (time : ℕ) × LeavesWay tree cs i p class child time
      leaves_from p (reached l) w = absurd (not_above w)
      leaves_from p (down {k = k} {v = v} first rest) w =
          ⊎_elim
          (λ (e : is_within tree k i ≡ true). let (class, child, time, on) = leaves_from k rest e in (class, child, time, below first e on))
          (λ (e : is_within tree k i ≡ false). (p, k, v, here first e)) (decided (is_within tree k i))

      pub leaves_some : GoesDown tree cs chosen 0 → (class : ℕ) × (child : ℕ) × (time : ℕ) × LeavesWay tree cs i 0 class child time
      leaves_some goes = leaves_from 0 goes (within_top tree grown i small)

      -- that is at the last class common to both ways
      module _ (p k : ℕ) (first : is_child tree p k ≡ true) (taken : is_within tree k chosen ≡ true) (left : is_within tree k i ≡ false) where
        -- a class common to both ways does not lie below p, since it would lie in k
        pub not_below : (d : ℕ) → is_within tree d i ≡ true → is_within tree d chosen ≡ true → is_within tree p d ≡ true → p ≡ d
        not_below d a b w =
            ⊎_elim (λ (e : p ≡ d). e)
            (λ (s : (l : ℕ) × (is_child tree p l ≡ true) × (is_within tree l d ≡ true)).
            let lies : k ≡ s.0 = within_one tree grown p k s.0 chosen first s.1 chosen_small taken (within_trans tree grown s.0 d chosen s.2 chosen_small b) in
            never (within_trans tree grown k d i (subst (λ (x : ℕ). is_within tree x d ≡ true) (sym lies) s.2) small a) left)
            (within_split tree grown p d (omega (arith, within_le tree grown d i small a)) w)

      pub common_leaves : (p class child : ℕ) → LastCommon tree i chosen class child → GoesDown tree cs chosen p → is_within tree p i ≡ true
          → LeavesWay tree cs i p class child (virtual_time_of tree cs child)
      common_leaves p class child c (reached l) w = absurd (not_above w)
      common_leaves p class child c (down {k = k} {v = v} first rest) w =
          ⊎_elim
          (λ (e : is_within tree k i ≡ true). below first e (common_leaves k class child c rest e))
          (λ (e : is_within tree k i ≡ false).
          let taken = goes_within chosen k rest chosen_small in
          let born = first.meant.child in
          let isClass : p ≡ class = not_below p k born taken e class c.leafs c.choices (c.last p w (within_parent tree grown p k chosen born chosen_small taken)) in
          let isSame : k ≡ child =
          within_one tree grown p k child chosen born (subst (λ (x : ℕ). is_child tree x child ≡ true) (sym isClass) c.below) chosen_small taken c.taken
          in
          let is_time : v ≡ virtual_time_of tree cs child = sym first.meant.virtual ∙ ap (virtual_time_of tree cs) isSame in
          subst (λ (x : ℕ). LeavesWay tree cs i p x child (virtual_time_of tree cs child)) isClass
          (subst (λ (x : ℕ). LeavesWay tree cs i p p x (virtual_time_of tree cs child)) isSame (subst (λ (x : ℕ). LeavesWay tree cs i p p k x) is_time (here first e))))
          (decided (is_within tree k i))

      -- of two classes on one way up, one lies at or above the other
      one_way : (d p j : ℕ) → j < tree.count → is_within tree d j ≡ true → is_within tree p j ≡ true → (is_within tree d p ≡ true) ⊎ (is_within tree p d ≡ true)
      one_way d p =
          upward tree grown (λ (j : ℕ). is_within tree d j ≡ true → is_within tree p j ≡ true → (is_within tree d p ≡ true) ⊎ (is_within tree p d ≡ true))
          (λ a b. inl (subst (λ (x : ℕ). is_within tree d x ≡ true) (sym (within_at_root tree grown p b)) a))
          (λ j some below up a b.
          ⊎_elim (λ (e : j ≡ d). inr (subst (λ (x : ℕ). is_within tree p x ≡ true) e b))
          (λ (a' : is_within tree d (parent_of tree j) ≡ true).
          ⊎_elim (λ (e : j ≡ p). inl (subst (λ (x : ℕ). is_within tree d x ≡ true) e a)) (λ (b' : is_within tree p (parent_of tree j) ≡ true). up a' b')
          (within_cases tree grown p j some below b))
          (within_cases tree grown d j some below a))

      pub leaves_common : (p class child time : ℕ) → LeavesWay tree cs i p class child time → GoesDown tree cs chosen p → is_within tree p i ≡ true → LastCommon tree i chosen class child
      leaves_common p class child time (here {k = k} {v = v} first left) goes w =
          let born = first.meant.child in
          let taken = goes_within chosen k (goes_on tree cs chosen p k v first goes) chosen_small in
          record {
            leafs = w;
            choices = goes_within chosen p goes chosen_small;
            last = λ d a b.
                ⊎_elim (λ (h : is_within tree d p ≡ true). h)
                (λ (h : is_within tree p d ≡ true). subst (λ (x : ℕ). is_within tree x p ≡ true) (not_below p k born taken left d a b h) (within_self tree grown p))
                (one_way d p i small a w);
            below = born;
            taken = taken;
            left = left;
          }
      leaves_common p class child time (below {k = k} {v = v} first within rest) goes w =
          leaves_common k class child time rest (goes_on tree cs chosen p k v first goes) within
