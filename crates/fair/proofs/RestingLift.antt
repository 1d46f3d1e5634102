-- The steps by which counts and virtual times are brought up after a departure: from a class to its parent, up to the root; and what the table then
-- shows of the longer history.
-- Assumes nothing.
use Prim.Native.Nat.{ℕ, ◌+◌, ◌≤◌, ◌<◌}
use native.Mathlib.Omega.{arith}
use mathlib.Core.Path.{◌≡◌, sym, ◌∙◌, ap, subst}
use mathlib.Core.Logic.{◌⊎◌, ⊎_elim}
use mathlib.Core.Bool.{true, false}
use mathlib.Core.List.{List, ◌∷◌}
use lib.ListN.{length}
use Rattle.curve.specs.Answers.{Least}
use Rattle.curve.specs.Curves.{RightRate}
use Rattle.curve.specs.Keeping.{most_bytes, lowest, Stands}
use Rattle.curve.specs.declared.Curve.TheVariants.{Straight}
use Rattle.curve.specs.declared.Piece.{Piece}
use Rattle.tree.specs.declared.Tree.{Tree}
use Rattle.tree.specs.Trees.{parent_of, share_of, is_child}
use Rattle.rules.specs.declared.Rule.{Rule}
use Rattle.rules.specs.Calls.{Call, left}
use Rattle.rules.specs.Queues.{head_length}
use Rattle.rules.specs.Classes.{is_within, sent}
use Rattle.rules.specs.Fair.{fair_pieces, virtual_time, virtual_time_of}
use Rattle.rules.specs.Lawful.{Grown, right}
use Rattle.rules.proofs.Tests.{never, decided, is_false}
use Rattle.rules.proofs.Trees.{leaf_class, a_child, parent_lower, within_up, within_cases, within_at_root, within_self, within_le, within_parent}
use Rattle.rules.proofs.Queues.{waits_leaf, head_length_lem}
use Rattle.rules.proofs.Sent.{weigh_small, w_most}
use Rattle.rules.proofs.Fair.{sent_left, sent_left_other}
use Rattle.state.specs.Table.{at, with, CLASSES, CELLS}
use Rattle.state.specs.Columns.{PARENT, SHARE, SENT, FAIR_START, FAIR_SENT, VIRTUAL, MARK, ACTIVE, fair_from}
use Rattle.state.specs.State.{ShowsFair, activity, fair_kept}
use Rattle.fair.specs.Steps.{BeforeRaise, AfterRaise}
use Rattle.fair.specs.StepsWaking.{Raises, VirtualStored}
use Rattle.fair.specs.StepsResting.{BeforeLifting, AfterLifting}
use Rattle.state.proofs.Cells.{length_with, at_with_same, at_with_class, at_with_column}
use Rattle.fair.proofs.RestingSteps.{planted_with}
use Rattle.fair.proofs.RestingFair.{pieces_left, mark_left, root_virtual, share_right, kept_start_most, virtual_after}

-- what is known of a class whose leaf's head has left, and of its parent
module _ {m : List ℕ} {tree : Tree} {cs : List Call} {j bytes i : ℕ} (b : BeforeLifting m tree cs j bytes i) where
  grown : Grown tree
  grown = right b.planted.right

  leaf_below : j < tree.count
  leaf_below = leaf_class tree j (waits_leaf tree cs b.planted.lawful j b.waiting)

  pub lifting_class : i < tree.count
  lifting_class = omega (arith, within_le tree grown i j leaf_below b.line, leaf_below)

  pub lifting_narrow : i < CLASSES
  lifting_narrow = omega (arith, lifting_class, b.planted.right.shape.count.below)

  self : is_within tree i i ≡ true
  self = within_self tree grown i

  pub lifting_sum : at m i SENT + bytes ≤ most_bytes
  lifting_sum =
      omega (
        arith,
        b.sents i self,
        w_most tree grown cs b.planted.lawful i,
        b.head,
        weigh_small (head_length cs j) (head_length_lem tree cs b.planted.lawful j b.waiting).1,
      )

  abbrev m₁ : List ℕ
  m₁ = with m i SENT (at m i SENT + bytes)

  -- the stores before a column is looked at
  sum_there : at m₁ i SENT ≡ at m i SENT + bytes
  sum_there = at_with_same m i SENT (at m i SENT + bytes) b.planted.size lifting_narrow (omega arith)

  sum_column : (k f : ℕ) → k < CLASSES → (f ≡ SENT → ⊥) → at m₁ k f ≡ at m k f
  sum_column k f l other = at_with_column m i SENT (at m i SENT + bytes) k f lifting_narrow l other

  sum_class : (k f : ℕ) → k < CLASSES → (k ≡ i → ⊥) → at m₁ k f ≡ at m k f
  sum_class k f l other = at_with_class m i SENT (at m i SENT + bytes) k f lifting_narrow l other

  sum_size : length m₁ ≡ CELLS
  sum_size = length_with m i SENT (at m i SENT + bytes) ∙ b.planted.size

  sum_after : (t : ℕ) (r : Rule) → at m i SENT + bytes ≡ sent tree (left t j r ∷ cs) i
  sum_after t r = omega (arith, b.sents i self, b.head, sent_left tree t j r cs i b.line)

  -- the root is the last
  pub lifted_root : i ≡ 0 → AfterLifting m (with m i SENT (at m i SENT + bytes)) tree cs j i
  lifted_root isRoot =
      record {
        size = sum_size;
        sents = λ t r k e.
            subst (λ (x : ℕ). at m₁ x SENT ≡ sent tree (left t j r ∷ cs) x) (sym (root k e)) (sum_there ∙ sum_after t r);
        virtuals = λ t r k e.
            subst (λ (x : ℕ). at m₁ x VIRTUAL ≡ virtual_time_of tree (left t j r ∷ cs) x) (sym (root k e ∙ isRoot))
            (sum_column 0 VIRTUAL (omega arith) (λ q. omega (arith, q)) ∙ b.root ∙ sym (root_virtual tree (left t j r ∷ cs)));
        elsewhere = λ k f l e. sum_class k f l (λ (q : k ≡ i). never (subst (λ (x : ℕ). is_within tree x i ≡ true) (sym q) self) e);
        others = λ k f l other other'. sum_column k f l other;
      }
    where
      root : (k : ℕ) → is_within tree k i ≡ true → k ≡ i
      root k e = within_at_root tree grown k (subst (λ (x : ℕ). is_within tree k x ≡ true) isRoot e) ∙ sym isRoot

  module _ (some : 0 < i) where
    share_there : at m₁ i SHARE ≡ share_of tree i
    share_there = sum_column i SHARE lifting_narrow (λ q. omega (arith, q)) ∙ (b.planted.trees i lifting_class).share

    rate : RightRate (share_of tree i)
    rate = share_right tree b.planted.right i some lifting_class

    start_there : at m₁ i FAIR_START ≡ (fair_kept tree cs i).start
    start_there = sum_column i FAIR_START lifting_narrow (λ q. omega (arith, q)) ∙ b.starts i self

    sent_there : at m₁ i FAIR_SENT ≡ (fair_kept tree cs i).sent
    sent_there = sum_column i FAIR_SENT lifting_narrow (λ q. omega (arith, q)) ∙ b.fair_sents i self

    pub lifting_raises : Raises (with m i SENT (at m i SENT + bytes)) i
    lifting_raises =
        record {
          class = lifting_narrow;
          share = subst (λ (x : ℕ). RightRate x) (sym share_there) rate;
          sent = omega (arith, sum_there, lifting_sum);
          start = omega (arith, start_there, kept_start_most tree grown cs b.planted.lawful i some lifting_class);
        }

    pub lifting_parent : {m₂ : List ℕ} → VirtualStored (with m i SENT (at m i SENT + bytes)) m₂ i → at m₂ i PARENT ≡ parent_of tree i
    lifting_parent {m₂} v =
        rw v.stored
        (at_with_column m₁ i VIRTUAL v.time i PARENT lifting_narrow lifting_narrow (λ q. omega (arith, q))
        ∙ sum_column i PARENT lifting_narrow (λ q. omega (arith, q))
        ∙ (b.planted.trees i lifting_class).parent)

    module _ {m₂ : List ℕ} (v : VirtualStored (with m i SENT (at m i SENT + bytes)) m₂ i) (p : ℕ) (isParent : p ≡ at m₂ i PARENT) where
      parent_is : p ≡ parent_of tree i
      parent_is = isParent ∙ lifting_parent v

      pub lifting_falls : p < i
      lifting_falls = omega (arith, parent_is, parent_lower tree grown i some lifting_class)

      p_class : p < tree.count
      p_class = omega (arith, lifting_falls, lifting_class)

      p_narrow : p < CLASSES
      p_narrow = omega (arith, lifting_falls, lifting_narrow)

      child : is_child tree p i ≡ true
      child = subst (λ (x : ℕ). is_child tree x i ≡ true) (sym parent_is) (a_child tree i some lifting_class)

      p_cases : (k : ℕ) → is_within tree k i ≡ true → (i ≡ k) ⊎ (is_within tree k p ≡ true)
      p_cases k e =
          subst (λ (x : ℕ). (i ≡ k) ⊎ (is_within tree k x ≡ true)) (sym parent_is) (within_cases tree grown k i some lifting_class e)

      p_more : (k : ℕ) → is_within tree k p ≡ true → is_within tree k i ≡ true
      p_more k e = within_up tree grown k i some lifting_class (subst (λ (x : ℕ). is_within tree k x ≡ true) parent_is e)

      p_lower : (k : ℕ) → is_within tree k p ≡ true → k < i
      p_lower k e = omega (arith, within_le tree grown k p p_class e, lifting_falls)

      not_p : is_within tree i p ≡ false
      not_p = is_false (is_within tree i p) (λ e. omega (arith, p_lower i e))

      -- the two stores
      column : (k f : ℕ) → k < CLASSES → (f ≡ SENT → ⊥) → (f ≡ VIRTUAL → ⊥) → at m₂ k f ≡ at m k f
      column k f l other other' = rw v.stored (at_with_column m₁ i VIRTUAL v.time k f lifting_narrow l other' ∙ sum_column k f l other)

      class : (k f : ℕ) → k < CLASSES → (k ≡ i → ⊥) → at m₂ k f ≡ at m k f
      class k f l other = rw v.stored (at_with_class m₁ i VIRTUAL v.time k f lifting_narrow l other ∙ sum_class k f l other)

      stored_sent : at m₂ i SENT ≡ at m i SENT + bytes
      stored_sent = rw v.stored (at_with_column m₁ i VIRTUAL v.time i SENT lifting_narrow lifting_narrow (λ q. omega (arith, q)) ∙ sum_there)

      stored_virtual : at m₂ i VIRTUAL ≡ v.time
      stored_virtual = rw v.stored (at_with_same m₁ i VIRTUAL v.time sum_size lifting_narrow (omega arith))

      time_after : (t : ℕ) (r : Rule) → v.time ≡ virtual_time_of tree (left t j r ∷ cs) i
      time_after t r =
          virtual_after tree grown cs b.planted.lawful j b.waiting i some lifting_class b.line rate t r v.time
          (asked share_there start_there sent_there (sum_there ∙ sum_after t r) v.is_time)
        where
          asked : {s s' x x' y y' w w' : ℕ} → s ≡ s' → x ≡ x' → y ≡ y' → w ≡ w'
              → Least (Stands (Straight s) (record { start = x; sent = y }) w) v.time
              → Least (Stands (Straight s') (record { start = x'; sent = y' }) w') v.time
          asked e₁ e₂ e₃ e₄ h = rw e₁ at (rw e₂ at (rw e₃ at (rw e₄ at h)))

      pub lifting_on : BeforeLifting m₂ tree cs j bytes p
      lifting_on =
          record {
            planted = rw v.stored (planted_with i VIRTUAL v.time lifting_narrow (omega arith) (planted_with i SENT (at m i SENT + bytes) lifting_narrow (omega arith) b.planted));
            waiting = b.waiting;
            head = b.head;
            line = within_parent tree grown p i j child leaf_below b.line;
            sents = λ k e. old k SENT e ∙ b.sents k (p_more k e);
            starts = λ k e. old k FAIR_START e ∙ b.starts k (p_more k e);
            fair_sents = λ k e. old k FAIR_SENT e ∙ b.fair_sents k (p_more k e);
            root = class 0 VIRTUAL (omega arith) (λ q. omega arith) ∙ b.root;
          }
        where
          old : (k f : ℕ) → is_within tree k p ≡ true → at m₂ k f ≡ at m k f
          old k f e = class k f (omega (arith, p_lower k e, lifting_narrow)) (λ q. omega (arith, p_lower k e))

      pub lifted_on : {m' : List ℕ} → AfterLifting m₂ m' tree cs j p → AfterLifting m m' tree cs j i
      lifted_on {m'} a =
          record {
            size = a.size;
            sents = λ t r k e.
                ⊎_elim
                (λ (q : i ≡ k).
                subst (λ (x : ℕ). at m' x SENT ≡ sent tree (left t j r ∷ cs) x) q
                (a.elsewhere i SENT lifting_narrow not_p ∙ stored_sent ∙ sum_after t r))
                (λ (q : is_within tree k p ≡ true). a.sents t r k q) (p_cases k e);
            virtuals = λ t r k e.
                ⊎_elim
                (λ (q : i ≡ k).
                subst (λ (x : ℕ). at m' x VIRTUAL ≡ virtual_time_of tree (left t j r ∷ cs) x) q
                (a.elsewhere i VIRTUAL lifting_narrow not_p ∙ stored_virtual ∙ time_after t r))
                (λ (q : is_within tree k p ≡ true). a.virtuals t r k q) (p_cases k e);
            elsewhere = λ k f l e.
                a.elsewhere k f l (is_false (is_within tree k p) (λ q. never (p_more k q) e))
                ∙ class k f l (λ (q : k ≡ i). never (subst (λ (x : ℕ). is_within tree x i ≡ true) (sym q) self) e);
            others = λ k f l other other'. a.others k f l other other' ∙ column k f l other other';
          }

  -- the same of a table that is known to be the one with the store
  module _ {m₁' : List ℕ} {x : ℕ} (isSent : x ≡ at m i SENT) (stored : m₁' ≡ with m i SENT (x + bytes)) where
    table : m₁' ≡ with m i SENT (at m i SENT + bytes)
    table = stored ∙ ap (λ (y : ℕ). with m i SENT (y + bytes)) isSent

    pub lifted_last : i ≡ 0 → AfterLifting m m₁' tree cs j i
    lifted_last isRoot = rw table (lifted_root isRoot)

    pub raises_here : 0 < i → Raises m₁' i
    raises_here some = rw table (lifting_raises some)

    module _ (some : 0 < i) {m₂ : List ℕ} (v : VirtualStored m₁' m₂ i) (p : ℕ) (isParent : p ≡ at m₂ i PARENT) where
      brought : VirtualStored (with m i SENT (at m i SENT + bytes)) m₂ i
      brought = subst (λ (t : List ℕ). VirtualStored t m₂ i) table v

      pub falls_step : p < i
      falls_step = lifting_falls some brought p isParent

      pub lifting_step : BeforeLifting m₂ tree cs j bytes p
      lifting_step = lifting_on some brought p isParent

      pub lifted_step : {m' : List ℕ} → (BeforeLifting m₂ tree cs j bytes p → AfterLifting m₂ m' tree cs j p) → AfterLifting m m' tree cs j i
      lifted_step go = lifted_on some brought p isParent (go lifting_step)

-- from the leaf on
module _ {m : List ℕ} {tree : Tree} {cs : List Call} {j bytes : ℕ} (b : BeforeRaise m tree cs j bytes) where
  top : Grown tree
  top = right b.planted.right

  leaf_class' : j < tree.count
  leaf_class' = leaf_class tree j (waits_leaf tree cs b.planted.lawful j b.waiting)

  narrow : (k : ℕ) → k < tree.count → k < CLASSES
  narrow k l = omega (arith, l, b.planted.right.shape.count.below)

  class_of : (k : ℕ) → is_within tree k j ≡ true → k < tree.count
  class_of k e = omega (arith, within_le tree top k j leaf_class' e, leaf_class')

  pub raise_lifting : BeforeLifting m tree cs j bytes j
  raise_lifting =
      record {
        planted = b.planted;
        waiting = b.waiting;
        head = b.head;
        line = within_self tree top j;
        sents = λ k e. (b.fairs k (class_of k e)).sent;
        starts = λ k e. (b.fairs k (class_of k e)).fair_start;
        fair_sents = λ k e. (b.fairs k (class_of k e)).fair_sent;
        root = (b.fairs 0 (omega (arith, leaf_class'))).virtual ∙ root_virtual tree cs;
      }

  pub raised : {m' : List ℕ} → AfterLifting m m' tree cs j j → AfterRaise m m' tree cs j
  raised {m'} a =
      record {
        alone = record {
          size = a.size;
          columns = λ k f l h. a.others k f l (λ e. omega (arith, e)) (λ e. omega (arith, e));
          rows = λ k f out l h.
              a.elsewhere k f l (is_false (is_within tree k j) (λ e. omega (arith, class_of k e)));
        };
        sents = λ t r k l.
            ⊎_elim (λ (e : is_within tree k j ≡ true). a.sents t r k e)
            (λ (e : is_within tree k j ≡ false).
            a.elsewhere k SENT (narrow k l) e ∙ (b.fairs k l).sent ∙ sym (sent_left_other tree t j r cs k e))
            (decided (is_within tree k j));
        virtuals = λ t r k l.
            ⊎_elim (λ (e : is_within tree k j ≡ true). a.virtuals t r k e)
            (λ (e : is_within tree k j ≡ false).
            a.elsewhere k VIRTUAL (narrow k l) e
            ∙ (b.fairs k l).virtual
            ∙ sym
            (ap (λ (w : ℕ). virtual_time (share_of tree k) (fair_pieces tree (left t j r ∷ cs) k) w) (sent_left_other tree t j r cs k e)
            ∙ ap (λ (ps : List Piece). virtual_time (share_of tree k) ps (sent tree cs k)) (pieces_left tree cs t j r k)))
            (decided (is_within tree k j));
        others = λ k f l h other other'. a.others k f l other other';
      }

  -- what a table shows of the longer history that has what was brought up, and the counts of who is active
  pub fair_left : {m₁ m₂ : List ℕ} → AfterRaise m m₁ tree cs j → ((k f : ℕ) → k < CLASSES → fair_from ≤ f → f < ACTIVE → at m₂ k f ≡ at m₁ k f)
      → (t : ℕ) (r : Rule) (k : ℕ) → k < tree.count → at m₂ k ACTIVE ≡ activity tree (left t j r ∷ cs) k → ShowsFair m₂ tree (left t j r ∷ cs) k
  fair_left {m₁} {m₂} a same t r k l e =
      let n = narrow k l in
      record {
        sent = same k SENT n (omega arith) (omega arith) ∙ a.sents t r k l;
        fair_start = kept FAIR_START (omega arith) (omega arith) (λ q. omega (arith, q)) (λ q. omega (arith, q))
            ∙ (b.fairs k l).fair_start
            ∙ sym (ap (λ (ps : List Piece). (lowest (share_of tree k) ps).start) (pieces_left tree cs t j r k));
        fair_sent = kept FAIR_SENT (omega arith) (omega arith) (λ q. omega (arith, q)) (λ q. omega (arith, q))
            ∙ (b.fairs k l).fair_sent
            ∙ sym (ap (λ (ps : List Piece). (lowest (share_of tree k) ps).sent) (pieces_left tree cs t j r k));
        virtual = same k VIRTUAL n (omega arith) (omega arith) ∙ a.virtuals t r k l;
        mark = kept MARK (omega arith) (omega arith) (λ q. omega (arith, q)) (λ q. omega (arith, q))
            ∙ (b.fairs k l).mark
            ∙ sym (mark_left tree cs t j r k);
        active = e;
      }
    where
      kept : (f : ℕ) → fair_from ≤ f → f < ACTIVE → (f ≡ SENT → ⊥) → (f ≡ VIRTUAL → ⊥) → at m₂ k f ≡ at m k f
      kept f low high other other' = same k f (narrow k l) low high ∙ a.others k f (narrow k l) (omega arith) other other'
