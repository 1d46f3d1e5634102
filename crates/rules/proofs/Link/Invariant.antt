-- The invariant of the guarantee, for one tick D. From a tick s on, every packet that left did so by the real-time rule with a deadline of at most D.
-- What each leaf sent so since s is paid for by its curve from s to D; and the link was busy with it, but for one packet that was under way at s.
-- Assumes nothing.
use Rattle.std.proofs.Common.{◌≡◌, ℕ, ◌+◌, ◌-◌, ◌*◌, ◌<◌, ◌≤◌, Bool, true, false, cond, eqb, ◌⊎◌, List, [], ◌∷◌, ◌++◌, refl, inl, inr, ⊎_elim, le_trans, le_refl, arith, eq-eqb, eqb-true}
use native.Mathlib.Nat.{sub_self}
use Rattle.curve.specs.Curves.{whole, amount, in_parts, Rising}
use Rattle.curve.specs.Pieces.{latest, Due, Deadline, Eligible}
use Rattle.curve.specs.declared.Curve.{Curve}
use Rattle.curve.specs.declared.Piece.{Piece}
use Rattle.curve.proofs.Laws.Order.{le_or_lt}
use Rattle.curve.proofs.Laws.Pieces.{standing_most}
use Rattle.curve.proofs.Laws.Lists.{every_head, every_rest}
use Rattle.curve.proofs.Laws.Leaf.{every_mono, deadline_by, by_deadline, unripe_due}
use Rattle.curve.proofs.Laws.Times.{eligible_exists, deadline_exists}
use Rattle.tree.specs.declared.Tree.{Tree}
use Rattle.tree.specs.Trees.{curve_of, curve_below}
use Rattle.tree.proofs.Curves.{curve_below_lem}
use Rattle.rules.specs.declared.Rule.{Rule}
use Rattle.rules.specs.declared.Rule.TheVariants.{RealTime, Fair}
use Rattle.rules.specs.Limits.{weigh}
use Rattle.rules.specs.Calls.{Call, came, left, idle}
use Rattle.rules.specs.Clock.{clock}
use Rattle.rules.specs.Queues.{queue, head_of, tail_of, is_nonempty, waits, head_length}
use Rattle.rules.specs.Leaves.{sent_real_time_in, sent_real_time, pieces}
use Rattle.rules.specs.Choice.{has_curve, Contends, RealTimeRule, FairRule, NothingWaits}
use Rattle.rules.specs.Lawful.{LawfulCalls}
use Rattle.rules.proofs.Allowed.{Timely}
use Rattle.rules.proofs.Tests.{never, is_false}
use Rattle.rules.proofs.Trees.{leaf_class}
use Rattle.rules.proofs.Queues.{waits_leaf}
use Rattle.rules.proofs.Leaves.{pieces_in_order}
use Rattle.rules.specs.Link.{heaviest, free, PassesNone}
use Rattle.rules.specs.Guarantee.{Sound}
use Rattle.rules.proofs.Link.Sums.{sum_from, sum_room, fit_sum}
use Rattle.rules.proofs.Link.Leaves.{head_some, head_most, latest_by}

-- what is due by D is paid for, where the count began at tick s with `a` bytes sent: it is at most those and what the curve gives from s to D
abbrev Paid : Curve → List Piece → (D s a : ℕ) → Type 0
Paid S ps D s a = (y : ℕ) → Due S ps y D → in_parts y ≤ in_parts a + amount S (D - s)

-- How a class stands towards D, where the count began at tick s with `a` of its bytes sent: it has no curve; or it is empty and has sent nothing since;
-- or what is due by D is paid for; or its head's deadline is later than D.
pub data Towards (S : Curve) (D s a : ℕ) (q : List ℕ) (ps : List Piece) (c : ℕ) : Type 0 where
  plain : has_curve S ≡ false → Towards S D s a q ps c
  empty : is_nonempty q ≡ false → c ≡ a → Towards S D s a q ps c
  paid : Paid S ps D s a → Towards S D s a q ps c
  later : is_nonempty q ≡ true → (Due S ps (c + weigh (head_of q)) D → ⊥) → Towards S D s a q ps c

-- a class to which a packet may have come at tick `at`
module _ (S : Curve) (D s a at n : ℕ) (ps : List Piece) (c : ℕ) (begun : s ≤ at) (old : latest ps ≤ at) where
  abbrev fresh : Piece
  fresh = record { start = at; sent = c }

  abbrev newer : List Piece
  newer = fresh ∷ ps

  first_paid : c ≡ a → Paid S newer D s a
  first_paid e y due = omega (arith, every_head S fresh ps D (in_parts y) due.every, standing_most S fresh s D begun)

  more_paid : Paid S ps D s a → Paid S newer D s a
  more_paid h y due = h y (record { after = le_trans old due.after; every = every_rest S fresh ps D (in_parts y) due.every })

  towards_came : (b : Bool) (q : List ℕ) → Towards S D s a q ps c
      → Towards S D s a (cond b (q ++ n ∷ []) q) (cond b (cond (is_nonempty q) ps newer) ps) c
  towards_came false q h = h
  towards_came true [] (plain e) = plain e
  towards_came true [] (empty w e) = paid (first_paid e)
  towards_came true [] (paid h) = paid (more_paid h)
  towards_came true [] (later w h) = never w refl
  towards_came true (x ∷ q) (plain e) = plain e
  towards_came true (x ∷ q) (empty w e) = never refl w
  towards_came true (x ∷ q) (paid h) = paid h
  towards_came true (x ∷ q) (later w h) = later refl h

-- how class j of a tree stands towards D, after some calls
abbrev Stands : Tree → (D s : ℕ) → (ℕ → ℕ) → List Call → ℕ → Type 0
Stands tree D s a cs j = Towards (curve_of tree j) D s (a j) (queue cs j) (pieces cs j) (sent_real_time cs j)

-- the head of class j is due by D
abbrev HeadDue : Tree → List Call → (j D : ℕ) → Type 0
HeadDue tree cs j D = Due (curve_of tree j) (pieces cs j) (sent_real_time cs j + weigh (head_length cs j)) D

-- the tick up to which the link may have been busy
abbrev pub ceiling : List Call → ℕ → (ℕ → ℕ) → ℕ
ceiling cs s a = s + heaviest + sum_from 0 64 (λ j. sent_real_time cs j - a j)

-- There are a tick s and, for each class, the bytes that it had sent by the real-time rule when the count began, such that
pub record Invariant (tree : Tree) (r D : ℕ) (cs : List Call) : Type 0 where
  pub s : ℕ
  pub a : ℕ → ℕ
  -- the count began in the past
  pub begun : s ≤ clock cs
  pub under : (j : ℕ) → a j ≤ sent_real_time cs j
  -- the link is busy with one packet at most
  pub busy : free r cs ≤ clock cs + heaviest
  -- since s it was busy with one packet and what was sent since; and no tick was lost while a packet waited
  pub free_soon : free r cs ≤ ceiling cs s a
  pub now_soon : (j : ℕ) → waits cs j ≡ true → clock cs ≤ ceiling cs s a
  -- what was sent since s is what the curves give from s to D
  pub owed : (j : ℕ) → in_parts (sent_real_time cs j - a j) ≤ amount (curve_below tree j) (D - s)
  pub each : (j : ℕ) → Stands tree D s a cs j

nothing_owed : (S : Curve) (c x : ℕ) → in_parts (c - c) ≤ amount S x
nothing_owed S c x = rw (sub_self c) (omega arith)

module _ (tree : Tree) (r D : ℕ) where
  pub at_start : r ≤ heaviest → Invariant tree r D []
  unfolding clock queue pieces sent_real_time_in free
  at_start l =
      record {
        s = 0;
        a = λ j. 0;
        begun = le_refl 0;
        under = λ j. le_refl 0;
        busy = omega arith;
        free_soon = omega arith;
        now_soon = λ j w. never w refl;
        owed = λ j. nothing_owed (curve_below tree j) 0 (D - 0);
        each = λ j. empty refl refl;
      }

  module _ (cs : List Call) (i : Invariant tree r D cs) (lawful : LawfulCalls tree cs) where
    pub at_idle : (at : ℕ) → Timely cs at → NothingWaits cs → Invariant tree r D (idle at ∷ cs)
    unfolding clock queue pieces sent_real_time_in free
    at_idle at t none =
        record {
          s = i.s;
          a = i.a;
          begun = le_trans i.begun t.forward;
          under = i.under;
          busy = omega (arith, i.busy, t.forward);
          free_soon = i.free_soon;
          now_soon = λ j w. never w (none j);
          owed = i.owed;
          each = i.each;
        }

    pub at_came : (at k n : ℕ) → Timely cs at → PassesNone r cs (came at k n) → Invariant tree r D (came at k n ∷ cs)
    unfolding clock queue pieces sent_real_time_in free
    at_came at k n t passes = go (le_or_lt at (ceiling cs i.s i.a))
      where
        old : (j : ℕ) → latest (pieces cs j) ≤ at
        old j = latest_by tree cs lawful j t.forward

        stands : (s : ℕ) (a : ℕ → ℕ) → s ≤ at → (j : ℕ) → Stands tree D s a cs j → Stands tree D s a (came at k n ∷ cs) j
        stands s a begun j h =
            towards_came (curve_of tree j) D s (a j) at n (pieces cs j) (sent_real_time cs j) begun (old j) (eqb k j) (queue cs j) h

        go : (at ≤ ceiling cs i.s i.a) ⊎ (ceiling cs i.s i.a < at) → Invariant tree r D (came at k n ∷ cs)
        go (inl soon) =
            record {
              s = i.s;
              a = i.a;
              begun = le_trans i.begun t.forward;
              under = i.under;
              busy = omega (arith, i.busy, t.forward);
              free_soon = i.free_soon;
              now_soon = λ j w. soon;
              owed = i.owed;
              each = λ j. stands i.s i.a (le_trans i.begun t.forward) j (i.each j);
            }
        go (inr past) =
            record {
              s = at;
              a = sent_real_time cs;
              begun = le_refl at;
              under = λ j. le_refl (sent_real_time cs j);
              busy = omega (arith, i.busy, t.forward);
              free_soon = omega (arith, i.busy, t.forward);
              now_soon = λ j w. omega arith;
              owed = λ j. nothing_owed (curve_below tree j) (sent_real_time cs j) (D - at);
              each = λ j. stands at (sent_real_time cs) (le_refl at) j (empty (nothing j) refl);
            }
          where
            nothing : (j : ℕ) → waits cs j ≡ false
            nothing j =
                is_false (waits cs j)
                (λ w. omega (arith, past, passes (ceiling cs i.s i.a) j (i.now_soon j w) i.free_soon w))

-- an empty leaf stays empty when a packet leaves
tail_empty : (b : Bool) (q : List ℕ) → is_nonempty q ≡ false → is_nonempty (cond b (tail_of q) q) ≡ false
tail_empty true [] e = refl
tail_empty true (x ∷ q) e = never refl e
tail_empty false q e = e

module _ (tree : Tree) (sound : Sound tree) (r D : ℕ) (cs : List Call) (lawful : LawfulCalls tree cs) where
  class : (j : ℕ) → waits cs j ≡ true → j < tree.count
  class j waiting = leaf_class tree j (waits_leaf tree cs lawful j waiting)

  -- a leaf that waits, and whose head is due by D
  module _ (i : Invariant tree r D cs) (k : ℕ) (curved : has_curve (curve_of tree k) ≡ true) (waiting : waits cs k ≡ true)
      (due : HeadDue tree cs k D) where
    -- what is due is paid for
    head_paid : Paid (curve_of tree k) (pieces cs k) D i.s (i.a k)
    head_paid = go (i.each k)
      where
        go : Stands tree D i.s i.a cs k → Paid (curve_of tree k) (pieces cs k) D i.s (i.a k)
        go (plain e) = never curved e
        go (empty e _) = never waiting e
        go (paid f) = f
        go (later _ undue) = absurd (undue due)

    -- the head itself too, beside what the leaf has sent since s
    head_room : in_parts (sent_real_time cs k - i.a k + weigh (head_length cs k)) ≤ amount (curve_below tree k) (D - i.s)
    head_room =
        rw (curve_below_lem tree k (class k waiting)) (omega (arith, i.under k, head_paid (sent_real_time cs k + weigh (head_length cs k)) due))

    among : k < 64
    among = le_trans (class k waiting) sound.few

    -- The curves fit, so that what all leaves sent since s and the head fit between s and D.
    pub head_fits : ceiling cs i.s i.a + weigh (head_length cs k) ≤ D + heaviest
    head_fits =
        let all =
        sum_room whole (λ j. sent_real_time cs j - i.a j) (λ j. amount (curve_below tree j) (D - i.s)) i.owed
        k (weigh (head_length cs k)) head_room 0 64 (omega arith) among in
        omega (arith, all, fit_sum tree sound.fit (D - i.s), head_some tree cs lawful k waiting)

  module _ (at : ℕ) (forward : clock cs ≤ at) where
    -- A leaf that waits is one of those that the real-time rule looks at; or it is not ripe, and its dues by D are paid for from this tick on.
    ripe_or_paid : (j : ℕ) → has_curve (curve_of tree j) ≡ true → waits cs j ≡ true
        → ((d : ℕ) × Contends tree cs at j d) ⊎ Paid (curve_of tree j) (pieces cs j) D at (sent_real_time cs j)
    ripe_or_paid j curved waiting = go (le_or_lt e.0 at)
      where
        rising : Rising (curve_of tree j)
        rising = sound.rising j (class j waiting) curved

        e : (t : ℕ) × Eligible (curve_of tree j) (pieces cs j) (sent_real_time cs j) t
        e = eligible_exists (curve_of tree j) rising (pieces cs j) (sent_real_time cs j)

        d : (t : ℕ) × Deadline (curve_of tree j) (pieces cs j) (sent_real_time cs j + weigh (head_length cs j)) t
        d = deadline_exists (curve_of tree j) rising (pieces cs j) (sent_real_time cs j + weigh (head_length cs j))

        go : (e.0 ≤ at) ⊎ (at < e.0) → ((d : ℕ) × Contends tree cs at j d) ⊎ Paid (curve_of tree j) (pieces cs j) D at (sent_real_time cs j)
        go (inl ripe) =
            inl (
              d.0,
              record {
                leaf = waits_leaf tree cs lawful j waiting;
                waiting = waiting;
                curved = curved;
                eligible = e.0;
                is_eligible = e.1;
                ripe = ripe;
                is_deadline = d.1;
              },
            )
        go (inr unripe) =
            inr
            (λ y due.
            unripe_due (curve_of tree j) rising (pieces cs j) (sent_real_time cs j) e.0 at D y
            (pieces_in_order tree cs lawful j).order (latest_by tree cs lawful j forward) e.1 unripe due)

    -- a departure after which the count begins anew
    afresh : (k : ℕ) (rule : Rule) → free r cs ≤ at
        → ((j : ℕ) → has_curve (curve_of tree j) ≡ true → waits cs j ≡ true → Stands tree D at (sent_real_time (left at k rule ∷ cs)) (left at k rule ∷ cs) j)
        → Invariant tree r D (left at k rule ∷ cs)
    unfolding clock queue pieces free
    afresh k rule asked waiting =
        let most = head_most tree cs lawful k in
        record {
          s = at;
          a = sent_real_time (left at k rule ∷ cs);
          begun = le_refl at;
          under = λ j. le_refl (sent_real_time (left at k rule ∷ cs) j);
          busy = omega arith;
          free_soon = omega arith;
          now_soon = λ j w. omega arith;
          owed = λ j. nothing_owed (curve_below tree j) (sent_real_time (left at k rule ∷ cs) j) (D - at);
          each = λ j. go j (has_curve (curve_of tree j)) (waits cs j) refl refl;
        }
      where
        go : (j : ℕ) (curved w : Bool) → has_curve (curve_of tree j) ≡ curved → waits cs j ≡ w
            → Stands tree D at (sent_real_time (left at k rule ∷ cs)) (left at k rule ∷ cs) j
        go j false w e e' = plain e
        go j true false e e' = empty (tail_empty (eqb k j) (queue cs j) e') refl
        go j true true e e' = waiting j e e'

    -- a departure by the fair rule: no leaf that waits is ripe
    pub at_fair : (k : ℕ) → free r cs ≤ at → FairRule tree cs at k → Invariant tree r D (left at k Fair ∷ cs)
    unfolding queue pieces sent_real_time_in
    at_fair k asked rule =
        afresh k Fair asked (λ j curved w. paid (⊎_elim (λ c. absurd (rule.none j c.0 c.1)) (λ h. h) (ripe_or_paid j curved w)))

    -- a departure by the real-time rule with a deadline later than D: so are those of all leaves that wait and are ripe
    pub at_late : (k : ℕ) → free r cs ≤ at → (rule : RealTimeRule tree cs at k) → D < rule.deadline → Invariant tree r D (left at k RealTime ∷ cs)
    unfolding queue pieces sent_real_time_in
    at_late k asked rule late = afresh k RealTime asked (λ j curved w. go j curved w (eqb k j) refl)
      where
        undue : (j d : ℕ) → Contends tree cs at j d → HeadDue tree cs j D → ⊥
        undue j d h due = omega (arith, late, rule.first.smallest j d h, by_deadline h.is_deadline due)

        sender : Paid (curve_of tree k) (pieces cs k) D at (sent_real_time cs k + weigh (head_length cs k))
        sender y due =
            ⊎_elim
            (λ l. omega arith)
            (λ l.
            absurd
            (undue k rule.deadline rule.first.meant
            (record { after = due.after; every = every_mono (curve_of tree k) (pieces cs k) (le_refl D) (omega arith) due.every })))
            (le_or_lt y (sent_real_time cs k + weigh (head_length cs k)))

        other : (j : ℕ) → has_curve (curve_of tree j) ≡ true → waits cs j ≡ true
            → Stands tree D at (sent_real_time cs) cs j
        other j curved w = ⊎_elim (λ c. later w (undue j c.0 c.1)) (λ h. paid h) (ripe_or_paid j curved w)

        go : (j : ℕ) → has_curve (curve_of tree j) ≡ true → waits cs j ≡ true → (b : Bool) → eqb k j ≡ b
            → Towards (curve_of tree j) D at (cond b (sent_real_time cs j + weigh (head_length cs j)) (sent_real_time cs j))
            (cond b (tail_of (queue cs j)) (queue cs j)) (pieces cs j) (cond b (sent_real_time cs j + weigh (head_length cs j)) (sent_real_time cs j))
        go j curved w true e = paid (rw (eqb-true k j e) at sender)
        go j curved w false e = other j curved w

    -- a departure by the real-time rule with a deadline of at most D: it is paid for, and the link's time that it takes is counted
    pub at_early : (i : Invariant tree r D cs) (k : ℕ) → free r cs ≤ at → (rule : RealTimeRule tree cs at k) → rule.deadline ≤ D → at ≤ ceiling cs i.s i.a
        → Invariant tree r D (left at k RealTime ∷ cs)
    unfolding clock queue pieces sent_real_time_in free
    at_early i k asked rule early soon =
        record {
          s = i.s;
          a = i.a;
          begun = le_trans i.begun forward;
          under = λ j. grown j (eqb k j);
          busy = omega (arith, head_most tree cs lawful k);
          free_soon = omega (arith, more);
          now_soon = λ j w. omega (arith, more);
          owed = λ j. still j (eqb k j) refl;
          each = λ j. towards j (eqb k j) refl;
        }
      where
        h : Contends tree cs at k rule.deadline
        h = rule.first.meant

        due : HeadDue tree cs k D
        due = deadline_by h.is_deadline early

        grown : (j : ℕ) (b : Bool) → i.a j ≤ cond b (sent_real_time cs j + weigh (head_length cs j)) (sent_real_time cs j)
        grown j true = omega (arith, i.under j)
        grown j false = i.under j

        room : in_parts (sent_real_time cs k + weigh (head_length cs k) - i.a k) ≤ amount (curve_below tree k) (D - i.s)
        room = omega (arith, i.under k, head_room i k h.curved h.waiting due)

        still : (j : ℕ) (b : Bool) → eqb k j ≡ b
            → in_parts (cond b (sent_real_time cs j + weigh (head_length cs j)) (sent_real_time cs j) - i.a j) ≤ amount (curve_below tree j) (D - i.s)
        still j true e = rw (eqb-true k j e) at room
        still j false e = i.owed j

        towards : (j : ℕ) (b : Bool) → eqb k j ≡ b
            → Towards (curve_of tree j) D i.s (i.a j) (cond b (tail_of (queue cs j)) (queue cs j)) (pieces cs j)
            (cond b (sent_real_time cs j + weigh (head_length cs j)) (sent_real_time cs j))
        towards j true e = paid (rw (eqb-true k j e) at (head_paid i k h.curved h.waiting due))
        towards j false e = i.each j

        rises_by : (j : ℕ) (b : Bool)
            → 1 * (sent_real_time cs j - i.a j) ≤ cond b (sent_real_time cs j + weigh (head_length cs j)) (sent_real_time cs j) - i.a j
        rises_by j true = omega arith
        rises_by j false = omega arith

        more : ceiling cs i.s i.a + weigh (head_length cs k) ≤ ceiling (left at k RealTime ∷ cs) i.s i.a
        more =
            let all =
            sum_room
            1
            (λ j. sent_real_time cs j - i.a j)
            (λ j. sent_real_time (left at k RealTime ∷ cs) j - i.a j)
            (λ j. rises_by j (eqb k j))
            k
            (weigh (head_length cs k))
            (rw (eq-eqb k k refl) (omega (arith, i.under k)))
            0
            64
            (omega arith)
            (among i k h.curved h.waiting due) in
            omega (arith, all)
