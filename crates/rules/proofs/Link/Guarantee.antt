-- The guarantee. The invariant holds after every call, for every D; taken at the deadline of a head that waits, and with the curves' fit, it leaves time
-- to send that head in full within `heaviest` ticks after its deadline. A head stays the head, with its deadline, until it leaves.
-- Assumes nothing.
use Rattle.std.proofs.Common.{◌≡◌, ℕ, ◌+◌, ◌<◌, ◌≤◌, Bool, true, false, cond, eqb, ◌⊎◌, List, [], ◌∷◌, ◌++◌, refl, ◌∙◌, inl, inr, ⊎_elim, arith, eqb-true}
use Rattle.curve.specs.declared.Piece.{Piece}
use Rattle.curve.proofs.Laws.Order.{le_or_lt}
use Rattle.curve.proofs.Laws.Times.{deadline_exists}
use Rattle.tree.specs.declared.Tree.{Tree}
use Rattle.tree.specs.Trees.{curve_of}
use Rattle.rules.specs.declared.Rule.{Rule}
use Rattle.rules.specs.declared.Rule.TheVariants.{RealTime, Fair}
use Rattle.rules.specs.Limits.{weigh}
use Rattle.rules.specs.Calls.{Call, came, left, idle}
use Rattle.rules.specs.Clock.{clock}
use Rattle.rules.specs.Queues.{queue, head_of, is_nonempty, waits, head_length, head_number}
use Rattle.rules.specs.Leaves.{sent_real_time_in, sent_real_time, pieces}
use Rattle.rules.specs.Lawful.{Allowed, LawfulCalls, Grown, right, none}
use Rattle.rules.proofs.Tests.{never}
use Rattle.rules.proofs.Allowed.{allowed_timely}
use Rattle.rules.proofs.Trees.{leaf_class, curve_rising, none_count}
use Rattle.rules.proofs.Queues.{waits_leaf, waits_came_on}
use Rattle.rules.specs.Link.{heaviest, HeaviestIs, free, Keeps, BusyUntil, EveryCallKeeps, Link}
use Rattle.rules.specs.Guarantee.{Moment, now, after, Head, LeftBy, TimeLeft, Sound, RightSound, Guaranteed, FromFit, Guarantee, HeadsThere}
use Rattle.rules.proofs.Link.Leaves.{head_some}
use Rattle.rules.proofs.Link.Invariant.{Invariant, ceiling, at_start, at_idle, at_came, at_fair, at_late, at_early, head_fits}

module _ (tree : Tree) (sound : Sound tree) (r : ℕ) where
  -- one call
  step : (D : ℕ) (c : Call) (cs : List Call) → Invariant tree r D cs → LawfulCalls tree cs → Allowed tree cs c → Keeps r cs c
      → Invariant tree r D (c ∷ cs)
  unfolding clock
  step D (came at k n) cs i lawful ok keeps = at_came tree r D cs i lawful at k n (allowed_timely ok) keeps.passes
  step D (left at k Fair) cs i lawful ok keeps = at_fair tree sound r D cs lawful at (allowed_timely ok).forward k keeps.asked ok.finds
  step D (left at k RealTime) cs i lawful ok keeps = go (le_or_lt ok.finds.deadline D)
    where
      soon : at ≤ ceiling cs i.s i.a
      soon =
          let waiting = ok.finds.first.meant.waiting in
          keeps.passes (ceiling cs i.s i.a) k (i.now_soon k waiting) i.free_soon waiting

      go : (ok.finds.deadline ≤ D) ⊎ (D < ok.finds.deadline) → Invariant tree r D (left at k RealTime ∷ cs)
      go (inl early) = at_early tree sound r D cs lawful at (allowed_timely ok).forward i k keeps.asked ok.finds early soon
      go (inr late) = at_late tree sound r D cs lawful at (allowed_timely ok).forward k keeps.asked ok.finds late
  step D (idle at) cs i lawful ok keeps = at_idle tree r D cs i lawful at (allowed_timely ok) ok.finds

  -- every call
  invariant : (D : ℕ) → r ≤ heaviest → (cs : List Call) → LawfulCalls tree cs → EveryCallKeeps r cs → Invariant tree r D cs
  unfolding LawfulCalls EveryCallKeeps
  invariant D soon [] lawful kept = at_start tree r D soon
  invariant D soon (c ∷ cs) lawful kept = step D c cs (invariant D soon cs lawful.1 kept.1) lawful.1 lawful.0 kept.0

  -- a tick, not before now and not before the link is free, from which the head can still be sent in full in time
  record InTime (cs : List Call) (n deadline : ℕ) : Type 0 where
    tick : ℕ
    from_now : clock cs ≤ tick
    from_free : free r cs ≤ tick
    full : tick + weigh n ≤ deadline + heaviest

  in_time_lem : (cs : List Call) → LawfulCalls tree cs → Link r cs → (j number n deadline : ℕ) → Head tree cs j number n deadline → InTime cs n deadline
  in_time_lem cs lawful link j number n deadline head =
      let i = invariant deadline link.soon cs lawful link.kept in
      record {
        tick = ceiling cs i.s i.a;
        from_now = i.now_soon j head.waiting;
        from_free = i.free_soon;
        full =
            rw head.is_length at
            (head_fits tree sound r deadline cs lawful i j head.curved head.waiting head.is_deadline.holds);
      }

-- the head of a queue to which a packet may have come, and the pieces of its leaf
head_came : (b : Bool) (q : List ℕ) (n : ℕ) → is_nonempty q ≡ true → head_of (cond b (q ++ n ∷ []) q) ≡ head_of q
head_came true [] n w = never w refl
head_came true (x ∷ q) n w = refl
head_came false q n w = refl

pieces_came : (b : Bool) (q : List ℕ) (ps new : List Piece) → is_nonempty q ≡ true → cond b (cond (is_nonempty q) ps new) ps ≡ ps
pieces_came true [] ps new w = never w refl
pieces_came true (x ∷ q) ps new w = refl
pieces_came false q ps new w = refl

module _ (tree : Tree) (j number n deadline : ℕ) where
  -- a head is still the head, with its deadline, where nothing of what gives it has changed
  carried : (cs cs' : List Call) → waits cs' j ≡ true → head_number cs' j ≡ head_number cs j → head_length cs' j ≡ head_length cs j
      → pieces cs' j ≡ pieces cs j → sent_real_time cs' j ≡ sent_real_time cs j → Head tree cs j number n deadline → Head tree cs' j number n deadline
  carried cs cs' w e₁ e₂ e₃ e₄ h =
      record {
        curved = h.curved;
        waiting = w;
        is_number = e₁ ∙ h.is_number;
        is_length = e₂ ∙ h.is_length;
        is_deadline = rw (e₂, e₃, e₄) h.is_deadline;
      }

  stays_came : (at k m : ℕ) (cs : List Call) → Head tree cs j number n deadline → Head tree (came at k m ∷ cs) j number n deadline
  unfolding queue head_number pieces sent_real_time_in
  stays_came at k m cs h =
      carried
      cs
      (came at k m ∷ cs)
      (waits_came_on at k m cs j h.waiting)
      refl
      (head_came (eqb k j) (queue cs j) m h.waiting)
      (pieces_came (eqb k j) (queue cs j) (pieces cs j) (record { start = at; sent = sent_real_time cs j } ∷ pieces cs j) h.waiting)
      refl
      h

  stays_idle : (at : ℕ) (cs : List Call) → Head tree cs j number n deadline → Head tree (idle at ∷ cs) j number n deadline
  unfolding queue head_number pieces sent_real_time_in
  stays_idle at cs h = carried cs (idle at ∷ cs) h.waiting refl refl refl refl h

  same_sent : (at k : ℕ) (rule : Rule) (cs : List Call) → eqb k j ≡ false → sent_real_time (left at k rule ∷ cs) j ≡ sent_real_time cs j
  unfolding sent_real_time_in
  same_sent at k RealTime cs e = rw e
  same_sent at k Fair cs e = refl

  stays_left : (at k : ℕ) (rule : Rule) (cs : List Call) → eqb k j ≡ false → Head tree cs j number n deadline
      → Head tree (left at k rule ∷ cs) j number n deadline
  unfolding queue head_number pieces
  stays_left at k rule cs e h =
      carried cs (left at k rule ∷ cs) (rw e h.waiting) (rw e) (rw e) refl (same_sent at k rule cs e) h

  module _ (sound : Sound tree) (r : ℕ) where
    -- after one call a head has left in time, or is the head
    next : (c : Call) (cs : List Call) → LawfulCalls tree cs → Link r cs → Keeps r cs c → Head tree cs j number n deadline
        → LeftBy (c ∷ cs) j number n (deadline + heaviest) ⊎ Head tree (c ∷ cs) j number n deadline
    unfolding clock
    next (came at k m) cs lawful link keeps h = inr (stays_came at k m cs h)
    next (idle at) cs lawful link keeps h = inr (stays_idle at cs h)
    next (left at k rule) cs lawful link keeps h = go (eqb k j) refl
      where
        t : InTime tree sound r cs n deadline
        t = in_time_lem tree sound r cs lawful link j number n deadline h

        leaves : LeftBy (left at j rule ∷ cs) j number n (deadline + heaviest)
        leaves =
            record {
              at = at;
              rule = rule;
              before = cs;
              call = now;
              is_number = h.is_number;
              is_length = h.is_length;
              full = omega (arith, t.full, keeps.passes t.tick j t.from_now t.from_free h.waiting);
            }

        go : (b : Bool) → eqb k j ≡ b
            → LeftBy (left at k rule ∷ cs) j number n (deadline + heaviest) ⊎ Head tree (left at k rule ∷ cs) j number n deadline
        go true e = inl (rw (eqb-true k j e) leaves)
        go false e = inr (stays_left at k rule cs e h)

    -- what has left has left ever after
    left_on : (c : Call) (cs : List Call) → LeftBy cs j number n (deadline + heaviest) → LeftBy (c ∷ cs) j number n (deadline + heaviest)
    left_on c cs l =
        record {
          at = l.at;
          rule = l.rule;
          before = l.before;
          call = after l.call;
          is_number = l.is_number;
          is_length = l.is_length;
          full = l.full;
        }

    fate : (past cs : List Call) → Moment past cs → r ≤ heaviest → LawfulCalls tree cs → EveryCallKeeps r cs → Head tree past j number n deadline
        → LeftBy cs j number n (deadline + heaviest) ⊎ Head tree cs j number n deadline
    unfolding LawfulCalls EveryCallKeeps
    fate past cs now soon lawful kept h = inr h
    fate past cs (after {c = c} {cs = ds} m) soon lawful kept h =
        ⊎_elim
        (λ l. inl (left_on c ds l))
        (λ h'. next c ds lawful.1 (record { soon = soon; kept = kept.1 }) kept.0 h')
        (fate past ds m soon lawful.1 kept.1 h)

-- a moment of a history that is lawful and that the link kept is one too
past_lawful : (tree : Tree) {past cs : List Call} → Moment past cs → LawfulCalls tree cs → LawfulCalls tree past
unfolding LawfulCalls
past_lawful tree now h = h
past_lawful tree (after m) h = past_lawful tree m h.1

past_kept : (r : ℕ) {past cs : List Call} → Moment past cs → EveryCallKeeps r cs → EveryCallKeeps r past
unfolding EveryCallKeeps
past_kept r now h = h
past_kept r (after m) h = past_kept r m h.1

pub from_fit : FromFit
from_fit r tree cs sound lawful link =
    record {
      none_later = λ past m j number n deadline head reached.
          ⊎_elim
          (λ l. l)
          (λ h. absurd (still j number n deadline h reached))
          (fate tree j number n deadline sound r past cs m link.soon lawful link.kept head);
      time_left = in_the_past;
    }
  where
    still : (j number n deadline : ℕ) → Head tree cs j number n deadline → deadline + heaviest ≤ clock cs → ⊥
    still j number n deadline h reached =
        let t = in_time_lem tree sound r cs lawful link j number n deadline h in
        let some = head_some tree cs lawful j h.waiting in
        omega (arith, t.full, t.from_now, reached, rw h.is_length at some)

    in_the_past : TimeLeft heaviest tree cs
    in_the_past past m j number n deadline head =
        let kept : Link r past = record { soon = link.soon; kept = past_kept r m link.kept } in
        let t = in_time_lem tree sound r past (past_lawful tree m lawful) kept j number n deadline head in
        omega (arith, t.full, t.from_now)

-- a tree that a start keeps is sound: rule 4 counts its classes, 7 its curves' numbers, and 10 says that they fit
pub right_sound : RightSound
right_sound tree h = record { few = h.shape.count.below; rising = curve_rising tree (right h); fit = h.fit }

-- where there is no class nothing waits
no_head : (tree : Tree) (cs : List Call) (j : ℕ) → tree.count ≡ 0 → LawfulCalls tree cs → waits cs j ≡ true → ⊥
no_head tree cs j e lawful w = omega (arith, leaf_class tree j (waits_leaf tree cs lawful j w))

pub guarantee : Guarantee
guarantee r h lawful link = go lawful.grown
  where
    go : Grown h.tree → Guaranteed h.tree h.calls
    go (right t) = from_fit r h.tree h.calls (right_sound h.tree t) lawful.lawful link
    go (none e) =
        record {
          none_later = λ past m j number n deadline head. absurd (no_head h.tree past j (none_count e) (past_lawful h.tree m lawful.lawful) head.waiting);
          time_left = λ past m j number n deadline head. absurd (no_head h.tree past j (none_count e) (past_lawful h.tree m lawful.lawful) head.waiting);
        }

pub heads_there : HeadsThere
heads_there h lawful past m j curved waiting =
    let leaf = waits_leaf h.tree past (past_lawful h.tree m lawful.lawful) j waiting in
    let rising = curve_rising h.tree lawful.grown j (leaf_class h.tree j leaf) curved in
    let d = deadline_exists (curve_of h.tree j) rising (pieces past j) (sent_real_time past j + weigh (head_length past j)) in
    (d.0, record { curved = curved; waiting = waiting; is_number = refl; is_length = refl; is_deadline = d.1 })

-- "Demand 3 then reads 9,020 ticks"
pub heaviest_is : HeaviestIs
unfolding weigh
heaviest_is = refl

-- in a run that the link keeps, "a packet that leaves at" a tick "keeps the link busy until" that tick and what it counts for
pub busy_until : BusyUntil
unfolding free
busy_until r at j rule cs keeps = let asked = keeps.asked in omega arith
