-- Clock and counts: what a lawful history keeps below its limits, and what was accepted was sent or waits.
-- Assumes nothing.
use Rattle.std.proofs.Common.{◌≡◌, ℕ, zero, suc, ◌+◌, ◌<◌, ◌≤◌, true, cond, ◌&&◌, eqb, List, [], ◌∷◌, ◌++◌, refl, ap, ◌∙◌, ⊎_elim, le_trans, arith, eqb-true}
use Rattle.tree.specs.declared.Tree.{Tree}
use Rattle.tree.specs.Trees.{is_child}
use Rattle.rules.specs.Limits.{most_bytes_accepted, longest, weigh}
use Rattle.rules.specs.Calls.{Call, came, left, idle}
use Rattle.rules.specs.Clock.{clock}
use Rattle.rules.specs.Queues.{queue, head_of, tail_of, is_nonempty, waits, head_length, next_number, accepted_in, accepted}
use Rattle.rules.specs.Leaves.{is_real_time, sent_real_time_in, sent_real_time}
use Rattle.rules.specs.Classes.{is_within, sent_in, sent}
use Rattle.rules.specs.Lawful.{Grown, LawfulCalls}
use Rattle.rules.specs.Sentences.{ClockMost, AcceptedMost}
use Rattle.rules.proofs.Tests.{never, and_right, by_cond}
use Rattle.rules.proofs.Allowed.{allowed_timely, allowed_admitted}
use Rattle.rules.proofs.Over.{last_or_below}
use Rattle.rules.proofs.Trees.{leaf_class, within_self, within_top, within_parent}
use Rattle.rules.proofs.Queues.{queue_came, queue_came_other, queue_left, queue_left_other, queue_idle, waits_leaf}
use Rattle.rules.proofs.Active.{choice_waits, choice_leaf}

-- what a packet counts for: besides these laws only `weigh`'s own proof looks into it, and what has to compute, the rows, the runs and `heaviest_is`

pub weigh_some : (n : ℕ) → 1 ≤ n → 1 ≤ weigh n
unfolding weigh
weigh_some n h = omega arith

pub weigh_most : (n : ℕ) → n ≤ longest → weigh n ≤ weigh longest
unfolding weigh
weigh_most n h = omega (arith, h)

pub weigh_small : (n : ℕ) → n ≤ longest → weigh n ≤ most_bytes_accepted
unfolding weigh
weigh_small n h = omega arith

-- "clock, and total bytes accepted: each at most 2^40"

pub clock_most : ClockMost
unfolding LawfulCalls clock
clock_most tree [] law = omega arith
clock_most tree (c ∷ cs) law = (allowed_timely law.0).in_time

pub accepted_most : AcceptedMost
unfolding LawfulCalls accepted_in
accepted_most tree [] law = omega arith
accepted_most tree (came at j n ∷ cs) law = (allowed_admitted law.0).bytes
accepted_most tree (left at j r ∷ cs) law = accepted_most tree cs law.1
accepted_most tree (idle at ∷ cs) law = accepted_most tree cs law.1

-- Whatever a packet counts for:

-- c is at most w
pub real_time_below_sent : (weight : ℕ → ℕ) (tree : Tree) → Grown tree → (cs : List Call) (j : ℕ) → sent_real_time_in weight cs j ≤ sent_in weight tree cs j
unfolding sent_real_time_in sent_in
real_time_below_sent weight tree grown [] j = omega arith
real_time_below_sent weight tree grown (came at k n ∷ cs) j = real_time_below_sent weight tree grown cs j
real_time_below_sent weight tree grown (left at k r ∷ cs) j =
    let rest = real_time_below_sent weight tree grown cs j in
    by_cond (λ (x : ℕ). x ≤ sent_in weight tree (left at k r ∷ cs) j) (is_real_time r && eqb k j)
    (λ e.
    let q = eqb-true k j (and_right (is_real_time r) (eqb k j) e) in
    rw (ap (is_within tree j) q ∙ within_self tree grown j) (omega (arith, rest, ap (λ (x : ℕ). weight (head_length cs x)) q)))
    (λ e. by_cond (λ (x : ℕ). sent_real_time_in weight cs j ≤ x) (is_within tree j k) (λ q. omega (arith, rest)) (λ q. rest))
real_time_below_sent weight tree grown (idle at ∷ cs) j = real_time_below_sent weight tree grown cs j

-- what was sent from a class was sent from its parent, and from the root
module _ (weight : ℕ → ℕ) (tree : Tree) (i p : ℕ) (holds : (j : ℕ) → j < tree.count → is_within tree i j ≡ true → is_within tree p j ≡ true)
    (grown : Grown tree) where
  sent_wider : (cs : List Call) → LawfulCalls tree cs → sent_in weight tree cs i ≤ sent_in weight tree cs p
  unfolding LawfulCalls sent_in
  sent_wider [] law = omega arith
  sent_wider (came at k n ∷ cs) law = sent_wider cs law.1
  sent_wider (left at k r ∷ cs) law =
      let rest = sent_wider cs law.1 in
      by_cond (λ (x : ℕ). x ≤ cond (is_within tree p k) (sent_in weight tree cs p + weight (head_length cs k)) (sent_in weight tree cs p)) (is_within tree i k)
      (λ e. rw (holds k (leaf_class tree k (choice_leaf tree grown cs at k r law.0.finds)) e) (omega (arith, rest)))
      (λ e. by_cond (λ (x : ℕ). sent_in weight tree cs i ≤ x) (is_within tree p k) (λ q. omega (arith, rest)) (λ q. rest))
  sent_wider (idle at ∷ cs) law = sent_wider cs law.1

pub sent_parent : (weight : ℕ → ℕ) (tree : Tree) → Grown tree → (p i : ℕ) → is_child tree p i ≡ true → (cs : List Call) → LawfulCalls tree cs
    → sent_in weight tree cs i ≤ sent_in weight tree cs p
sent_parent weight tree grown p i child = sent_wider weight tree i p (λ j below e. within_parent tree grown p i j child below e) grown

pub sent_root : (weight : ℕ → ℕ) (tree : Tree) → Grown tree → (i : ℕ) (cs : List Call) → LawfulCalls tree cs → sent_in weight tree cs i ≤ sent_in weight tree cs 0
sent_root weight tree grown i = sent_wider weight tree i 0 (λ j below e. within_top tree grown j below) grown

-- what was accepted was sent or waits

-- the bytes of the packets in a queue, and in the queues of the classes below n
unfoldable pub bytes_in : (weight : ℕ → ℕ) → List ℕ → ℕ
bytes_in weight [] = 0
bytes_in weight (n ∷ ns) = weight n + bytes_in weight ns

unfoldable pub waiting_in : (weight : ℕ → ℕ) → List Call → ℕ → ℕ
waiting_in weight cs zero = 0
waiting_in weight cs (suc n) = bytes_in weight (queue cs n) + waiting_in weight cs n

module _ (weight : ℕ → ℕ) where
  bytes_last : (ns : List ℕ) (n : ℕ) → bytes_in weight (ns ++ n ∷ []) ≡ bytes_in weight ns + weight n
  unfolding bytes_in
  bytes_last [] n = omega arith
  bytes_last (m ∷ ns) n = omega (arith, bytes_last ns n)

  bytes_tail : (ns : List ℕ) → is_nonempty ns ≡ true → bytes_in weight ns ≡ weight (head_of ns) + bytes_in weight (tail_of ns)
  unfolding bytes_in
  bytes_tail [] e = never e refl
  bytes_tail (n ∷ ns) e = refl

  -- a call that changes the queue of j alone
  module _ (before after : List Call) (j : ℕ) (others : (k : ℕ) → (j ≡ k → ⊥) → queue after k ≡ queue before k) where
    same_below : (n : ℕ) → n ≤ j → waiting_in weight after n ≡ waiting_in weight before n
    unfolding waiting_in
    same_below zero l = refl
    same_below (suc n) l = omega (arith, ap (bytes_in weight) (others n (λ e. omega arith)), same_below n (omega arith))

    one_changed : (n : ℕ) → j < n
        → waiting_in weight after n + bytes_in weight (queue before j) ≡ waiting_in weight before n + bytes_in weight (queue after j)
    unfolding waiting_in
    one_changed zero l = absurd (omega arith)
    one_changed (suc n) l =
        ⊎_elim
        (λ (e : j ≡ n).
        omega (
          arith,
          same_below n (omega arith),
          ap (λ (x : ℕ). bytes_in weight (queue after x)) e,
          ap (λ (x : ℕ). bytes_in weight (queue before x)) e,
        ))
        (λ (h : j < n). omega (arith, one_changed n h, ap (bytes_in weight) (others n (λ e. omega arith)))) (last_or_below n j l)

  same_queues : (before after : List Call) → ((k : ℕ) → queue after k ≡ queue before k) → (n : ℕ) → waiting_in weight after n ≡ waiting_in weight before n
  unfolding waiting_in
  same_queues before after same zero = refl
  same_queues before after same (suc n) = omega (arith, ap (bytes_in weight) (same n), same_queues before after same n)

  none_waiting : (n : ℕ) → waiting_in weight [] n ≡ 0
  unfolding waiting_in queue bytes_in
  none_waiting zero = refl
  none_waiting (suc n) = omega (arith, none_waiting n)

  some_waiting : (cs : List Call) (n j : ℕ) → j < n → bytes_in weight (queue cs j) ≤ waiting_in weight cs n
  unfolding waiting_in
  some_waiting cs zero j l = absurd (omega arith)
  some_waiting cs (suc n) j l =
      ⊎_elim
      (λ (e : j ≡ n). omega (arith, ap (λ (x : ℕ). bytes_in weight (queue cs x)) e))
      (λ (h : j < n). omega (arith, some_waiting cs n j h)) (last_or_below n j l)

  module _ (tree : Tree) (grown : Grown tree) where
    pub conserved : (cs : List Call) → LawfulCalls tree cs → sent_in weight tree cs 0 + waiting_in weight cs tree.count ≡ accepted_in weight cs
    unfolding LawfulCalls sent_in accepted_in
    conserved [] law = omega (arith, none_waiting tree.count)
    conserved (came at j n ∷ cs) law =
        omega (
          arith,
          conserved cs law.1,
          one_changed cs (came at j n ∷ cs) j (λ k h. queue_came_other at j n cs k h) tree.count (leaf_class tree j (allowed_admitted law.0).leaf),
          ap (bytes_in weight) (queue_came at j n cs),
          bytes_last (queue cs j) n,
        )
    conserved (left at j r ∷ cs) law =
        let below = leaf_class tree j (choice_leaf tree grown cs at j r law.0.finds) in
        rw (within_top tree grown j below)
        (omega (
          arith,
          conserved cs law.1,
          one_changed cs (left at j r ∷ cs) j (λ k h. queue_left_other at j r cs k h) tree.count below,
          ap (bytes_in weight) (queue_left at j r cs),
          bytes_tail (queue cs j) (choice_waits tree grown cs at j r law.0.finds),
        ))
    conserved (idle at ∷ cs) law =
        omega (arith, conserved cs law.1, same_queues cs (idle at ∷ cs) (λ k. queue_idle at cs k) tree.count)

    -- so w is at most what was accepted
    pub sent_below_accepted : (cs : List Call) → LawfulCalls tree cs → (i : ℕ) → sent_in weight tree cs i ≤ accepted_in weight cs
    sent_below_accepted cs law i = omega (arith, conserved cs law, sent_root weight tree grown i cs law)

    -- and so are the bytes that a deadline is about: those sent by the real-time rule and those of the head packet
    pub head_below_accepted : (cs : List Call) → LawfulCalls tree cs → (j : ℕ) → waits cs j ≡ true
        → sent_real_time_in weight cs j + weight (head_length cs j) ≤ accepted_in weight cs
    head_below_accepted cs law j e =
        omega (
          arith,
          conserved cs law,
          some_waiting cs tree.count j (leaf_class tree j (waits_leaf tree cs law j e)),
          bytes_tail (queue cs j) e,
          real_time_below_sent weight tree grown cs j,
          sent_root weight tree grown j cs law,
        )

-- The same, where a packet counts for what it weighs:

pub c_below_w : (tree : Tree) → Grown tree → (cs : List Call) (j : ℕ) → sent_real_time cs j ≤ sent tree cs j
c_below_w = real_time_below_sent weigh

pub w_most : (tree : Tree) → Grown tree → (cs : List Call) → LawfulCalls tree cs → (i : ℕ) → sent tree cs i ≤ most_bytes_accepted
w_most tree grown cs law i = le_trans (sent_below_accepted weigh tree grown cs law i) (accepted_most tree cs law)

pub due_below_accepted : (tree : Tree) → Grown tree → (cs : List Call) → LawfulCalls tree cs → (j : ℕ) → waits cs j ≡ true
    → sent_real_time cs j + weigh (head_length cs j) ≤ accepted cs
due_below_accepted = head_below_accepted weigh

-- a leaf has not more packet numbers than bytes were accepted
pub number_below_accepted : (tree : Tree) (cs : List Call) → LawfulCalls tree cs → (j : ℕ) → next_number cs j ≤ accepted cs
unfolding LawfulCalls next_number accepted_in
number_below_accepted tree [] law j = omega arith
number_below_accepted tree (came at k n ∷ cs) law j =
    by_cond (λ (x : ℕ). x ≤ accepted cs + weigh n) (eqb k j)
    (λ e. omega (arith, number_below_accepted tree cs law.1 j, weigh_some n (allowed_admitted law.0).some))
    (λ e. omega (arith, number_below_accepted tree cs law.1 j))
number_below_accepted tree (left at k r ∷ cs) law j = number_below_accepted tree cs law.1 j
number_below_accepted tree (idle at ∷ cs) law j = number_below_accepted tree cs law.1 j
