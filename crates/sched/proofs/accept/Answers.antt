-- `sched::accept` meets its contract: the counts, the packet's slot, and where the leaf was empty its backlog instant.
-- Assumes nothing.
use Prim.Native.Nat.{ℕ, ◌+◌, ◌-◌, ◌<◌}
use mathlib.Core.Path.{◌≡◌, ◌∙◌, ap}
use native.Mathlib.Omega.{arith}
use lib.ListN.{length, set}
use mathlib.Core.List.{List}
use Rattle.rules.proofs.Allowed.{allowed_admitted}
use Rattle.rules.specs.Limits.{weigh}
use Rattle.rules.specs.Calls.{History, came}
use Rattle.rules.specs.Queues.{queue, next_number, accepted}
use Rattle.rules.specs.Lawful.{Lawful, Allowed}
use Rattle.rules.proofs.Trees.{leaf_class}
use Rattle.rules.proofs.Sent.{accepted_most, number_below_accepted}
use Rattle.state.specs.Table.{CLASSES, slot_of}
use Rattle.state.specs.State.{Shows}
use Rattle.sched.specs.StepsArriving.{BeforeBegin, AfterBegin, AcceptRight}
use Rattle.state.proofs.Shown.{class_narrow, waiting_shown}
use Rattle.sched.proofs.Arriving.{waits_none, waits_some, Counted, counted_by, before_begin, waited, shows_came}
use Rattle.sched.proofs.accept.Goals as goal
use Rattle.sched.proofs.accept.Goals.{After-get, After-get-number, After-put_length, Start}

-- the history that the premise gives, and its leaf
own : (c : Start) → c.args.class < c.requires.history.tree.count
own c = leaf_class c.requires.history.tree c.args.class (allowed_admitted c.requires.holds).leaf

narrow : (c : Start) → c.args.class < CLASSES
narrow c = class_narrow c.requires.lawful c.requires.shows c.args.class (own c)

-- the steps before the counts were stored
abbrev first : After-put_length → After-get-number
first c = c.before.before.before.before.before.before.before.before.before

abbrev second : After-put_length → After-get
second c = c.before.before.before.before.before.before.before.before

abbrev start : After-put_length → Start
start c = (first c).before

module _ (c : After-put_length) (h : History) (law : Lawful h) (s : Shows (start c).args.words.now (start c).args.lengths.now h) (allowed : Allowed h.tree h.calls (came (start c).args.tick (start c).args.class (start c).args.length)) where
  mine : (start c).args.class < h.tree.count
  mine = leaf_class h.tree (start c).args.class (allowed_admitted allowed).leaf

  number_is : (first c).get-number.result ≡ next_number h.calls (start c).args.class
  number_is = (first c).get-number.ensures ∙ (s.leaves (start c).args.class mine).next_number

  length_is : (second c).get.result + length (queue h.calls (start c).args.class) ≡ (first c).get-number.result
  length_is = omega (arith, waiting_shown law s (start c).args.class mine, (second c).get.ensures, (first c).get-number.ensures)

  counts : Counted (start c).args.words.now c.put.new.words (start c).args.class (accepted h.calls + weigh (start c).args.length)
      (next_number h.calls (start c).args.class + 1)
  counts =
      let weighed = c in
      counted_by (start c).args.class _ _ _ _ s.size (class_narrow law s (start c).args.class mine) c.put_header.ensures c.put.ensures
      ((λ i. weighed.header.ensures i + weighed.weigh.ensures i) ∙ ap (λ (x : ℕ). x + weigh (start c).args.length) s.header.accepted)
      (ap (λ (x : ℕ). x + 1) number_is)

  length_put : c.put_length.new.lengths ≡ set (start c).args.lengths.now (slot_of (start c).args.class (next_number h.calls (start c).args.class)) (start c).args.length
  length_put = c.put_length.ensures ∙ ap (λ (x : ℕ). set (start c).args.lengths.now (slot_of (start c).args.class x) (start c).args.length) number_is

  begins : (first c).get-number.result - (second c).get.result ≡ 0 → BeforeBegin c.put.new.words h.tree h.calls (start c).args.class (start c).args.tick (start c).args.length
  begins none =
      before_begin h law s (start c).args.tick (start c).args.class (start c).args.length allowed counts
      (waits_none h.calls (start c).args.class (omega (arith, length_is)))

  accepted_by : {m : List ℕ} → AfterBegin c.put.new.words m h.tree h.calls (start c).args.class (start c).args.tick (start c).args.length
      → AcceptRight h (start c).args.tick (start c).args.class (start c).args.length (first c).get-number.result m
      c.put_length.new.lengths
  accepted_by after =
      record {
        numbered = number_is;
        shows = shows_came h law s (start c).args.tick (start c).args.class (start c).args.length allowed counts after length_put;
      }

pub get-number-requires : goal.get-number-requires
get-number-requires c = (narrow c, omega arith)

pub get-requires : goal.get-requires
get-requires c = (narrow c.before, omega arith)

pub overflow_sub-waiting : goal.overflow_sub-waiting
overflow_sub-waiting c =
    let start = c in
    omega (arith, waiting_shown start.requires.lawful start.requires.shows start.args.class (own start.before.before), c.get.ensures, c.get-number.ensures)

pub overflow_add-bytes : goal.overflow_add-bytes
overflow_add-bytes c =
    let read = c in
    let start = read in
    omega (arith, read.header.ensures, c.weigh.ensures, start.requires.shows.header.accepted, (allowed_admitted start.requires.holds).bytes)

pub overflow_add-number : goal.overflow_add-number
overflow_add-number c =
    let first = c in
    let start = first in
    omega (
      arith,
      first.get-number.ensures,
      (start.requires.shows.leaves start.args.class (own start.before.before.before.before.before.before.before)).next_number,
      number_below_accepted start.requires.history.tree start.requires.history.calls start.requires.lawful.lawful start.args.class,
      accepted_most start.requires.history.tree start.requires.history.calls start.requires.lawful.lawful,
    )

pub put-requires : goal.put-requires
put-requires c = (narrow c.before.before.before.before.before.before.before, omega arith)

pub overflow_cast-length : goal.overflow_cast-length
overflow_cast-length c =
    let start = c in
    omega (arith, (allowed_admitted start.requires.holds).short)

pub put_length-requires : goal.put_length-requires
put_length-requires c = narrow c.before.before.before.before.before.before.before.before.before

pub begin-requires : goal.begin-requires
begin-requires c =
    let d = c in
    let pre = (start d.before.before).requires in
    record {
      tree = pre.history.tree;
      calls = pre.history.calls;
      holds = begins d.before.before pre.history pre.lawful pre.shows pre.holds c.if-waiting-eq0.true;
    }

pub returns-then-waiting-eq0 : goal.returns-then-waiting-eq0
returns-then-waiting-eq0 c = λ h law s allowed.
    let d = c in
    accepted_by d.before.before.before h law s allowed (c.begin.ensures h.tree h.calls (begins d.before.before.before h law s allowed c.if-waiting-eq0.true))

pub returns-else-waiting-eq0 : goal.returns-else-waiting-eq0
returns-else-waiting-eq0 c = λ h law s allowed.
    let d = c in
    accepted_by d.before h law s allowed
    (waited h law s (start d.before).args.tick (start d.before).args.class (start d.before).args.length allowed (counts d.before h law s allowed)
    (waits_some h.calls (start d.before).args.class (λ e. c.if-waiting-eq0.false (omega (arith, length_is d.before h law s allowed)))))
