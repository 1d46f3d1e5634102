-- `sched::take` meets its contract: each step leaves what the next asks, for every history that the arrays show.
-- Assumes nothing.
use Prim.Native.Nat.{ℕ, ◌+◌, ◌<◌}
use mathlib.Core.Path.{◌≡◌, refl, sym, ◌∙◌, ap, subst}
use mathlib.Core.List.{List}
use native.Mathlib.Omega.{arith}
use lib.ListN.{get_or, set}
use Rattle.rules.specs.Limits.{weigh}
use Rattle.rules.specs.Calls.{left, History}
use Rattle.rules.specs.Queues.{head_length}
use Rattle.rules.specs.Lawful.{Allowed, Lawful}
use Rattle.rules.specs.Answers.{TimesOf, with_call}
use Rattle.state.specs.Table.{at, with, CLASSES, slot_of}
use Rattle.state.specs.Columns.{HEAD_NUMBER, SENT_REAL_TIME}
use Rattle.state.specs.State.{Shows}
use Rattle.fair.specs.Steps.{BeforeRaise, AfterRaise}
use Rattle.sched.specs.StepsArriving.{ShowsButClock}
use Rattle.state.specs.Steps.{counted}
use Rattle.sched.specs.StepsDeparting.{BeforeSettle}
use Rattle.state.proofs.Cells.{at_with_column}
use Rattle.sched.proofs.DepartingTake.{take_class, take_below, take_length, take_number, take_bytes, take_times, before_raise, before_settle, take_shows}
use Rattle.sched.proofs.take.Goals as goal
use Rattle.sched.proofs.take.Goals.{After-count_bytes, After-length_of-length, After-put_length, After-raise, Start}

class : (c : Start) → c.args.class < CLASSES
class c = take_class c.requires.history c.requires.lawful c.requires.shows c.requires.holds.it c.args.class c.args.rule c.requires.holds.holds

-- the entry
abbrev start : After-length_of-length → Start
start c = c.before.before

-- the length in the head's slot is the head's
value : (c : After-length_of-length) (h : History) (t : ℕ) → Lawful h → Shows (start c).args.words.now (start c).args.lengths.now h
    → Allowed h.tree h.calls (left t (start c).args.class (start c).args.rule)
    → c.length_of-length.result ≡ head_length h.calls (start c).args.class
value c h t law shows allowed =
    let args = (start c).args in
    c.length_of-length.ensures
    ∙ ap (λ (x : ℕ). get_or args.lengths.now (slot_of args.class x) 0) c.get-number.ensures
    ∙ take_length h law shows t args.class args.rule allowed

-- the steps up to the slot
abbrev taken : After-count_bytes → After-length_of-length
taken c = c.before.before.before.before.before.before.before.before

abbrev freed : After-count_bytes → After-put_length
freed c = c.before.before.before.before.before

abbrev entry : After-count_bytes → Start
entry c = start (taken c)

-- the head's slot is free
slot-free : (c : After-count_bytes) → (freed c).put_length.new.lengths
    ≡ set (entry c).args.lengths.now (slot_of (entry c).args.class (at (entry c).args.words.now (entry c).args.class HEAD_NUMBER)) 0
slot-free c =
    (freed c).put_length.ensures ∙ ap (λ (x : ℕ). set (entry c).args.lengths.now (slot_of (entry c).args.class x) 0) (taken c).get-number.ensures

module _ (c : After-count_bytes) (h : History) (t : ℕ) (law : Lawful h) (shows : Shows (entry c).args.words.now (entry c).args.lengths.now h) (allowed : Allowed h.tree h.calls (left t (entry c).args.class (entry c).args.rule)) where
  moved : c.count_bytes.new.words
      ≡ counted (with (entry c).args.words.now (entry c).args.class HEAD_NUMBER (at (entry c).args.words.now (entry c).args.class HEAD_NUMBER + 1)) (entry c).args.class
      (entry c).args.rule (weigh (head_length h.calls (entry c).args.class))
  moved =
      let stored = c in
      let args = (entry c).args in
      let bytes : c.weigh-bytes.result ≡ weigh (head_length h.calls args.class) = c.weigh-bytes.ensures ∙ ap weigh (value (taken c) h t law shows allowed) in
      let first : stored.put.new.words ≡ with args.words.now args.class HEAD_NUMBER (at args.words.now args.class HEAD_NUMBER + 1) =
      stored.put.ensures ∙ ap (λ (x : ℕ). with args.words.now args.class HEAD_NUMBER (x + 1)) (taken c).get-number.ensures
      in
      c.count_bytes.ensures ∙ (λ i. counted (first i) args.class args.rule (bytes i))

  raising : BeforeRaise c.count_bytes.new.words h.tree h.calls (entry c).args.class (weigh (head_length h.calls (entry c).args.class))
  raising = before_raise h law shows t (entry c).args.class (entry c).args.rule allowed moved

abbrev counts : After-raise → After-count_bytes
counts c = c.before.before

module _ (c : After-raise) (h : History) (t : ℕ) (law : Lawful h) (shows : Shows (entry (counts c)).args.words.now (entry (counts c)).args.lengths.now h) (allowed : Allowed h.tree h.calls (left t (entry (counts c)).args.class (entry (counts c)).args.rule)) where
  raised : AfterRaise (counts c).count_bytes.new.words c.raise.new.words h.tree h.calls (entry (counts c)).args.class
  raised =
      c.raise.ensures h.tree h.calls
      (subst (λ (x : ℕ). BeforeRaise (counts c).count_bytes.new.words h.tree h.calls (entry (counts c)).args.class x)
      (sym ((counts c).weigh-bytes.ensures ∙ ap weigh (value (taken (counts c)) h t law shows allowed))) (raising (counts c) h t law shows allowed))

  settling : BeforeSettle c.raise.new.words (freed (counts c)).put_length.new.lengths h.tree h.calls
      (entry (counts c)).args.class t (entry (counts c)).args.rule
  settling =
      let args = (entry (counts c)).args in
      subst (λ (x : List ℕ). BeforeSettle c.raise.new.words x h.tree h.calls args.class t args.rule) (sym (slot-free (counts c)))
      (before_settle h law shows t args.class args.rule allowed (moved (counts c) h t law shows allowed) raised)

pub get-number-requires : goal.get-number-requires
get-number-requires c =
    let p = c.requires in
    (take_class p.history p.lawful p.shows p.holds.it c.args.class c.args.rule p.holds.holds, omega arith)

pub length_of-length-requires : goal.length_of-length-requires
length_of-length-requires c = class c.before

pub times_of-times-requires : goal.times_of-times-requires
times_of-times-requires c = class (start c)

pub put_length-requires : goal.put_length-requires
put_length-requires c = class (start c.before.before)

pub overflow_add-number : goal.overflow_add-number
overflow_add-number c =
    let taken = c in
    let first = start taken.before.before.before.before in
    let p = first.requires in
    omega (
      arith,
      taken.get-number.ensures,
      take_number p.history p.lawful p.shows p.holds.it first.args.class first.args.rule p.holds.holds,
    )

pub put-requires : goal.put-requires
put-requires c = (class (start c.before.before.before.before), omega arith)

pub count_bytes-requires : goal.count_bytes-requires
count_bytes-requires c =
    let stored = c in
    let taken = stored in
    let first = start taken.before.before.before.before.before.before.before in
    let p = first.requires in
    let small = class first in
    let cell : at stored.put.new.words first.args.class SENT_REAL_TIME ≡ at first.args.words.now first.args.class SENT_REAL_TIME =
    ap (λ (x : List ℕ). at x first.args.class SENT_REAL_TIME) stored.put.ensures
    ∙ at_with_column first.args.words.now first.args.class HEAD_NUMBER (taken.get-number.result + 1) first.args.class SENT_REAL_TIME small small (λ e. omega arith)
    in (
      small,
      omega (
        arith,
        cell,
        c.weigh-bytes.ensures ∙ ap weigh (value taken.before.before.before.before.before.before.before p.history p.holds.it p.lawful p.shows p.holds.holds),
        take_bytes p.history p.lawful p.shows p.holds.it first.args.class first.args.rule p.holds.holds,
      ),
    )

pub raise-requires : goal.raise-requires
raise-requires c =
    let done = c in
    let p = (entry done.before).requires in
    record {
      tree = p.history.tree;
      calls = p.history.calls;
      holds =
          subst (λ (x : ℕ). BeforeRaise done.count_bytes.new.words p.history.tree p.history.calls (entry done.before).args.class x)
          (sym (done.weigh-bytes.ensures ∙ ap weigh (value (taken done.before) p.history p.holds.it p.lawful p.shows p.holds.holds)))
          (raising done.before p.history p.holds.it p.lawful p.shows p.holds.holds);
    }

pub settle-requires : goal.settle-requires
settle-requires c =
    let done = c in
    let p = (entry (counts done.before)).requires in
    record { tree = p.history.tree; calls = p.history.calls; holds = record { it = p.holds.it; holds = settling done.before p.history p.holds.it p.lawful p.shows p.holds.holds } }

pub overflow_cast-result : goal.overflow_cast-result
overflow_cast-result c = omega (arith, class (entry (counts c.before.before)))

pub returns : goal.returns
returns c = λ h law shows t allowed.
    let done = c in
    let d = taken (counts done.before.before) in
    let timed = (counts done.before.before).before.before.before.before.before.before.before in
    let args = (start d).args in
    let up = raised done.before.before h t law shows allowed in
    let after = c.settle.ensures h.tree h.calls t (settling done.before.before h t law shows allowed) in
    record {
      class = refl;
      rule = refl;
      head =
          record {
            number = d.get-number.ensures ∙ (shows.leaves args.class (take_below h law shows t args.class args.rule allowed)).head_number;
            length = value d h t law shows allowed;
            times = subst (TimesOf h.tree h.calls args.class) (sym timed.times_of-times.ensures) (take_times h law shows t args.class args.rule allowed);
          };
      shows =
          subst (λ (x : List ℕ). ShowsButClock c.settle.new.words x (with_call h (left t args.class args.rule))) (sym (slot-free (counts done.before.before)))
          (take_shows h law shows t args.class args.rule allowed (moved (counts done.before.before) h t law shows allowed) up after);
    }
