-- `sched::settle` meets its contract: the two counts tell whether a packet waits, and its slot has its length.
-- Assumes nothing.
use Prim.Native.Nat.{ℕ, ◌≤◌}
use mathlib.Core.Path.{◌≡◌, sym, ◌∙◌, ap, subst}
use mathlib.Core.Bool.{true}
use mathlib.Core.List.{List, ◌∷◌}
use native.Mathlib.Omega.{arith}
use lib.ListN.{get_or}
use Rattle.tree.specs.declared.Tree.{Tree}
use Rattle.rules.specs.Limits.{longest}
use Rattle.rules.specs.Calls.{Call, left}
use Rattle.rules.specs.Queues.{waits, head_length}
use Rattle.state.specs.Table.{at, slot_of}
use Rattle.state.specs.Columns.{NEXT_NUMBER, HEAD_NUMBER}
use Rattle.fair.specs.Steps.{BeforeRest, AfterRest}
use Rattle.sched.specs.StepsDeparting.{BeforeSettle}
use Rattle.sched.proofs.DepartingNext.{settle_class, next_waits, none_waits, next_length, next_short, next_timable, sent_is_due, settled_next, settled_last, before_rest}
use Rattle.sched.proofs.settle.Goals as goal
use Rattle.sched.proofs.settle.Goals.{After-length_of-length, After-put_times, Start}

-- the entry
abbrev start : After-length_of-length → Start
start c = c.before.before.before.before

module _ (c : After-length_of-length) {tree : Tree} {cs : List Call} {t : ℕ} (b : BeforeSettle (start c).args.words.now (start c).args.lengths.now tree cs (start c).args.class t (start c).args.rule) where
  still : waits (left t (start c).args.class (start c).args.rule ∷ cs) (start c).args.class ≡ true
  still = next_waits b (omega (arith, c.get-number.ensures, c.get.ensures, c.if-number-get.true))

  value : c.length_of-length.result ≡ head_length (left t (start c).args.class (start c).args.rule ∷ cs) (start c).args.class
  value =
      c.length_of-length.ensures
      ∙ ap (λ (x : ℕ). get_or (start c).args.lengths.now (slot_of (start c).args.class x) 0) c.get-number.ensures
      ∙ next_length b still

  short : c.length_of-length.result ≤ longest
  short = omega (arith, value, next_short b still)

-- no packet waits: what the code knows in the second arm
abbrev entry : After-put_times → Start
entry c = c.before.before.before.before.before

less : (c : After-put_times) → at (entry c).args.words.now (entry c).args.class NEXT_NUMBER ≤ at (entry c).args.words.now (entry c).args.class HEAD_NUMBER
less c =
    let branch = c in
    omega (arith, branch.get-number.ensures, branch.get.ensures, branch.if-number-get.false)

resting : (c : After-put_times) {tree : Tree} {cs : List Call} {t : ℕ}
    → BeforeSettle (entry c).args.words.now (entry c).args.lengths.now tree cs (entry c).args.class t (entry c).args.rule
    → BeforeRest c.put_times.new.words tree cs (entry c).args.class
resting c {tree} {cs} b =
    subst (λ (x : List ℕ). BeforeRest x tree cs (entry c).args.class) (sym c.put_times.ensures) (before_rest b (none_waits b (less c)) (less c))

pub get-number-requires : goal.get-number-requires
get-number-requires c = (settle_class c.requires.holds.holds, omega arith)

pub get-requires : goal.get-requires
get-requires c = (settle_class c.requires.holds.holds, omega arith)

pub length_of-length-requires : goal.length_of-length-requires
length_of-length-requires c = settle_class c.requires.holds.holds

pub time_next-requires : goal.time_next-requires
time_next-requires c =
    let b = (start c.before).requires.holds.holds in
    (settle_class b, λ some. next_timable b _ (short c.before b) some, sent_is_due b)

pub put_times-requires : goal.put_times-requires
put_times-requires c = settle_class c.requires.holds.holds

pub rest-requires : goal.rest-requires
rest-requires c =
    let pre = (entry c.before).requires in
    record { tree = pre.tree; calls = pre.calls; holds = resting c.before pre.holds.holds }

pub returns-then-number-get : goal.returns-then-number-get
returns-then-number-get c = λ tree cs t b.
    let d = c in
    settled_next (start d.before.before).args.rule b _ (value d.before.before b) (still d.before.before b) c.time_next.ensures

pub returns-else-number-get : goal.returns-else-number-get
returns-else-number-get c = λ tree cs t b.
    let done = c in
    settled_last b (none_waits b (less done.before.before))
    (subst (λ (x : List ℕ). AfterRest x c.rest.new.words tree cs (entry done.before.before).args.class) done.put_times.ensures (c.rest.ensures tree cs (resting done.before.before b)))
