-- The proof of the cycle of calls {turn_passive}: each call tells the parent, and goes on where that has turned passive. The measure is the class's number.
-- Assumes nothing.
use Prim.Native.Nat.{ℕ, ◌-◌}
use native.Mathlib.Omega.{arith}
use native.Mathlib.Nat.{lt_trans}
use mathlib.Core.Path.{ap}
use Rattle.rules.specs.declared.Rule.TheVariants.{Fair}
use Rattle.fair.proofs.RestingSteps.{some_of, passing_narrow, passing_falls, one_less, passing_step, passed_step, passed_halt}
use Rattle.fair.proofs.+turn_passive.Goals as goal

pub get-parent-requires : goal.get-parent-requires
get-parent-requires t c = (passing_narrow c.requires.holds.holds, omega arith)

pub get-busy-requires : goal.get-busy-requires
get-busy-requires t c =
    (lt_trans (passing_falls c.requires.holds.holds c.get-parent.result c.get-parent.ensures (some_of c.if-class-eq0.false)) (passing_narrow c.requires.holds.holds), omega arith)

pub overflow_sub-busy : goal.overflow_sub-busy
overflow_sub-busy t c =
    let less = one_less c.requires.holds.holds c.get-parent.result c.get-parent.ensures (some_of c.if-class-eq0.false) 0 Fair in
    omega (arith, c.get-busy.ensures)

pub put-requires : goal.put-requires
put-requires t c =
    (lt_trans (passing_falls c.requires.holds.holds c.get-parent.result c.get-parent.ensures (some_of c.if-class-eq0.false)) (passing_narrow c.requires.holds.holds), omega arith)

pub turn_passive-requires : goal.turn_passive-requires
turn_passive-requires t c = (
  rw c.decreases at (passing_falls c.requires.holds.holds c.get-parent.result c.get-parent.ensures (some_of c.if-class-eq0.false)),
  record {
    tree = c.requires.tree;
    calls = c.requires.calls;
    holds = record {
      it = c.requires.holds.it;
      holds =
          passing_step c.requires.holds.holds c.get-parent.result c.get-parent.ensures (some_of c.if-class-eq0.false)
          (c.get-busy.result - 1) (ap (λ (x : ℕ). x - 1) c.get-busy.ensures)
          c.put.ensures c.if-busy-eq0.true;
    };
  },
)

pub returns-then-busy-eq0 : goal.returns-then-busy-eq0
returns-then-busy-eq0 t c = λ tree cs leaf b.
    passed_step b c.get-parent.result c.get-parent.ensures (some_of c.if-class-eq0.false)
    (c.get-busy.result - 1) (ap (λ (x : ℕ). x - 1) c.get-busy.ensures)
    c.put.ensures c.if-busy-eq0.true (λ told. c.turn_passive.ensures tree cs leaf told)

pub returns-else-busy-eq0 : goal.returns-else-busy-eq0
returns-else-busy-eq0 t c = λ tree cs leaf b.
    passed_halt b c.get-parent.result c.get-parent.ensures (some_of c.if-class-eq0.false)
    (c.get-busy.result - 1) (ap (λ (x : ℕ). x - 1) c.get-busy.ensures)
    c.put.ensures c.if-busy-eq0.false
