-- `fair::turn_active` meets its contract: a class that turns active starts, and its parent turns active after it, if it was passive. The measure is
-- the class, since a parent has a lower number.
-- Assumes nothing.
use Prim.Native.Nat.{ℕ, ◌<◌}
use mathlib.Core.Path.{subst}
use native.Mathlib.Omega.{arith}
use Rattle.fair.proofs.WakingTurn.{turned_root, turn_parent, turn_lower, turn_start, turn_busy, turn_on, turn_on_done, turn_done}
use Rattle.fair.proofs.+turn_active.Goals as goal

pub returns-then-class-eq0 : goal.returns-then-class-eq0
returns-then-class-eq0 t c = λ tree cs j b. turned_root c.if-class-eq0.true b

pub get-busy-requires : goal.get-busy-requires
get-busy-requires t c = (turn_parent c.requires.holds.holds c.get-parent.result c.get-parent.ensures, omega arith)

pub start_fair-requires : goal.start_fair-requires
start_fair-requires t c =
    record { it = c.requires.tree; holds = turn_start c.requires.holds.holds c.if-class-eq0.false c.get-parent.result c.get-parent.ensures }

pub overflow_add-busy : goal.overflow_add-busy
overflow_add-busy t c =
    record { fits = turn_busy c.requires.holds.holds c.if-class-eq0.false c.get-parent.result c.get-parent.ensures c.get-busy.result c.get-busy.ensures }

pub put-requires : goal.put-requires
put-requires t c = (turn_parent c.requires.holds.holds c.get-parent.result c.get-parent.ensures, omega arith)

pub turn_active-requires : goal.turn_active-requires
turn_active-requires t c =
    let b = c.requires.holds.holds in (
      subst (λ (x : ℕ). c.get-parent.result < x) c.decreases (turn_lower b c.if-class-eq0.false c.get-parent.result c.get-parent.ensures),
      record {
        tree = c.requires.tree;
        calls = c.requires.calls;
        holds = record {
          it = c.requires.holds.it;
          holds =
              turn_on b c.if-class-eq0.false c.get-parent.result c.get-parent.ensures c.get-busy.result c.get-busy.ensures _ _
              (c.start_fair.ensures c.requires.tree (turn_start b c.if-class-eq0.false c.get-parent.result c.get-parent.ensures))
              c.put.ensures c.if-busy-eq0.true;
        };
      },
    )

pub returns-then-busy-eq0 : goal.returns-then-busy-eq0
returns-then-busy-eq0 t c = λ tree cs j b.
    let s = c.start_fair.ensures tree (turn_start b c.if-class-eq0.false c.get-parent.result c.get-parent.ensures) in
    turn_on_done b c.if-class-eq0.false c.get-parent.result c.get-parent.ensures c.get-busy.result c.get-busy.ensures _ _ s c.put.ensures c.if-busy-eq0.true
    (c.turn_active.ensures tree cs j
    (turn_on b c.if-class-eq0.false c.get-parent.result c.get-parent.ensures c.get-busy.result c.get-busy.ensures _ _ s c.put.ensures c.if-busy-eq0.true))

pub returns-else-busy-eq0 : goal.returns-else-busy-eq0
returns-else-busy-eq0 t c = λ tree cs j b.
    turn_done b c.if-class-eq0.false c.get-parent.result c.get-parent.ensures c.get-busy.result c.get-busy.ensures _ _
    (c.start_fair.ensures tree (turn_start b c.if-class-eq0.false c.get-parent.result c.get-parent.ensures))
    c.put.ensures c.if-busy-eq0.false
