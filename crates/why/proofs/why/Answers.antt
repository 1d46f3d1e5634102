-- `why::why` meets its contract: refused by the tick, or for its room, or filled; for every history that the arrays show.
-- Assumes nothing.
use Prim.Native.Nat.{ℕ, ◌*◌, ◌≤◌, ◌<◌}
use Rattle.std.specs.Prelude.{Ok, Err}
use mathlib.Core.Path.{◌≡◌}
use mathlib.Core.List.{List}
use borrow.Author.Rules.{rules}
use native.Mathlib.Omega.{arith}
use lib.ListN.{length}
use Rattle.tree.specs.declared.Refusal.TheVariants.{SmallBuffer}
use Rattle.rules.specs.Calls.{History}
use Rattle.rules.specs.Lawful.{Lawful}
use Rattle.state.specs.State.{Shows}
use Rattle.reason.specs.Reasons.{numbers}
use Rattle.state.proofs.Shown.{clock_shown, stamp_shown, shown_told}
use Rattle.why.specs.Promises.{line_count, WhyRight}
use Rattle.why.specs.Steps.{Fillable, Filled}
use Rattle.why.proofs.Calls.{count_narrow, clock_refuses, too_short, fillable, sheet_right}
use Rattle.why.proofs.why.Goals as goal
use Rattle.why.proofs.why.Goals.{After-leaves-lines}

module _ (c : After-leaves-lines) {l : List ℕ} (h : History) (law : Lawful h) (shows : Shows c.args.words.now l h) where
  in_time : c.tick.result ≡ Ok c.in_ok-now.now
  in_time = search rules

  counted : c.leaves-lines.result ≡ line_count h.tree
  counted = c.leaves-lines.ensures h.tree h.calls (shown_told law shows)

  short : (s : List ℕ) → length s < numbers * c.leaves-lines.result → WhyRight h c.args.stamp (Err SmallBuffer) s s
  short s less =
      too_short h law shows c.args.stamp c.tick.ensures s c.in_ok-now.now in_time (omega (arith, counted))

  module _ (s : List ℕ) (room : numbers * c.leaves-lines.result ≤ length s) where
    ready : Fillable c.args.words.now h.tree h.calls c.in_ok-now.now s
    ready =
        fillable h law shows c.args.stamp c.tick.ensures s c.in_ok-now.now in_time (omega (arith, counted))

    done : (t : List ℕ) → Filled h.tree h.calls c.in_ok-now.now h.tree.count s t
        → WhyRight h c.args.stamp (Ok c.leaves-lines.result) s t
    done t f =
        sheet_right h law shows c.args.stamp c.tick.ensures s c.in_ok-now.now in_time (omega (arith, counted)) c.leaves-lines.result t counted f

pub tick-requires : goal.tick-requires
tick-requires c = let p = c.requires.holds in (clock_shown p.lawful p.shows, stamp_shown p.lawful p.shows)

pub overflow_mul-lines : goal.overflow_mul-lines
overflow_mul-lines c =
    let p = c.requires.holds in
    omega (arith, counted (goal.at.overflow_mul-lines c).After-leaves-lines p.history p.lawful p.shows, count_narrow p.lawful)

pub returns-then-sheet-lines : goal.returns-then-sheet-lines
returns-then-sheet-lines c = λ l h law shows. short (goal.at.returns-then-sheet-lines c).After-leaves-lines h law shows c.args.sheet.now (omega (arith, c.if-sheet-lines.true))

pub fill-requires : goal.fill-requires
fill-requires c =
    let p = c.requires.holds in
    record {
      tree = p.history.tree;
      calls = p.history.calls;
      holds = ready (goal.at.fill-requires c).After-leaves-lines p.history p.lawful p.shows c.args.sheet.now (omega (arith, c.if-sheet-lines.false));
    }

pub returns-in_err-now : goal.returns-in_err-now
returns-in_err-now c = λ l h law shows.
    let said : c.from_residual.result ≡ Err c.in_err-now.field-0.0 = search rules in
    let late : c.tick.result ≡ Err c.in_err-now.field-0.0 = search rules in
    rw said (clock_refuses h law shows c.args.stamp c.tick.ensures c.args.sheet.now _ late)

pub returns : goal.returns
returns c = λ l h law shows.
    let counting = (goal.at.returns c).After-leaves-lines in
    let room = c.if-sheet-lines.false in
    let s = c.args.sheet.now in
    done counting h law shows s (omega (arith, room)) c.fill.new.sheet
    (c.fill.ensures h.tree h.calls (ready counting h law shows s (omega (arith, room))))
