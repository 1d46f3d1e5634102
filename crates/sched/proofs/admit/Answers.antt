-- `sched::admit` meets its contract: its tests are the checks 11, 12, 13 and 16, in their order, read off the table.
-- Assumes nothing.
use Prim.Native.Nat.{ℕ, ◌+◌, ◌<◌}
use mathlib.Core.Path.{◌≡◌, sym, ◌∙◌}
use mathlib.Core.Bool.{Bool, true, false, cond}
use mathlib.Core.List.{List}
use native.Mathlib.Omega.{arith}
use lib.Dec.{ltb}
use borrow.Author.Tests.{lt-ltb, le-ltb}
use Rattle.tree.specs.Trees.{is_leaf}
use Rattle.rules.specs.Limits.{most_bytes_accepted, weigh}
use Rattle.rules.specs.Calls.{History}
use Rattle.rules.specs.Queues.{accepted}
use Rattle.rules.specs.Lawful.{Lawful}
use Rattle.rules.specs.Answers.{outcome, refused, passed}
use Rattle.rules.proofs.Sent.{weigh_small, accepted_most}
use Rattle.state.specs.State.{Shows}
use Rattle.state.specs.Table.{at, header_at}
use Rattle.state.specs.Columns.{COUNT, CHILD}
use Rattle.rules.specs.Checks.{leaf_checks}
use Rattle.state.proofs.Chain.{cell_leaf, cell_interior}
use Rattle.state.proofs.Shown.{class_narrow, absent_shown, waiting_shown}
use Rattle.sched.proofs.Arriving.{no_such_leaf, too_short, too_long, leaf_full, bytes_decide}
use Rattle.sched.proofs.admit.Goals as goal
use Rattle.sched.proofs.admit.Goals.{After-header-2, then-header-class-via-then-header-class, then-header-class-via-else-header-class+then-get-ne0, then-length-lt1-via-then-length-lt1, then-length-lt1-via-else-length-lt1+then-length-gt-LONGEST}

-- the class is one of the tree, and it is a leaf
module _ {m l : List ℕ} {h : History} (law : Lawful h) (s : Shows m l h) (class : ℕ) {count : ℕ} (counted : count ≡ header_at m COUNT) (some : class < count) where
  below : class < h.tree.count
  below = omega (arith, s.header.count, counted, some)

  leaf : {child : ℕ} → child ≡ at m class CHILD → child ≡ 0 → is_leaf h.tree class ≡ true
  leaf e none = cell_leaf (s.trees class below) below (sym e ∙ none)

-- 11, 12 and 13 are passed, and the bytes decide
module _ (c : After-header-2) (h : History) (l : List ℕ) (law : Lawful h) (s : Shows c.args.words.now l h) where
  abbrev bytes : ℕ
  bytes = accepted h.calls + weigh c.args.length

  decided : (full : Bool) → ltb most_bytes_accepted bytes ≡ full → outcome (leaf_checks h.tree h.calls c.args.class c.args.length) ≡ cond full (refused 16) passed
  decided full e =
      let args = c.args in
      let some = c.if-header-class.false in
      bytes_decide h args.class args.length (leaf law s args.class c.header.ensures some c.get.ensures c.if-get-ne0.false) c.if-length-lt1.false c.if-length-gt-LONGEST.false
      (omega (arith, waiting_shown law s args.class (below law s args.class c.header.ensures some), c.get-3.ensures, c.get-2.ensures, c.if-get-ge-ROOM.false))
      full
      e

  bytes_are : c.header-2.result + c.weigh-bytes.result ≡ bytes
  bytes_are = omega (arith, c.header-2.ensures, c.weigh-bytes.ensures, s.header.accepted)

pub get-requires : goal.get-requires
get-requires c =
    let r = c.requires in
    (class_narrow r.holds.lawful r.holds.shows c.args.class (below r.holds.lawful r.holds.shows c.args.class c.header.ensures c.if-header-class.false), omega arith)

pub get-requires-2 : goal.get-requires-2
get-requires-2 c =
    let r = c.requires in
    (class_narrow r.holds.lawful r.holds.shows c.args.class (below r.holds.lawful r.holds.shows c.args.class c.header.ensures c.if-header-class.false), omega arith)

pub get-requires-3 : goal.get-requires-3
get-requires-3 c =
    let r = c.requires in
    (class_narrow r.holds.lawful r.holds.shows c.args.class (below r.holds.lawful r.holds.shows c.args.class c.header.ensures c.if-header-class.false), omega arith)

pub overflow_sub-get : goal.overflow_sub-get
overflow_sub-get c =
    let r = c.requires in
    omega (
      arith,
      waiting_shown r.holds.lawful r.holds.shows c.args.class (below r.holds.lawful r.holds.shows c.args.class c.header.ensures c.if-header-class.false),
      c.get-3.ensures,
      c.get-2.ensures,
    )

pub overflow_add-header : goal.overflow_add-header
overflow_add-header c =
    let r = c.requires.holds in
    omega (
      arith,
      c.header-2.ensures,
      c.weigh-bytes.ensures,
      weigh_small c.args.length c.if-length-gt-LONGEST.false,
      r.shows.header.accepted,
      accepted_most r.history.tree r.history.calls r.lawful.lawful,
    )

pub returns-then-header-class : goal.returns-then-header-class
returns-then-header-class c = λ l h law s.
    let args = c.args in
    elim c.then-header-class.branch [
      | then-header-class-via-then-header-class w ↦ no_such_leaf h args.class args.length (absent_shown law s args.class (omega (arith, c.header.ensures, w.if-header-class.true)))
      | then-header-class-via-else-header-class+then-get-ne0 w ↦
          let class = below law s args.class c.header.ensures w.if-header-class.false in
          no_such_leaf h args.class args.length (cell_interior (s.trees args.class class) class (λ e. w.if-get-ne0.true (w.get.ensures ∙ e)))
    ]

pub returns-then-length-lt1 : goal.returns-then-length-lt1
returns-then-length-lt1 c = λ l h law s.
    let args = c.args in
    let is_leaf = leaf law s args.class c.header.ensures c.if-header-class.false c.get.ensures c.if-get-ne0.false in
    elim c.then-length-lt1.branch [
      | then-length-lt1-via-then-length-lt1 w ↦ too_short h args.class args.length is_leaf w.if-length-lt1.true
      | then-length-lt1-via-else-length-lt1+then-length-gt-LONGEST w ↦ too_long h args.class args.length is_leaf w.if-length-gt-LONGEST.true
    ]

pub returns-then-get-ge-ROOM : goal.returns-then-get-ge-ROOM
returns-then-get-ge-ROOM c = λ l h law s.
    let args = c.args in
    let some = c.if-header-class.false in
    leaf_full h args.class args.length (leaf law s args.class c.header.ensures some c.get.ensures c.if-get-ne0.false) c.if-length-lt1.false c.if-length-gt-LONGEST.false
    (omega (arith, waiting_shown law s args.class (below law s args.class c.header.ensures some), c.get-3.ensures, c.get-2.ensures, c.if-get-ge-ROOM.true))

pub returns-then-header-bytes-gt-MOST_BYTES : goal.returns-then-header-bytes-gt-MOST_BYTES
returns-then-header-bytes-gt-MOST_BYTES c = λ l h law s.
    decided c.before h l law s true (lt-ltb most_bytes_accepted (bytes c.before h l law s) (omega (arith, bytes_are c.before h l law s, c.if-header-bytes-gt-MOST_BYTES.true)))

pub returns : goal.returns
returns c = λ l h law s.
    decided c.before h l law s false (le-ltb most_bytes_accepted (bytes c.before h l law s) (omega (arith, bytes_are c.before h l law s, c.if-header-bytes-gt-MOST_BYTES.false)))
