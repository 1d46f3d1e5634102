-- `why::of_leaf` meets its contract: an empty leaf, nothing chosen, or the reason by the rule that chose.
-- Assumes nothing.
use mathlib.Core.Path.{◌≡◌, sym, ◌∙◌}
use mathlib.Core.Bool.{true}
use mathlib.Core.List.{List}
use native.Mathlib.Omega.{arith}
use Rattle.tree.specs.declared.Tree.{Tree}
use Rattle.rules.specs.Calls.{Call}
use Rattle.rules.specs.Queues.{waits}
use Rattle.why.specs.Steps.{Asked}
use Rattle.why.proofs.Shares.{asked_narrow, is_empty, is_waiting, by_real_time, by_fair}
use Rattle.why.proofs.of_leaf.Goals as goal
use Rattle.why.proofs.of_leaf.Goals.{Else-get-eq0}

-- a packet waits in the leaf
waiting : (c : Else-get-eq0) {tree : Tree} {cs : List Call} → Asked c.args.words.now tree cs c.args.tick c.args.sender c.args.leaf
    → waits cs c.args.leaf ≡ true
waiting c a = is_waiting a (λ e. c.if-get-eq0.false (c.get.ensures ∙ e))

pub get-requires : goal.get-requires
get-requires c = (asked_narrow c.requires.holds, omega arith)

pub returns-then-get-eq0 : goal.returns-then-get-eq0
returns-then-get-eq0 c = λ tree cs a. is_empty a (sym c.get.ensures ∙ c.if-get-eq0.true)

pub by_deadline-requires : goal.by_deadline-requires
by_deadline-requires c =
    let known = c in
    let p = known.requires in
    record {
      tree = p.tree;
      calls = p.calls;
      holds = by_real_time p.holds known.in-Some.sender.class known.in-Some.sender.rule known.in-Some.is (waiting known.before.before p.holds) c.in-RealTime.is;
    }

pub by_share-requires : goal.by_share-requires
by_share-requires c =
    let known = c in
    let p = known.requires in
    record {
      tree = p.tree;
      calls = p.calls;
      holds =
          record {
            it = known.args.tick;
            holds = by_fair p.holds known.in-Some.sender.class known.in-Some.sender.rule known.in-Some.is (waiting known.before.before p.holds) c.in-Fair.is;
          };
    }

pub returns-in-RealTime : goal.returns-in-RealTime
returns-in-RealTime c = λ tree cs a.
    let known = c in
    c.by_deadline.ensures tree cs (by_real_time a known.in-Some.sender.class known.in-Some.sender.rule known.in-Some.is (waiting known.before.before.before a) c.in-RealTime.is)

pub returns-in-Fair : goal.returns-in-Fair
returns-in-Fair c = λ tree cs a.
    let known = c in
    c.by_share.ensures known.args.tick tree cs
    (by_fair a known.in-Some.sender.class known.in-Some.sender.rule known.in-Some.is (waiting known.before.before.before a) c.in-Fair.is)
