-- `sched::start` meets its contract: cleared arrays, the stamp, and for a right tree its count, its classes and their links show the history of no calls.
-- Assumes nothing.
use mathlib.Core.Path.{◌≡◌, subst}
use borrow.Author.Rules.{rules}
use Rattle.std.specs.Prelude.{Err}
use Rattle.tree.specs.declared.Tree.{Tree}
use Rattle.tree.specs.Rules.{RightTree, Judged}
use Rattle.tree.specs.Verdicts.{Verdict, all_right}
use Rattle.tree.proofs.Verdicts.{judged_right, right_judged}
use Rattle.state.proofs.Fresh.{stamped, counted, headed_only, planted_linkable, fresh_shows, fresh_none}
use Rattle.sched.proofs.Starting.{started_both}
use Rattle.sched.proofs.start.Goals as goal

-- a tree whose verdict is `all_right` is right
right_tree : (t : Tree) (v : Verdict) → v ≡ all_right → Judged t v → RightTree t
right_tree t v e judged = judged_right t (subst (Judged t) e judged)

pub plant-requires : goal.plant-requires
plant-requires c =
    let right = right_tree c.args.tree c.check.result (search rules) c.check.ensures in
    (headed_only (counted (stamped c.clear_words.ensures c.put_header.ensures) c.put_header-2.ensures), right.shape.count.below)

pub link-requires : goal.link-requires
link-requires c = planted_linkable (right_tree c.args.tree c.check.result (search rules) c.check.ensures) c.plant.ensures

-- clauses: right reached
pub returns : goal.returns
returns c =
    let right = right_tree c.args.tree c.check.result (search rules) c.check.ensures in
    let shows =
    fresh_shows right.shape.count.below (counted (stamped c.clear_words.ensures c.put_header.ensures) c.put_header-2.ensures) c.plant.ensures c.link.ensures
    c.ranges.stamp.fits c.clear_lengths.ensures
    in
    let both = started_both c.ranges.stamp.fits (right_judged _ right) shows in
    record { right = both.0; reached = both.1 }

-- clauses: right reached
pub returns-in_err-check : goal.returns-in_err-check
returns-in_err-check c =
    let said : c.from_residual.result ≡ Err c.in_err-check.field-0.0 = search rules in
    let refused : c.check.result ≡ Err c.in_err-check.field-0.0 = search rules in
    let both =
    started_both c.ranges.stamp.fits (subst (Judged c.args.tree) refused c.check.ensures)
    (fresh_none c.ranges.stamp.fits c.clear_lengths.ensures (stamped c.clear_words.ensures c.put_header.ensures))
    in
    rw said (record { right = both.0; reached = both.1 })
