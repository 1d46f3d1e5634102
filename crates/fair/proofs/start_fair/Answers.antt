-- `fair::start_fair` meets its contract: the mark and the kept piece are the definitions', and are stored before the virtual time is worked out.
-- Assumes nothing.
use mathlib.Core.Path.{◌∙◌}
use Rattle.fair.proofs.WakingCells.{start_raises, start_done}
use Rattle.fair.proofs.start_fair.Goals as goal

pub bring_up-requires : goal.bring_up-requires
bring_up-requires c =
    let b = c.requires.holds in
    start_raises c.args.words.now c.requires.it c.args.parent c.args.class b _ _ _ c.max-mark.result c.lower-kept.result
    c.put.ensures c.put-2.ensures c.put-3.ensures
    (c.lower-kept.ensures
    ∙ simp (c.share_of.ensures, c.fair_piece.ensures, c.max-mark.ensures, c.get-2.ensures, c.get.ensures, c.mark_by_children.ensures c.requires.it b.family))

pub returns : goal.returns
returns c = λ tree b.
    start_done c.args.words.now tree c.args.parent c.args.class b _ _ _ c.max-mark.result c.lower-kept.result
    c.put.ensures c.put-2.ensures c.put-3.ensures
    (c.lower-kept.ensures
    ∙ simp (c.share_of.ensures, c.fair_piece.ensures, c.max-mark.ensures, c.get-2.ensures, c.get.ensures, c.mark_by_children.ensures tree b.family))
    _
    (c.max-mark.ensures ∙ simp (c.get.ensures, c.mark_by_children.ensures tree b.family))
    c.bring_up.ensures
