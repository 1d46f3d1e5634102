-- `replay::turns::Window::keep` meets its contract: it copies a part of the text to the front.
-- Assumes nothing.
use Rattle.std.proofs.Common.{◌≤◌, length, refl, arith}
use Rattle.replay.proofs.Moving.{kept_in_front}
use Rattle.replay.proofs.turns.Window.keep.Goals as goal

pub returns : goal.returns
returns c =
    let s = c.args.self.now in
    let fits : s.end ≤ length s.text = omega (arith, c.copy_within.auto.self, c.copy_within.ensures.len, s.within) in
    (refl, refl, rw c.copy_within.ensures.after (kept_in_front s.text s.from s.end s.ordered fits))
