-- Each class is what the words say of its number, since the closure keeps the words that it was made with.
-- Assumes nothing.
use mathlib.Core.Path.{◌≡◌, refl, ◌∙◌, ap}
use Prim.Native.Nat.{◌+◌, ◌*◌}
use Rattle.tree.specs.Trees.{no_class}
use Rattle.host.specs.Words.{class_from}
use Rattle.tree.proofs.Made.{made}
use Rattle.host.proofs.Saying.{class_said, tree_is}
use Rattle.host.proofs.words.tree_of.Goals as goal

pub returns : goal.returns
returns c =
    let words = c.args.words in
    tree_is words.now _ c.word.ensures
    (made (λ f. f.0 ≡ words) (class_said words.now)
    (λ f i y f' same called. (called.met.0 ∙ same, called.met.1 ∙ ap (λ w. class_from w.now (1 + 6 * i)) same))
    c.from_fn.result _ _ refl c.from_fn.ensures.items no_class)
