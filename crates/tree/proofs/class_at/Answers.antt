-- `tree::class_at` meets its contract: past the classes of the array there is no class.
-- Assumes nothing.
use Prim.Native.Nat.{◌≤◌}
use mathlib.Core.Path.{◌≡◌, refl, sym, ◌∙◌}
use native.Mathlib.Omega.{arith}
use lib.ListN.{length, get_or-eq_default}
use Rattle.tree.specs.Trees.{most_classes, class_at, no_class}
use Rattle.tree.proofs.class_at.Goals as goal

pub returns-then-number-ge-MOST_CLASSES : goal.returns-then-number-ge-MOST_CLASSES
unfolding class_at
returns-then-number-ge-MOST_CLASSES c =
    let start = c.before.before in
    let held : length start.args.tree.classes ≡ most_classes = start.well_formed.0.1.1.1.0.1.0.1 in
    let past : length start.args.tree.classes ≤ start.args.number = omega arith in
    c.no_class.ensures ∙ sym (get_or-eq_default start.args.tree.classes no_class past)

pub returns : goal.returns
unfolding class_at
returns c = refl
