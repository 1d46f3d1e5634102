-- The tree that words say, class by class.
-- Assumes nothing.
use Prim.Native.Nat.{ℕ, zero, suc, ◌+◌, ◌*◌}
use mathlib.Core.Path.{◌≡◌, refl, ◌∙◌, sym, ap}
use mathlib.Core.List.{List, [], ◌∷◌, ◌++◌, map}
use native.Mathlib.Numerals.{add-one}
use native.Mathlib.Omega.{arith}
use Rattle.std.specs.List.{range_with_len}
use Rattle.std.proofs.lemmas.List.FromFn.{map-range_with_len_more}
use Rattle.tree.specs.declared.Class.{Class}
use Rattle.tree.specs.declared.Tree.{Tree}
use Rattle.state.specs.Table.{CLASSES}
use Rattle.host.specs.Words.{word_at, class_from, first_classes, tree_said}

abbrev pub class_said : List ℕ → ℕ → Class
class_said words i = class_from words (1 + 6 * i)

first_made : (words : List ℕ) (n : ℕ) → first_classes words n ≡ map (class_said words) (range_with_len 0 n)
unfolding first_classes
first_made words zero = refl
first_made words (suc n) =
    ap (λ (l : List Class). l ++ (class_said words n ∷ [])) (first_made words n)
    ∙ (sym (map-range_with_len_more (class_said words) 0 n n (omega arith)) ∙ ap (λ (k : ℕ). map (class_said words) (range_with_len 0 k)) (add-one n))

pub tree_is : (words : List ℕ) (tree : Tree) → tree.count ≡ word_at words 0 → tree.classes ≡ map (class_said words) (range_with_len 0 CLASSES) → tree ≡ tree_said words
unfolding tree_said
tree_is words tree p q = λ i. record { count = p i; classes = (q ∙ sym (first_made words CLASSES)) i }
