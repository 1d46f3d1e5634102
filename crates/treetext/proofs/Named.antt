-- What a text says, by its first word, and what a draft has that is not done.
-- Assumes nothing.
use Prim.Native.Nat.{ℕ, ◌≤◌}
use native.Mathlib.Omega.{arith}
use mathlib.Core.Path.{◌≡◌, refl}
use mathlib.Core.Bool.{Bool, true, false, cond, ◌||◌}
use mathlib.Core.List.{List, [], ◌∷◌}
use lib.Dec.{eqb, ltb}
use lib.ListN.{length}
use borrow.Author.Tests.{ltb-false, ne_eqb}
use Rattle.std.specs.Prelude.{Option, None, Some, Ok, Err}
use Rattle.tree.specs.Trees.{most_classes}
use Rattle.wording.specs.Words.{first, after, same}
use Rattle.print.specs.Spelled.{tree_word, class_word}
use Rattle.treetext.specs.declared.EntryError.TheVariants.{NotAClass}
use Rattle.treetext.specs.declared.Fault.{Fault}
use Rattle.treetext.specs.declared.Draft.{Draft}
use Rattle.treetext.specs.Entries.{head_in, class_in, named, entry_in}
use Rattle.treetext.specs.Texts.{is_faulty, is_done}

named_by : (name rest : List ℕ) → named name rest
    ≡ cond (eqb (length name) 0) (Ok None) (cond (same name tree_word) (head_in rest) (cond (same name class_word) (class_in rest) (Err NotAClass)))
named_by [] rest = refl
named_by (b ∷ name) rest = rw (ne_eqb (length (b ∷ name)) 0 (λ e. omega arith))

pub entry_by : (text : List ℕ) → entry_in text
    ≡ cond (eqb (length (first text)) 0) (Ok None)
    (cond (same (first text) tree_word) (head_in (after text)) (cond (same (first text) class_word) (class_in (after text)) (Err NotAClass)))
unfolding entry_in
entry_by text = named_by (first text) (after text)

-- a draft that is not done has no more classes than the most
neither : (t u : Bool) → (t || u) ≡ false → u ≡ false
neither false u e = e
neither true u e = cc

pub not_done : (d : Draft) → is_done d ≡ false → d.tree.count ≤ most_classes
unfolding is_done
not_done d e = ltb-false most_classes d.tree.count (neither (is_faulty d.fault) (ltb most_classes d.tree.count) e)

-- and no wrong line
right : (fault : Option Fault) (u : Bool) → (is_faulty fault || u) ≡ false → fault ≡ None
right None u e = refl
right (Some fault) u e = cc

pub no_fault : (d : Draft) → is_done d ≡ false → d.fault ≡ None
unfolding is_done
no_fault d e = right d.fault (ltb most_classes d.tree.count) e
