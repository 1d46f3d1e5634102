-- `file::writer::put_words` meets its contract: the loop's invariant: the first `k` words stand at their place.
-- Assumes nothing.
use Prim.Native.Nat.{ℕ, ◌+◌, ◌*◌}
use mathlib.Core.Path.{sym, ap, ◌∙◌}
use mathlib.Core.List.{List}
use native.Mathlib.Numerals.{add-one}
use native.Mathlib.Omega.{arith}
use lib.ListN.{take, get_or}
use lib.Seq.{sets, take-suc, length-take-le}
use Rattle.file.specs.declared.Order.TheVariants.{Big}
use Rattle.file.specs.Writing.{bytes_of}
use Rattle.file.proofs.WriteLaws.Words.{no_word, word_on}
use Rattle.file.proofs.writer.put_words.Goals as goal

pub loop-k-init : goal.loop-k-init
loop-k-init c = no_word Big c.args.out.now c.args.at

pub loop-k-preserved : goal.loop-k-preserved
loop-k-preserved c =
    let a = c.args in
    let words = a.words.now in
    let k = c.loop-k.k in
    word_on Big a.out.now a.at (take k words) (get_or words k 0) _ _ (a.at + 4 * k) (omega (arith, length-take-le k words (omega arith))) c.loop-k.invariant c.put_word.ensures
    ∙ ap (λ (ws : List ℕ). sets a.out.now a.at (bytes_of Big ws)) (sym (take-suc words k 0 (omega arith)) ∙ ap (λ (n : ℕ). take n words) (sym (add-one k)))
