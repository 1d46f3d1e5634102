-- `file::writer::put_contents` meets its contract: the loop's invariant: the entries of the classes below `i` stand after the header, and `at` is the place of body `i`.
-- The measure is what is left of the count.
-- Assumes nothing.
use Prim.Native.Nat.{ℕ}
use mathlib.Core.Path.{sym, ap, ◌∙◌}
use mathlib.Core.List.{List, [], ◌∷◌}
use native.Mathlib.Omega.{arith}
use lib.Seq.{sets}
use Rattle.tree.specs.Trees.{curve_of}
use Rattle.file.specs.declared.Order.TheVariants.{Big}
use Rattle.file.specs.Writing.{bytes_of, entry_words, contents_words}
use Rattle.file.proofs.WriteLaws.Words.{words_on, no_word}
use Rattle.file.proofs.WriteLaws.Bodies.{place_first, place_next, place_most, body_most, numbered_none, numbered_next, contents_length}
use Rattle.file.proofs.writer.put_contents.Goals as goal

pub loop-i-init : goal.loop-i-init
loop-i-init c =
    let tree = c.args.tree in
    let out = c.args.out.now in
    (omega (arith, place_first tree), no_word Big out 16 ∙ ap (λ (ws : List ℕ). sets out 16 (bytes_of Big ws)) (sym (numbered_none (entry_words tree))))

pub overflow_add-at : goal.overflow_add-at
overflow_add-at c =
    let tree = c.args.tree in
    let i = c.loop-i.i in
    omega (arith, place_most tree i, body_most (curve_of tree i))

pub loop-i-preserved : goal.loop-i-preserved
loop-i-preserved c =
    let tree = c.args.tree in
    let out = c.args.out.now in
    let loop = c.loop-i in
    let i = loop.i in (
      omega (arith, place_next tree i),
      words_on Big out 16 (contents_words tree i) (entry_words tree i) loop.out _ c.entry_at.result
          (omega (arith, contents_length tree i))
          loop.invariant.1
          (c.put_words.ensures ∙ (λ j. sets loop.out c.entry_at.result (bytes_of Big (loop.invariant.0 j ∷ c.class_bytes-bytes.ensures j ∷ []))))
          ∙ ap (λ (ws : List ℕ). sets out 16 (bytes_of Big ws)) (sym (numbered_next (entry_words tree) i)),
    )
