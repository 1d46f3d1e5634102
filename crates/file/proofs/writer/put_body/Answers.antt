-- `file::writer::put_body` meets its contract: the words that the part has room for are the body's, and fill the part.
-- Assumes nothing.
use Prim.Native.Nat.{ℕ}
use mathlib.Core.Path.{sym, ap, ◌∙◌}
use mathlib.Core.List.{List}
use native.Mathlib.Omega.{arith}
use lib.Seq.{sets, length-take-le}
use Rattle.file.specs.declared.Order.TheVariants.{Big}
use Rattle.file.specs.Writing.{bytes_of, body_words}
use Rattle.file.proofs.WriteLaws.Stores.{sets_all}
use Rattle.file.proofs.WriteLaws.Words.{length_bytes_of}
use Rattle.file.proofs.WriteLaws.Bodies.{body_most, body_length, code_words, words_room}
use Rattle.file.proofs.writer.put_body.Goals as goal

pub slice_bounds-words-end : goal.slice_bounds-words-end
slice_bounds-words-end c = omega (arith, body_most c.args.class.curve)

pub slice_bounds-put_words-end : goal.slice_bounds-put_words-end
slice_bounds-put_words-end c = sym (length-take-le _ (code_words c.args.class c.from-code.result) (omega (arith, body_most c.args.class.curve)))

pub returns : goal.returns
returns c =
    let class = c.args.class in
    let body = c.args.body.now in
    c.put_words.ensures
    ∙ ap (λ (ws : List ℕ). sets body 0 (bytes_of Big ws)) (words_room class c.from-code.result _ c.from-code.ensures (omega (arith, body_length class)))
    ∙ sets_all body (bytes_of Big (body_words class)) (omega (arith, length_bytes_of Big (body_words class), body_length class))
