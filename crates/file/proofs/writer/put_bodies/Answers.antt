-- `file::writer::put_bodies` meets its contract: the loop's invariant: the bodies of the classes below `i` stand after the contents, and `at` is the place of body `i`.
-- The measure is what is left of the count.
-- Assumes nothing.
use Prim.Native.Nat.{ℕ, ◌+◌, ◌≤◌, ◌<◌, ◌-◌}
use mathlib.Core.Path.{◌≡◌, sym, ap, ap₂, ◌∙◌}
use mathlib.Core.List.{List}
use native.Mathlib.Omega.{arith}
use native.Mathlib.Numerals.{add-one-le}
use lib.ListN.{length}
use lib.Seq.{sets}
use Rattle.tree.specs.declared.Class.{Class}
use Rattle.tree.specs.Trees.{class_at, curve_of}
use Rattle.file.specs.declared.Order.TheVariants.{Big}
use Rattle.file.specs.Writing.{bytes_of, curve_bytes, body_words, body_place, bodies_words}
use Rattle.tree.proofs.Stores.{sets_part}
use Rattle.file.proofs.WriteLaws.Words.{words_on, no_word, length_bytes_of}
use Rattle.file.proofs.WriteLaws.Bodies.{place_first, place_next, place_most, places_rise, body_most, body_length, numbered_none, numbered_next, bodies_length}
use Rattle.file.proofs.writer.put_bodies.Goals as goal
use Rattle.file.proofs.writer.put_bodies.Goals.{After-class_at, After-class_bytes}

-- the part that is lent to a body lies within the buffer
part-within : (c : After-class_bytes) → c.loop-i.at + c.class_bytes.result ≤ length c.loop-i.out
part-within c =
    let tree = c.args.tree in
    let i = c.loop-i.i in
    let here : i < tree.count = omega arith in
    omega (arith, place_next tree i, places_rise tree (i + 1) tree.count (add-one-le here))

-- and is as long as the body
part-long : (c : After-class_at) → c.class_bytes.result ≡ curve_bytes c.class_at.result.curve
part-long c = c.class_bytes.ensures ∙ sym (ap (λ (k : Class). curve_bytes k.curve) c.class_at.ensures)

pub loop-i-init : goal.loop-i-init
loop-i-init c =
    let tree = c.args.tree in
    let out = c.args.out.now in
    (omega (arith, place_first tree), no_word Big out (body_place tree 0) ∙ ap (λ (ws : List ℕ). sets out (body_place tree 0) (bytes_of Big ws)) (sym (numbered_none (λ (k : ℕ). body_words (class_at tree k)))))

pub overflow_add-end : goal.overflow_add-end
overflow_add-end c =
    let tree = c.args.tree in
    let i = c.loop-i.i in
    omega (arith, place_most tree i, body_most (curve_of tree i))

pub slice_bounds-put_body-end : goal.slice_bounds-put_body-end
slice_bounds-put_body-end c = part-within (goal.at.slice_bounds-put_body-end c).After-class_bytes

pub loop-i-preserved : goal.loop-i-preserved
loop-i-preserved c =
    let start = c.args in
    let tree = start.tree in
    let loop = c.loop-i in
    let i = loop.i in
    let bytes = c.class_bytes in
    let body = c.put_body in
    let class = c.class_at in
    let after : _ ≡ sets loop.out loop.at body.new.body =
    sets_part loop.out loop.at (loop.at + bytes.result - loop.at) body.new.body
    (omega (arith, ap length body.ensures, length_bytes_of Big (body_words class.result), body_length class.result, part-long (goal.at.loop-i-preserved c).After-class_at))
    (omega (arith, part-within (goal.at.loop-i-preserved c).After-class_bytes)) in (
      omega (arith, place_next tree i),
      words_on Big start.out.now (body_place tree 0) (bodies_words tree i) (body_words (class_at tree i)) loop.out _ loop.at
          (omega (arith, bodies_length tree i, place_first tree))
          loop.invariant.1
          (after ∙ ap (sets loop.out loop.at) (body.ensures ∙ ap (λ (k : Class). bytes_of Big (body_words k)) class.ensures))
          ∙ ap (λ (ws : List ℕ). sets start.out.now (body_place tree 0) (bytes_of Big ws)) (sym (numbered_next (λ (k : ℕ). body_words (class_at tree k)) i)),
    )

pub returns : goal.returns
returns c =
    let start = c.args in
    let last : c.loop-i.i ≡ start.tree.count = omega arith in
    c.loop-i.invariant.1 ∙ ap₂ (λ (at n : ℕ). sets start.out.now at (bytes_of Big (bodies_words start.tree n))) (place_first start.tree) last
