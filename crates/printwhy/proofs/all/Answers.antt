-- `printwhy::all` meets its contract: the loop's invariant: the lines before the row are printed, from the front.
-- Assumes nothing.
use Prim.Native.Nat.{ℕ, zero, suc, ◌+◌, ◌*◌, ◌/◌, ◌≤◌, ◌<◌}
use mathlib.Core.Path.{◌≡◌, refl, sym, ◌∙◌, ap}
use mathlib.Core.List.{List, ◌++◌}
use native.Mathlib.Omega.{arith}
use native.Mathlib.Numerals.{add-one}
use lib.Dec.{lit<}
use Rattle.std.proofs.Common.{add-zero}
use lib.ListN.{length, get_or, take, drop}
use lib.Seq.{length-take-le}
use Rattle.std.specs.Simd.{first_chunks}
use Rattle.std.proofs.lemmas.List.{get_or-take, get_or-drop}
use Rattle.print.proofs.Stores.{nothing, then, same_as}
use Rattle.reason.specs.Reasons.{numbers}
use Rattle.printwhy.specs.Lines.{line_text_at, sheet_text}
use Rattle.printwhy.proofs.all.Goals as goal

-- the text of a line more
text_next : (sheet : List ℕ) (i : ℕ) → sheet_text sheet (i + 1) ≡ sheet_text sheet i ++ line_text_at sheet (numbers * i)
unfolding sheet_text
text_next sheet i = rw (add-one i) refl

-- a row's numbers are those of its place in the sheet
row_number : (sheet d : List ℕ) (n i f : ℕ) → i < n → f < numbers → get_or (get_or (first_chunks numbers n sheet) i d) f 0 ≡ get_or sheet (numbers * i + f) 0
row_number sheet d zero i f l m = absurd (omega arith)
row_number sheet d (suc n) zero f l m = get_or-take numbers sheet f 0 m ∙ ap (λ (k : ℕ). get_or sheet k 0) (omega arith)
row_number sheet d (suc n) (suc i) f l m =
    row_number (drop numbers sheet) d n i f (omega arith) m
    ∙ get_or-drop numbers sheet (numbers * i + f) 0
    ∙ ap (λ (k : ℕ). get_or sheet k 0) (omega arith)

-- so its text is that of the line there
row_text : (sheet d : List ℕ) (rows : List (List ℕ)) (n lines i : ℕ) → rows ≡ first_chunks numbers n sheet → i < lines → lines ≤ n
    → line_text_at (get_or (take lines rows) i d) 0 ≡ line_text_at sheet (numbers * i)
row_text sheet d rows n lines i e l m =
    let same : (f : ℕ) → f < numbers → get_or (get_or (first_chunks numbers n sheet) i d) f 0 ≡ get_or sheet (numbers * i + f) 0 =
    λ f h. row_number sheet d n i f (omega arith) h in
    rw (e, get_or-take lines (first_chunks numbers n sheet) i d l, same 0 (lit< tt), same 1 (lit< tt), same 2 (lit< tt), same 3 (lit< tt), same 4 (lit< tt), add-zero (numbers * i)) refl

pub loop-row-init : goal.loop-row-init
unfolding sheet_text
loop-row-init c = (omega arith, nothing c.args.printer.now (omega arith))

pub loop-row-preserved : goal.loop-row-preserved
loop-row-preserved c =
    let loop = c.loop-row in
    let row = c.put_row.ensures in
    let sheet = c.args.sheet.now in
    let room : c.args.lines ≤ length sheet / 5 = omega arith in
    let whole : c.args.lines ≤ length c.as_chunks.result.0.now = omega (arith, c.as_chunks.ensures.front_len) in
    let below : loop.row-index < c.args.lines = omega (arith, length-take-le c.args.lines c.as_chunks.result.0.now whole) in (
      omega (arith, row.room),
      same_as (text_next sheet loop.row-index)
          (then loop.invariant.1
          (same_as (sym (row_text sheet _ _ (length sheet / 5) c.args.lines loop.row-index c.as_chunks.ensures.front below room)) row.prints)),
    )
