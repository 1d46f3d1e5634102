-- The lines of a text, one after another.
-- Assumes nothing.
use Prim.Native.Nat.{ℕ, suc, ◌+◌, ◌-◌, ◌≤◌, ◌<◌}
use native.Mathlib.Omega.{arith}
use mathlib.Core.Path.{◌≡◌, refl, ap, ◌∙◌}
use mathlib.Core.Bool.{Bool, true, false, cond}
use mathlib.Core.List.{List, [], ◌∷◌}
use lib.Dec.{eqb}
use lib.ListN.{length, take, drop, length-drop, drop_of_length-le}
use lib.Seq.{drop-drop}
use Rattle.wording.specs.Letters.{line_feed}
use Rattle.wording.specs.Words.{is_inner, span}
use Rattle.treetext.specs.declared.Draft.{Draft}
use Rattle.std.specs.Prelude.{None, Some, Ok, Err}
use Rattle.treetext.specs.declared.Entry.TheVariants.{Head, ClassOf}
use Rattle.treetext.specs.declared.EntryError.TheVariants.{TooLarge, NotAClass}
use Rattle.treetext.specs.Entries.{Said, entry_of}
use Rattle.treetext.specs.Texts.{onto, lines_of, is_done, with_entry, with_line, with_lines}

-- the first line ends before the first end of a line, and the others come after that
module _ (b x : ℕ) (s : List ℕ) where
  tested : (t : Bool) → eqb x line_feed ≡ t
      → onto x (lines_of s) ≡ (x ∷ take (span is_inner s) s) ∷ lines_of (drop (suc (span is_inner s)) s)
      → onto b (lines_of (x ∷ s)) ≡ (b ∷ take (span is_inner (x ∷ s)) (x ∷ s)) ∷ lines_of (drop (suc (span is_inner (x ∷ s))) (x ∷ s))
  unfolding lines_of span
  tested true e h = rw e
  tested false e h = rw (e, h)

inner_line : (b : ℕ) (s : List ℕ) → onto b (lines_of s) ≡ (b ∷ take (span is_inner s) s) ∷ lines_of (drop (suc (span is_inner s)) s)
unfolding lines_of span
inner_line b [] = refl
inner_line b (x ∷ s) = tested b x s (eqb x line_feed) refl (inner_line x s)

pub lines_some : (s : List ℕ) → 0 < length s → lines_of s ≡ take (span is_inner s) s ∷ lines_of (drop (suc (span is_inner s)) s)
unfolding lines_of span
lines_some [] h = absurd (omega arith)
lines_some (b ∷ s) h = by (eqb b line_feed) refl
  where
    by : (t : Bool) → eqb b line_feed ≡ t → lines_of (b ∷ s) ≡ take (span is_inner (b ∷ s)) (b ∷ s) ∷ lines_of (drop (suc (span is_inner (b ∷ s))) (b ∷ s))
    by true e = rw e
    by false e = rw e (inner_line b s)

-- a walk from line to line: at the next line, and at the end
pub lines_on_lem : (text : List ℕ) (at end : ℕ) (d : Draft) → at < length text → end ≡ at + span is_inner (drop at text)
    → with_lines d (lines_of (drop at text)) ≡ with_lines (with_line d (take (end - at) (drop at text))) (lines_of (drop (end + 1) text))
unfolding with_lines
lines_on_lem text at end d h e =
    let n = span is_inner (drop at text) in
    let line = take (end - at) (drop at text) in
    let long : n ≡ end - at = omega arith in
    let next : at + suc n ≡ end + 1 = omega arith in
    ap (with_lines d) (lines_some (drop at text) (omega (arith, length-drop at text)))
    ∙ ap (λ m. with_lines (with_line d (take m (drop at text))) (lines_of (drop (suc n) (drop at text)))) long
    ∙ ap (λ s. with_lines (with_line d line) (lines_of s)) (drop-drop (suc n) at text ∙ ap (λ m. drop m text) next)

pub lines_end : (text : List ℕ) (at : ℕ) (d : Draft) → length text ≤ at → d ≡ with_lines d (lines_of (drop at text))
unfolding with_lines lines_of
lines_end text at d h = rw (drop_of_length-le text h)

-- a line more is counted, or none
either : (t : Bool) (d e : Draft) (n : ℕ) → d.lines ≤ n → e.lines ≤ n → (cond t d e).lines ≤ n
either true d e n h g = h
either false d e n h g = g

entry_lines : (d : Draft) (s : Said) → (with_entry d s).lines ≤ d.lines + 1
entry_lines d (Ok None) = omega arith
entry_lines d (Ok (Some Head)) = either d.headed _ _ (d.lines + 1) (omega arith) (omega arith)
entry_lines d (Ok (Some (ClassOf number class))) =
    either d.headed _ _ (d.lines + 1) (either (eqb number d.tree.count) _ _ (d.lines + 1) (omega arith) (omega arith)) (omega arith)
entry_lines d (Err TooLarge) = omega arith
entry_lines d (Err NotAClass) = omega arith

pub line_more : (d : Draft) (line : List ℕ) → (with_line d line).lines ≤ d.lines + 1
unfolding with_line
line_more d line = either (is_done d) d (with_entry d (entry_of line)) (d.lines + 1) (omega arith) (entry_lines d (entry_of line))
