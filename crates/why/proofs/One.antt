-- The promise of a sheet allows one result: the answer, and all that the sheet holds.
-- Assumes nothing.
use Prim.Native.Nat.{ℕ, zero, suc, ◌+◌, ◌*◌, ◌/◌, ◌%◌, ◌≤◌, ◌<◌}
use Rattle.std.specs.Prelude.{Result, Ok, Err}
use mathlib.Core.Path.{◌≡◌, refl, sym, ◌∙◌, ap, subst}
use mathlib.Core.Bool.{true, false}
use mathlib.Core.List.{List}
use mathlib.Core.Logic.{⊎_elim}
use native.Mathlib.Omega.{arith}
use lib.ListN.{get_or}
use lib.Seq.{ext_get_or}
use Rattle.tree.specs.declared.Tree.{Tree}
use Rattle.tree.specs.declared.Refusal.{Refusal}
use Rattle.tree.specs.Trees.{is_leaf}
use Rattle.tree.proofs.Numbers.{refusal_by_number}
use Rattle.rules.specs.Calls.{History}
use Rattle.rules.specs.Lawful.{Lawful}
use Rattle.rules.specs.Answers.{passed, refused, next_clock}
use Rattle.rules.proofs.Tests.{decided}
use Rattle.curve.proofs.Laws.Order.{le_or_lt}
use Rattle.reason.specs.declared.Reason.{Reason}
use Rattle.reason.specs.Reasons.{numbers, line_of}
use Rattle.why.specs.Promises.{line_number, line_count, SheetFilled, sheet_number, sheet_lines, WhyRight}
use Rattle.why.specs.Theorems.{WhyOne, TellOne, ToldRefused}
use Rattle.why.proofs.Sheets.{number_none, number_more, number_same}
use Rattle.why.proofs.Reasons.{reason_one}

-- every line is a leaf's
line_leaf : (tree : Tree) (n k : ℕ) → k < line_number tree n → (i : ℕ) × (is_leaf tree i ≡ true) × (line_number tree i ≡ k)
line_leaf tree zero k l = absurd (omega (arith, number_none tree))
line_leaf tree (suc n) k l =
    ⊎_elim
    (λ (leaf : is_leaf tree n ≡ true).
    ⊎_elim (λ (h : line_number tree n ≤ k). (n, leaf, omega (arith, number_more tree n leaf))) (λ (h : k < line_number tree n). line_leaf tree n k h) (le_or_lt (line_number tree n) k))
    (λ (inner : is_leaf tree n ≡ false). line_leaf tree n k (omega (arith, number_same tree n inner))) (decided (is_leaf tree n))

module _ (h : History) (law : Lawful h) (stamp : ℕ) {a b : ℕ} {old x y : List ℕ} (p : SheetFilled h stamp a old x) (q : SheetFilled h stamp b old y) where
  -- the cell f of line k
  same_line : (k f : ℕ) → k < line_count h.tree → f < numbers → get_or x (numbers * k + f) 0 ≡ get_or y (numbers * k + f) 0
  same_line k f l m =
      let (i, leaf, is) = line_leaf h.tree h.tree.count k l in
      let s = p.filled i leaf in
      let t = q.filled i leaf in
      let r = reason_one h.tree h.calls law.grown law.lawful (next_clock h stamp) i s.reason t.reason s.holds t.holds in
      subst (λ (n : ℕ). get_or x (numbers * n + f) 0 ≡ get_or y (numbers * n + f) 0) is (s.line f m ∙ ap (λ (z : Reason). get_or (line_of i z) f 0) r ∙ sym (t.line f m))

  same_cell : (n : ℕ) → get_or x n 0 ≡ get_or y n 0
  same_cell n =
      ⊎_elim (λ (l : numbers * line_count h.tree ≤ n). p.rest n l ∙ sym (q.rest n l))
      (λ (l : n < numbers * line_count h.tree).
      let whole : numbers * (n / numbers) + n % numbers ≡ n = omega arith in
      subst (λ (z : ℕ). get_or x z 0 ≡ get_or y z 0) whole (same_line (n / numbers) (n % numbers) (omega arith) (omega arith)))
      (le_or_lt (numbers * line_count h.tree) n)

  filled_one : x ≡ y
  filled_one = ext_get_or 0 x y (p.size ∙ sym q.size) (λ n l. same_cell n)

refused_number : {a b : ℕ} → refused a ≡ refused b → a ≡ b
refused_number e = cc

passed_refused : {A : Type 0} {a : ℕ} → passed ≡ refused a → A
passed_refused e = let z : ◌≡◌ {A = ℕ} 0 1 = cc in absurd (omega arith)

pub why_one : WhyOne
why_one h law stamp old (Ok a) (Ok b) x y p q = (ap Ok (p.count ∙ sym q.count), filled_one h law stamp p q)
why_one h law stamp old (Ok a) (Err why) x y p q = passed_refused (sym p.checked ∙ q.checked)
why_one h law stamp old (Err why) (Ok b) x y p q = passed_refused (sym q.checked ∙ p.checked)
why_one h law stamp old (Err v) (Err w) x y p q =
    (ap Err (refusal_by_number v w (refused_number (sym p.checked ∙ q.checked))), p.found ∙ sym q.found)

pub tell_one : TellOne
tell_one m l reached stamp old said said' lines lines' x y p q =
    let h = reached.history in
    let same = why_one h reached.lawful stamp old p.answer q.answer x y (p.right h reached.lawful reached.shows) (q.right h reached.lawful reached.shows) in
    (p.number ∙ ap sheet_number same.0 ∙ sym q.number, p.count ∙ ap sheet_lines same.0 ∙ sym q.count, same.1)

pub told_refused : ToldRefused
told_refused m l reached stamp old said lines new t some = go t.answer refl
  where
    go : (a : Result ℕ Refusal) → t.answer ≡ a → (new ≡ old) × (lines ≡ 0)
    go (Ok n) e = absurd (some (t.number ∙ ap sheet_number e))
    go (Err why) e =
        ((subst (λ (a : Result ℕ Refusal). WhyRight reached.history stamp a old new) e (t.right reached.history reached.lawful reached.shows)).found, t.count ∙ ap sheet_lines e)
