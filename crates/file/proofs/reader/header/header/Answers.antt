-- The header's checks, one after another: `past-k` says that the first k are kept, where the code goes on after them, by every length of which so many
-- bytes were counted. A total that was read has 32 bits, so that it differs from a count that has stopped.
-- Assumes nothing.
use Prim.Native.Nat.{ℕ}
use mathlib.Core.Path.{◌≡◌, refl, ◌∙◌, sym}
use mathlib.Core.List.{List}
use mathlib.Core.Logic.{◌⊎◌, ⊎_elim}
use native.Mathlib.Omega.{arith}
use Rattle.curve.specs.Curves.{Within}
use Rattle.tree.specs.Rules.{OfTree, broken, kept}
use Rattle.tree.specs.Verdicts.{Verdict}
use Rattle.file.specs.declared.Order.TheVariants.{Big, Little}
use Rattle.file.specs.Format.{mark, Marked, word_at, word_of, version_of, version, count_of, RightTotal, HeaderChecks}
use Rattle.file.specs.Fronts.{Counts}
use Rattle.file.specs.Steps.{Passed, HeaderJudged}
use Rattle.file.proofs.ReadLaws.Orders.{marked, unmarked}
use Rattle.file.proofs.reader.header.header.Goals as goal
use Rattle.file.proofs.reader.header.header.Goals.{After-new-reader, then-word-given-via-then-word-given, then-word-given-via-else-word-given+then-given-entry_at}

-- the checks from the second, the third, the fourth and the fifth on
abbrev From5 : List ℕ → ℕ → Verdict → Type 0
From5 file long = OfTree 5 (RightTotal file long) Passed

abbrev From4 : List ℕ → ℕ → Verdict → Type 0
From4 file long = OfTree 4 (Within 2 64 (count_of file)) (From5 file long)

abbrev From3 : List ℕ → ℕ → Verdict → Type 0
From3 file long = OfTree 3 (version_of file ≡ version) (From4 file long)

abbrev From2 : List ℕ → ℕ → Verdict → Type 0
From2 file long = OfTree 2 (Marked Big file ⊎ Marked Little file) (From3 file long)

-- some checks are kept, and the rest decides
abbrev Past : List ℕ → ℕ → (List ℕ → ℕ → Verdict → Type 0) → Type 0
Past file given From = (long : ℕ) → Counts given long → (v : Verdict) → From file long v → HeaderJudged file long v

module _ (c : After-new-reader) where
  abbrev file : List ℕ
  file = c.args.front.now

  abbrev given : ℕ
  given = c.args.given

  -- a word was read at a place
  abbrev Read : ℕ → ℕ → Type 0
  Read at word = word ≡ word_at c.new-reader.result.order c.new-reader.result.file.now at

  reads : (at word : ℕ) → Read at word → word ≡ word_of file at
  reads at word is = is ∙ (λ i. word_at (c.new-reader.ensures.own i) (c.new-reader.ensures.lent i) at)

  past-1 : Past file given From2
  unfolding HeaderChecks
  past-1 long n v rest = kept (omega arith) rest

  past-2 : (word : ℕ) → Read 0 word → word ≡ mark → Past file given From3
  past-2 word is first long n v rest = past-1 long n v (kept (marked file (sym (reads 0 word is) ∙ first)) rest)

  past-3 : Past file given From3 → (word : ℕ) → Read 4 word → word ≡ version → Past file given From4
  past-3 past word is second long n v rest = past long n v (kept (sym (reads 4 word is) ∙ second) rest)

  past-4 : Past file given From4 → (word : ℕ) → Read 8 word → Within 2 64 word → Past file given From5
  past-4 past word is third long n v rest = past long n v (kept (record { above = omega (arith, third.above, reads 8 word is); below = omega (arith, third.below, reads 8 word is) }) rest)

pub returns-then-given-lt-HEADER : goal.returns-then-given-lt-HEADER
unfolding HeaderChecks
returns-then-given-lt-HEADER c = rw c.whole.ensures (λ long n. broken refl (record { zero = refl; fault = λ enough. omega arith }))

pub returns-then-word-ne-MARK : goal.returns-then-word-ne-MARK
returns-then-word-ne-MARK c =
    let r = (goal.at.returns-then-word-ne-MARK c).After-new-reader in
    let fault = unmarked (file r) (λ e. c.if-word-ne-MARK.true (reads r 0 _ c.word.ensures ∙ e)) in
    rw c.whole-then-word-ne-MARK.ensures (λ long n. past-1 r long n _ (broken refl (record { zero = refl; fault = fault })))

pub returns-then-word-ne-VERSION : goal.returns-then-word-ne-VERSION
returns-then-word-ne-VERSION c =
    let r = (goal.at.returns-then-word-ne-VERSION c).After-new-reader in
    let p2 = past-2 r _ c.word.ensures c.if-word-ne-MARK.false in
    rw c.whole-then-word-ne-VERSION.ensures (λ long n. p2 long n _ (broken refl (record { zero = refl; fault = λ e. c.if-word-ne-VERSION.true (reads r 4 _ c.word-2.ensures ∙ e) })))

pub returns-then-count-lt2 : goal.returns-then-count-lt2
returns-then-count-lt2 c =
    let r = (goal.at.returns-then-count-lt2 c).After-new-reader in
    let third = reads r 8 _ c.word-count.ensures in
    let p3 = past-3 r (past-2 r _ c.word.ensures c.if-word-ne-MARK.false) _ c.word-2.ensures c.if-word-ne-VERSION.false in
    rw c.whole-then-count-lt2.ensures
    (λ long n. p3 long n _ (broken refl (record { zero = refl; fault = λ w. ⊎_elim (λ few. omega (arith, third, few, w.above)) (λ many. omega (arith, third, many.1, w.below)) c.then-count-lt2.either })))

pub returns-then-word-given : goal.returns-then-word-given
returns-then-word-given c =
    let r = (goal.at.returns-then-word-given c).After-new-reader in
    let third = reads r 8 _ c.word-count.ensures in
    let fourth = reads r 12 _ c.word-3.ensures in
    let p3 = past-3 r (past-2 r _ c.word.ensures c.if-word-ne-MARK.false) _ c.word-2.ensures c.if-word-ne-VERSION.false in
    let p4 = past-4 r p3 _ c.word-count.ensures (record { above = omega arith; below = omega arith }) in
    rw c.whole-then-word-given.ensures
    (λ long n. p4 long n _ (broken refl (record {
      zero = refl;
      fault = λ w. elim c.then-word-given.branch [
        | then-word-given-via-then-word-given b ↦ b.if-word-given.true (omega (arith, fourth, w.total, n))
        | then-word-given-via-else-word-given+then-given-entry_at b ↦ omega (arith, third, fourth, b.entry_at.ensures, w.total, w.contents, n)
      ];
    })))

pub returns : goal.returns
returns c long n =
    let r = (goal.at.returns c).After-new-reader in
    let p3 = past-3 r (past-2 r _ c.word.ensures c.if-word-ne-MARK.false) _ c.word-2.ensures c.if-word-ne-VERSION.false in
    let p4 = past-4 r p3 _ c.word-count.ensures (record { above = omega arith; below = omega arith }) in
    p4 long n _ (kept (record { total = omega (arith, reads r 12 _ c.word-3.ensures); contents = omega (arith, reads r 8 _ c.word-count.ensures) }) refl)
