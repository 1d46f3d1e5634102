-- The entries are walked one after another: those passed all fit, and the next has to start where the last one passed ends.
-- Assumes nothing.
use Prim.Native.Nat.{ℕ}
use mathlib.Core.Path.{◌≡◌, refl, ◌∙◌, sym, ap, subst}
use mathlib.Core.List.{List}
use native.Mathlib.Omega.{arith}
use borrow.Author.Count.{below_more}
use Rattle.tree.specs.Rules.{EveryClass}
use Rattle.file.specs.Format.{count_of, total_of, entry_at, start_of}
use Rattle.file.specs.Steps.{Fitting}
use Rattle.file.proofs.ReadLaws.Places.{FitsAt, EntryIs, entry_is, goes_on, fitting_as, misplaced, wrong_end, all_placed, start_next}
use Rattle.file.proofs.reader.contents.places.Goals as goal
use Rattle.file.proofs.reader.contents.places.Goals.{After-loop-class, After-next_entry-entry}

module _ (c : After-next_entry-entry) where
  abbrev file : List ℕ
  file = c.args.reader.file.now

  abbrev class : ℕ
  class = c.loop-class.class

  abbrev total : ℕ
  total = c.args.total

  abbrev Asked : Type 0
  Asked = Fitting c.next_entry-entry.result.offset c.next_entry-entry.result.bytes c.loop-class.start total

  entry : EntryIs file class c.next_entry-entry.result
  entry = entry_is _ c.loop-class.invariant.stands c.next_entry-entry.ensures.entry

  total_is : total ≡ total_of file
  total_is = sym c.requires.opened.1.right.total

  asked_of : FitsAt file class → Asked
  asked_of = fitting_as (sym entry.offset) (sym entry.bytes) (sym c.loop-class.invariant.next) (sym total_is)

  of_asked : Asked → FitsAt file class
  of_asked = fitting_as entry.offset entry.bytes c.loop-class.invariant.next total_is

module _ (c : After-loop-class) where
  abbrev whole : List ℕ
  whole = c.args.reader.file.now

  at_end : c.loop-class.class ≡ count_of whole
  at_end = omega (arith, c.requires.opened.1.counted)

  all_fit : EveryClass (FitsAt whole) (count_of whole)
  all_fit = subst (EveryClass (FitsAt whole)) at_end c.loop-class.invariant.fit

  end_is : c.loop-class.start ≡ start_of whole (count_of whole)
  end_is = c.loop-class.invariant.next ∙ ap (start_of whole) at_end

pub loop-class-init : goal.loop-class-init
unfolding start_of
loop-class-init c = record {
  stands = record { lent = refl; own = c.requires.opened.1.own; place = c.requires.first };
  next = c.entry_at-start.ensures ∙ ap entry_at c.requires.opened.1.counted;
  fit = λ k h. absurd (omega arith);
}

pub returns-then-not-fitting : goal.returns-then-not-fitting
returns-then-not-fitting c =
    misplaced _ _ (omega (arith, c.requires.opened.1.counted)) c.loop-class.invariant.fit
    (λ f. c.if-not-fitting.ensures (asked_of (goal.at.returns-then-not-fitting c).After-next_entry-entry f))

pub loop-class-preserved : goal.loop-class-preserved
loop-class-preserved c =
    let e = (goal.at.loop-class-preserved c).After-next_entry-entry in
    let told = c.next_entry-entry.ensures in
    record {
      stands = goes_on c.loop-class.invariant.stands told.lent told.order told.place;
      next = omega (arith, c.end-start.ensures, (entry e).offset, (entry e).bytes, start_next (file e) (class e));
      fit = below_more _ _ c.loop-class.invariant.fit (of_asked e (c.if-not-fitting.ensures));
    }

pub returns-then-start-total : goal.returns-then-start-total
returns-then-start-total c =
    let p = c.requires.opened.1 in
    let l = (goal.at.returns-then-start-total c).After-loop-class in
    wrong_end _ _ (omega (arith, p.counted, p.within.above)) (all_fit l) (λ e. c.if-start-total.true (end_is l ∙ (e ∙ p.right.total)))

pub returns : goal.returns
returns c =
    let l = (goal.at.returns c).After-loop-class in
    all_placed _ (all_fit l) (sym (end_is l) ∙ (c.if-start-total.false ∙ sym c.requires.opened.1.right.total))
