-- The bodies are read one after another: the classes below the next one are the file's, and no class stands above them.
-- Assumes nothing.
use Prim.Native.Nat.{ℕ, ◌+◌}
use mathlib.Core.Path.{◌≡◌, refl, ◌∙◌, sym, ap, ap₂, subst}
use mathlib.Core.List.{List}
use native.Mathlib.Omega.{arith}
use lib.ListN.{set, length}
use Rattle.tree.specs.Trees.{empty_tree}
use Rattle.tree.specs.declared.Class.{Class}
use Rattle.tree.specs.declared.Tree.{Tree}
use Rattle.file.specs.Format.{count_of, first_classes, RightLength, InPlace}
use Rattle.file.specs.Steps.{class_from}
use Rattle.file.proofs.ReadLaws.Bodies.{filled, filled_next, class_is, tree_is}
use Rattle.file.proofs.ReadLaws.Places.{StandsAt, EntryIs, entry_is, goes_on}
use Rattle.file.proofs.reader.bodies.tree_of.Goals as goal
use Rattle.file.proofs.reader.bodies.tree_of.Goals.{After-next_entry-entry}

module _ (c : After-next_entry-entry) where
  abbrev file : List ℕ
  file = c.args.reader.file.now

  abbrev class : ℕ
  class = c.loop-class.class

  entry : EntryIs file class c.next_entry-entry.result
  entry = entry_is _ c.loop-class.invariant.stands c.next_entry-entry.ensures.entry

  after : StandsAt file (class + 1) c.next_entry-entry.new.self
  after = goes_on c.loop-class.invariant.stands c.next_entry-entry.ensures.lent c.next_entry-entry.ensures.order c.next_entry-entry.ensures.place

  placed : InPlace file class
  placed = c.requires.all_placed class (omega (arith, c.requires.opened.counted))

pub loop-class-init : goal.loop-class-init
unfolding empty_tree first_classes
loop-class-init c = record {
  stands = record { lent = refl; own = c.requires.opened.own; place = c.requires.first };
  counted = refl;
  classes = ap (λ (t : Tree). t.classes) c.empty-tree.ensures;
}

pub class_of-requires : goal.class_of-requires
class_of-requires c =
    let e = (goal.at.class_of-requires c).After-next_entry-entry in
    record {
      long = subst RightLength (sym (entry e).bytes) (placed e).long;
      within = omega (arith, (entry e).offset, (entry e).bytes, (placed e).within, c.requires.opened.right.total, ap length (after e).lent);
    }

pub loop-class-preserved : goal.loop-class-preserved
loop-class-preserved c =
    let e = (goal.at.loop-class-preserved c).After-next_entry-entry in
    let here = after e in
    let said = c.class_of.ensures ∙ (λ i. class_from (here.own i) (here.lent i) ((entry e).offset i) ((entry e).bytes i)) ∙ class_is (file e) (class e) in
    record {
      stands = here;
      counted = c.loop-class.invariant.counted;
      classes = ap₂ (λ (l : List Class) (k : Class). set l (class e) k) c.loop-class.invariant.classes said ∙ filled_next (file e) (class e) (omega (arith, c.requires.opened.within.below));
    }

pub returns : goal.returns
returns c =
    let p = c.requires.opened in
    let end : c.loop-class.class ≡ count_of c.args.reader.file.now = omega (arith, p.counted) in
    tree_is _ _ (c.loop-class.invariant.counted ∙ p.counted) (c.loop-class.invariant.classes ∙ ap (filled c.args.reader.file.now) end)
