-- The header's refusal, or that of check 6, which are those of each file of which these are the bytes at hand. A file that goes on past them is too long; else they
-- are the file, and its tree has the verdict.
-- Assumes nothing.
use Prim.Native.Nat.{ℕ, ◌≤◌, ◌<◌}
use borrow.Author.Rules.{rules}
use mathlib.Core.Path.{◌≡◌, refl, ◌∙◌, ap, subst, subst⁻¹}
use mathlib.Core.List.{List}
use mathlib.Core.Logic.{⊎_elim}
use native.Mathlib.Omega.{arith}
use lib.Dec.{lit≤}
use lib.ListN.{length}
use Rattle.std.specs.Prelude.{Result, Err}
use Rattle.curve.specs.Curves.{Within}
use Rattle.tree.specs.Rules.{Judged}
use Rattle.tree.specs.Verdicts.{Verdict, all_right}
use Rattle.tree.specs.declared.Fault.{Fault}
use Rattle.tree.specs.declared.Tree.{Tree}
use Rattle.file.specs.Format.{header_bytes, word_at, order_of, count_of, tree_of, FileJudged, ReadsAs, verdict_in, tree_in}
use Rattle.file.specs.Fronts.{most_file_bytes, AtHand, Front}
use Rattle.file.specs.Steps.{Opened, HeaderCounted, HeaderJudged, PlacesJudged, AllPlaced}
use Rattle.file.proofs.ReadLaws.Fronts.{hand_long, header_front, places_front, length_front, whole_at_hand, too_long}
use Rattle.file.proofs.ReadLaws.Judging.{header_long, header_opened, header_passed, header_refused, all_placed, places_refused, bodies_judged, reads_refused}
use Rattle.file.proofs.reader.read_front.Goals as goal
use Rattle.file.proofs.reader.read_front.Goals.{After-tree_of-tree, After-word-count, In_ok-places}

-- the header is at hand
long : (bytes : List ℕ) (given : ℕ) → AtHand bytes given → HeaderCounted bytes given all_right → header_bytes ≤ length bytes
long bytes given hand passed = hand_long bytes given header_bytes hand (header_long bytes given (passed given refl)) (lit≤ tt)

-- all that is given is at hand, or as much as the longest right file has
all_at_hand : (bytes : List ℕ) (given : ℕ) → AtHand bytes given → given ≤ length bytes → given ≡ length bytes
all_at_hand bytes given hand all = ⊎_elim (λ e. e) (λ l. omega (arith, l.1)) hand

part_at_hand : (bytes : List ℕ) (given : ℕ) → AtHand bytes given → length bytes < given → most_file_bytes ≤ length bytes
part_at_hand bytes given hand more = ⊎_elim (λ e. absurd (omega arith)) (λ l. l.0) hand

-- a refusal is answered as the fault
refuses : (file : List ℕ) (answer : Result Tree Fault) (fault : Fault) → answer ≡ Err fault → FileJudged file (length file) (Err fault) → ReadsAs file (verdict_in answer) (tree_in answer)
refuses file answer fault said judged = subst⁻¹ (λ (r : Result Tree Fault). ReadsAs file (verdict_in r) (tree_in r)) said (reads_refused file judged)

module _ (c : After-word-count) where
  abbrev bytes : List ℕ
  bytes = c.args.front.now

  abbrev given : ℕ
  given = c.args.given

  lent : c.new-reader.result.file.now ≡ bytes
  lent = c.new-reader.ensures.lent

  -- the header's order and count
  opened : Opened bytes given c.new-reader.result.order c.word-count.result
  opened =
      header_opened bytes given (c.in_ok-header.ensures given refl) c.new-reader.ensures.own
      (c.word-count.ensures ∙ (λ i. word_at (c.new-reader.ensures.own i) (lent i) 8))

  few : Within 2 64 (count_of bytes)
  few = subst (Within 2 64) opened.counted opened.within

  -- check 6 of the bytes at hand
  placed_in : (v : Verdict) → PlacesJudged c.new-reader.result.file.now v → PlacesJudged bytes v
  placed_in v judged = subst (λ (f : List ℕ). PlacesJudged f v) lent judged

-- a file whose header has passed its checks, and whose bodies lie in their places
module _ (c : In_ok-places) (file : List ℕ) (front : Front c.args.front.now c.args.given file) where
  header : HeaderJudged file (length file) all_right
  header = header_front _ _ file front _ c.in_ok-header.ensures

  whole : Opened file (length file) (order_of file) (count_of file)
  whole = header_opened file _ header refl refl

  placed : AllPlaced file
  placed = let w = (goal.at.In_ok-places c).After-word-count in all_placed file (places_front _ _ file front (few w) _ (placed_in w _ c.in_ok-places.ensures))

-- where it is at hand, it is the tree that was read, with the tree's verdict
module _ (c : After-tree_of-tree) (file : List ℕ) (front : Front c.args.front.now c.args.given file) where
  tree_is : c.tree_of-tree.result ≡ tree_of file
  tree_is = c.tree_of-tree.ensures ∙ ap tree_of (c.new-reader.ensures.lent ∙ whole_at_hand _ _ file front c.in_ok-header.ensures (omega arith))

  tree_judged : (v : Verdict) → Judged c.tree_of-tree.result v → FileJudged file (length file) v
  tree_judged v judged =
      let p = (goal.at.After-tree_of-tree c).In_ok-places in
      header_passed file _ _ v (header p file front) (bodies_judged file v (whole p file front).within (placed p file front) (subst (λ (t : Tree). Judged t v) tree_is judged))

pub returns-in_err-header : goal.returns-in_err-header
returns-in_err-header c file front = refuses file _ _ (search rules) (header_refused file _ _ _ _ (header_front _ _ file front _ c.in_err-header.ensures))

pub new-reader-requires : goal.new-reader-requires
new-reader-requires c = long _ _ c.requires c.in_ok-header.ensures

pub word-count-requires : goal.word-count-requires
word-count-requires c = omega (arith, ap length c.new-reader.ensures.lent, long _ _ c.requires c.in_ok-header.ensures)

pub places-requires-clause-opened : goal.places-requires-clause-opened
places-requires-clause-opened c =
    let w = (goal.at.places-requires-clause-opened c).After-word-count in
    subst⁻¹ (λ (f : List ℕ). AtHand f (given w) × Opened f (given w) c.new-reader.result.order c.word-count.result) (lent w) (c.requires, opened w)

pub returns-in_err-places : goal.returns-in_err-places
returns-in_err-places c file front =
    let w = (goal.at.returns-in_err-places c).After-word-count in
    refuses file _ _ (search rules)
    (header_passed file _ _ _ (header_front _ _ file front _ c.in_ok-header.ensures)
    (places_refused file _ _ (places_front _ _ file front (few w) _ (placed_in w _ c.in_err-places.ensures))))

pub returns-then-front-given : goal.returns-then-front-given
returns-then-front-given c file front =
    let p = (goal.at.returns-then-front-given c).In_ok-places in
    reads_refused file
    (header_passed file _ _ _ (header p file front)
    (too_long file (whole p file front).within (placed p file front)
    (omega (arith, (whole p file front).right.total, length_front _ _ file front c.in_ok-header.ensures, part_at_hand _ _ c.requires c.if-front-given.true))))

pub tree_of-tree-requires-clause-opened : goal.tree_of-tree-requires-clause-opened
tree_of-tree-requires-clause-opened c =
    let w = (goal.at.tree_of-tree-requires-clause-opened c).After-word-count in
    subst⁻¹ (λ (f : List ℕ). Opened f (length f) c.new-reader.result.order c.word-count.result) (lent w)
    (subst (λ (n : ℕ). Opened (bytes w) n c.new-reader.result.order c.word-count.result) (all_at_hand _ _ c.requires (omega arith)) (opened w))

pub returns-in_err-check : goal.returns-in_err-check
returns-in_err-check c file front = refuses file _ _ (search rules) (tree_judged (goal.at.returns-in_err-check c).After-tree_of-tree file front _ c.in_err-check.ensures)

pub returns : goal.returns
returns c file front =
    let t = (goal.at.returns c).After-tree_of-tree in
    record { judged = tree_judged t file front _ c.in_ok-check.ensures; given = tree_is t file front }
