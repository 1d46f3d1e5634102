-- The table after a class has started among its parent's children: five cells are stored to, and no other changes.
-- Assumes nothing.
use Prim.Native.Nat.{ℕ, ◌≤◌, ◌<◌}
use native.Mathlib.Omega.{arith}
use mathlib.Core.Path.{◌≡◌, sym, ◌∙◌, ap, ap₂, subst}
use mathlib.Core.List.{List}
use lib.ListN.{length}
use Rattle.curve.specs.Answers.{Least}
use Rattle.curve.specs.Curves.{RightRate}
use Rattle.curve.specs.declared.Curve.TheVariants.{Straight}
use Rattle.curve.specs.declared.Piece.{Piece}
use Rattle.curve.specs.Keeping.{most_start, Stands}
use Rattle.tree.specs.declared.Tree.{Tree}
use Rattle.state.specs.Table.{at, with, CLASSES, CELLS}
use Rattle.state.specs.Columns.{SHARE, SENT, FAIR_START, FAIR_SENT, VIRTUAL, MARK, ACTIVE, fair_from}
use Rattle.fair.specs.Steps.{fair_in}
use Rattle.fair.specs.StepsWaking.{Raises, VirtualStored, mark_in, kept_now, BeforeStart, FairStarted}
use Rattle.state.proofs.Cells.{length_with, at_with_same, at_with_class, at_with_column}
use Rattle.fair.proofs.WakingChildren.{met_soon, lower_start}

-- the tables one after another
abbrev pub marked : List ℕ → (p a : ℕ) → List ℕ
marked m p a = with m p MARK a

abbrev pub pieced : List ℕ → (p a i b c : ℕ) → List ℕ
pieced m p a i b c = with (with (marked m p a) i FAIR_START b) i FAIR_SENT c

abbrev pub timed : List ℕ → (p a i b c d : ℕ) → List ℕ
timed m p a i b c d = with (pieced m p a i b c) i VIRTUAL d

abbrev pub counted : List ℕ → (p a i b c d e : ℕ) → List ℕ
counted m p a i b c d e = with (timed m p a i b c d) p ACTIVE e

module _ (m : List ℕ) (size : length m ≡ CELLS) (p a i b c : ℕ) (pn : p < CLASSES) (inn : i < CLASSES) where
  pub pieced_size : length (pieced m p a i b c) ≡ CELLS
  pieced_size = length_with _ i FAIR_SENT c ∙ length_with _ i FAIR_START b ∙ length_with m p MARK a ∙ size

  pub pieced_column : (k f : ℕ) → k < CLASSES → (f ≡ MARK → ⊥) → (f ≡ FAIR_START → ⊥) → (f ≡ FAIR_SENT → ⊥) → at (pieced m p a i b c) k f ≡ at m k f
  pieced_column k f l x y z =
      at_with_column _ i FAIR_SENT c k f inn l z ∙ at_with_column _ i FAIR_START b k f inn l y ∙ at_with_column m p MARK a k f pn l x

  pub pieced_start : at (pieced m p a i b c) i FAIR_START ≡ b
  pieced_start =
      at_with_column _ i FAIR_SENT c i FAIR_START inn inn (λ e. omega arith)
      ∙ at_with_same (marked m p a) i FAIR_START b (length_with m p MARK a ∙ size) inn (omega arith)

  pub pieced_sent : at (pieced m p a i b c) i FAIR_SENT ≡ c
  pieced_sent =
      at_with_same (with (marked m p a) i FAIR_START b) i FAIR_SENT c (length_with _ i FAIR_START b ∙ length_with m p MARK a ∙ size) inn (omega arith)

  module _ (d e : ℕ) (apart : p ≡ i → ⊥) where
    abbrev after : List ℕ
    after = counted m p a i b c d e

    timed_size : length (timed m p a i b c d) ≡ CELLS
    timed_size = length_with _ i VIRTUAL d ∙ pieced_size

    pub counted_size : length (counted m p a i b c d e) ≡ CELLS
    counted_size = length_with _ p ACTIVE e ∙ timed_size

    -- a column that none of the stores is to, and a row of another class
    pub counted_column : (k f : ℕ) → k < CLASSES → f < fair_from → at (counted m p a i b c d e) k f ≡ at m k f
    counted_column k f l h =
        at_with_column _ p ACTIVE e k f pn l (λ q. omega arith) ∙ at_with_column _ i VIRTUAL d k f inn l (λ q. omega arith)
        ∙ pieced_column k f l (λ q. omega arith) (λ q. omega arith) (λ q. omega arith)

    pub counted_row : (k f : ℕ) → k < CLASSES → (k ≡ p → ⊥) → (k ≡ i → ⊥) → at (counted m p a i b c d e) k f ≡ at m k f
    counted_row k f l x y =
        at_with_class _ p ACTIVE e k f pn l x ∙ at_with_class _ i VIRTUAL d k f inn l y ∙ at_with_class _ i FAIR_SENT c k f inn l y
        ∙ at_with_class _ i FAIR_START b k f inn l y ∙ at_with_class m p MARK a k f pn l x

    -- the parent's cells, and the class's
    parent_before : (f : ℕ) → at (timed m p a i b c d) p f ≡ at (marked m p a) p f
    parent_before f = at_with_class _ i VIRTUAL d p f inn pn apart ∙ at_with_class _ i FAIR_SENT c p f inn pn apart ∙ at_with_class _ i FAIR_START b p f inn pn apart

    pub counted_parent : (f : ℕ) → (f ≡ MARK → ⊥) → (f ≡ ACTIVE → ⊥) → at (counted m p a i b c d e) p f ≡ at m p f
    counted_parent f x y = at_with_column _ p ACTIVE e p f pn pn y ∙ parent_before f ∙ at_with_column m p MARK a p f pn pn x

    pub counted_mark : at (counted m p a i b c d e) p MARK ≡ a
    counted_mark = at_with_column _ p ACTIVE e p MARK pn pn (λ q. omega arith) ∙ parent_before MARK ∙ at_with_same m p MARK a size pn (omega arith)

    pub counted_busy : at (counted m p a i b c d e) p ACTIVE ≡ e
    counted_busy = at_with_same (timed m p a i b c d) p ACTIVE e timed_size pn (omega arith)

    child_before : (f : ℕ) → at (counted m p a i b c d e) i f ≡ at (timed m p a i b c d) i f
    child_before f = at_with_class _ p ACTIVE e i f pn inn (λ q. apart (sym q))

    pub counted_child : (f : ℕ) → (f ≡ FAIR_START → ⊥) → (f ≡ FAIR_SENT → ⊥) → (f ≡ VIRTUAL → ⊥) → at (counted m p a i b c d e) i f ≡ at m i f
    counted_child f x y z =
        child_before f ∙ at_with_column _ i VIRTUAL d i f inn inn z ∙ at_with_column _ i FAIR_SENT c i f inn inn y ∙ at_with_column _ i FAIR_START b i f inn inn x
        ∙ at_with_class m p MARK a i f pn inn (λ q. apart (sym q))

    pub counted_start : at (counted m p a i b c d e) i FAIR_START ≡ b
    counted_start = child_before FAIR_START ∙ at_with_column _ i VIRTUAL d i FAIR_START inn inn (λ q. omega arith) ∙ pieced_start

    pub counted_sent : at (counted m p a i b c d e) i FAIR_SENT ≡ c
    counted_sent = child_before FAIR_SENT ∙ at_with_column _ i VIRTUAL d i FAIR_SENT inn inn (λ q. omega arith) ∙ pieced_sent

    pub counted_virtual : at (counted m p a i b c d e) i VIRTUAL ≡ d
    counted_virtual = child_before VIRTUAL ∙ at_with_same (pieced m p a i b c) i VIRTUAL d pieced_size inn (omega arith)

-- the same least tick, of equal shares, pieces and bytes
pub least_same : {a a' w w' v : ℕ} {k k' : Piece} → a ≡ a' → k ≡ k' → w ≡ w' → Least (Stands (Straight a) k w) v → Least (Stands (Straight a') k' w') v
least_same {a} {a'} {w} {w'} {v} {k} {k'} x y z h =
    subst (λ (a : ℕ). Least (Stands (Straight a) k' w') v) x
    (subst (λ (k : Piece). Least (Stands (Straight a) k w') v) y (subst (λ (w : ℕ). Least (Stands (Straight a) k w) v) z h))

-- the steps of `start_fair`
module _ (m : List ℕ) (tree : Tree) (p i : ℕ) (b : BeforeStart m tree p i) where
  kept_soon : (kept_now m tree p i).start ≤ most_start
  kept_soon =
      lower_start (at m i SHARE) (fair_in m i) (record { start = mark_in m tree p i; sent = at m i SENT }) most_start b.raises.start
      (omega (arith, b.mark, met_soon m tree p i b.family))

  parent_narrow : p < CLASSES
  parent_narrow = omega (arith, b.family.class, b.family.right.shape.count.below)

  module _ (m₁ m₂ m₃ : List ℕ) (mark : ℕ) (kept : Piece) (s₁ : m₁ ≡ with m p MARK mark) (s₂ : m₂ ≡ with m₁ i FAIR_START kept.start)
      (s₃ : m₃ ≡ with m₂ i FAIR_SENT kept.sent) (is : kept ≡ kept_now m tree p i) where
    whole : m₃ ≡ pieced m p mark i kept.start kept.sent
    whole =
        s₃ ∙ ap (λ (x : List ℕ). with x i FAIR_SENT kept.sent) s₂
        ∙ ap (λ (x : List ℕ). with (with x i FAIR_START kept.start) i FAIR_SENT kept.sent) s₁

    share_now : at m₃ i SHARE ≡ at m i SHARE
    share_now =
        ap (λ (x : List ℕ). at x i SHARE) whole
        ∙ pieced_column m b.size p mark i kept.start kept.sent parent_narrow b.raises.class i SHARE b.raises.class (λ q. omega arith) (λ q. omega arith) (λ q. omega arith)

    sent_now : at m₃ i SENT ≡ at m i SENT
    sent_now =
        ap (λ (x : List ℕ). at x i SENT) whole
        ∙ pieced_column m b.size p mark i kept.start kept.sent parent_narrow b.raises.class i SENT b.raises.class (λ q. omega arith) (λ q. omega arith) (λ q. omega arith)

    piece_now : fair_in m₃ i ≡ kept
    piece_now =
        ap₂ (λ (x y : ℕ). record { start = x; sent = y })
        (ap (λ (x : List ℕ). at x i FAIR_START) whole ∙ pieced_start m b.size p mark i kept.start kept.sent parent_narrow b.raises.class)
        (ap (λ (x : List ℕ). at x i FAIR_SENT) whole ∙ pieced_sent m b.size p mark i kept.start kept.sent parent_narrow b.raises.class)

    pub start_raises : Raises m₃ i
    start_raises =
        record {
          class = b.raises.class;
          share = subst RightRate (sym share_now) b.raises.share;
          sent = omega (arith, sent_now, b.raises.sent);
          start = omega (arith, ap (λ (x : Piece). x.start) piece_now, ap (λ (x : Piece). x.start) is, kept_soon);
        }

    pub start_done : (m₄ : List ℕ) → mark ≡ mark_in m tree p i → VirtualStored m₃ m₄ i → FairStarted m m₄ tree p i
    start_done m₄ e v =
        record {
          time = v.time;
          is_time = least_same share_now (piece_now ∙ is) sent_now v.is_time;
          stored =
              v.stored
              ∙ ap (λ (x : List ℕ). with x i VIRTUAL v.time) whole
              ∙ ap₂ (λ (x : ℕ) (k : Piece). timed m p x i k.start k.sent v.time) e is;
        }
