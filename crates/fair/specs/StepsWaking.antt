-- What the steps of a class that turns active make of the table, from a class on upward: the definitions that their promises cite.
-- Assumes nothing.
use Rattle.std.specs.Prelude.{ℕ, ◌+◌, ◌/◌, ◌≤◌, ◌<◌, min, max, ◌≡◌, Bool, true, false, cond, not, ◌&&◌, ◌||◌, List, ◌∷◌, length, eqb}
use Rattle.curve.specs.Answers.{Least}
use Rattle.curve.specs.declared.Curve.TheVariants.{Straight}
use Rattle.curve.specs.declared.Piece.{Piece}
use Rattle.curve.specs.Curves.{RightRate}
use Rattle.curve.specs.Keeping.{most_bytes, most_start, Stands, lower_of}
use Rattle.tree.specs.declared.Tree.{Tree}
use Rattle.tree.specs.Trees.{is_child, is_leaf}
use Rattle.tree.specs.Rules.{RightTree}
use Rattle.rules.specs.Calls.{Call, came}
use Rattle.rules.specs.Over.{any_of, largest_of, smallest_of}
use Rattle.rules.specs.Classes.{is_within, sent, active}
use Rattle.rules.specs.Fair.{virtual_time_of}
use Rattle.fair.specs.declared.Spread.{Spread}
use Rattle.state.specs.Table.{at, with, CLASSES, COLUMNS, CELLS}
use Rattle.state.specs.State.{ShowsTree, ShowsFair, fair_kept}
use Rattle.state.specs.Steps.{Planted}
use Rattle.fair.specs.Steps.{fair_in, KeepsOthers}
use Rattle.state.specs.Columns.{LARGEST, SHARE, SENT, FAIR_START, FAIR_SENT, VIRTUAL, MARK, ACTIVE}

-- a class's virtual time can be worked out from its columns
pub record Raises (m : List ℕ) (i : ℕ) : Type 0 where
  pub class : i < CLASSES
  pub share : RightRate (at m i SHARE)
  pub sent : at m i SENT ≤ most_bytes
  pub start : at m i FAIR_START ≤ most_start

-- the virtual time, stored
pub record VirtualStored (m m' : List ℕ) (i : ℕ) : Type 0 where
  pub time : ℕ
  pub is_time : Least (Stands (Straight (at m i SHARE)) (fair_in m i) (at m i SENT)) time
  pub stored : m' ≡ with m i VIRTUAL time

-- Of the children of a class p, as its child i turns active.

-- class k is not i, and is active by its column
unfoldable pub other_in : List ℕ → (i k : ℕ) → Bool
other_in m i k = not (eqb k i) && not (eqb (at m k ACTIVE) 0)

abbrev pub others_in : List ℕ → Tree → (p i : ℕ) → ℕ → Bool
others_in m tree p i k = is_child tree p k && other_in m i k

-- one child more, with its virtual time
abbrev pub spread_with : Spread → ℕ → Bool → Spread
spread_with s v other =
    record {
      any = other || s.any;
      low = cond other (min v s.low) s.low;
      high = cond other (max v s.high) s.high;
      last = max v s.last;
    }

-- the children with numbers below n
unfoldable pub spread_below : List ℕ → Tree → (p i n : ℕ) → Spread
spread_below m tree p i n =
    record {
      any = any_of n (λ k. others_in m tree p i k);
      low = cond (any_of n (λ k. others_in m tree p i k)) (smallest_of n (λ k. others_in m tree p i k) (λ k. at m k VIRTUAL)) LARGEST;
      high = largest_of n (λ k. others_in m tree p i k) (λ k. at m k VIRTUAL);
      last = largest_of n (λ k. is_child tree p k) (λ k. at m k VIRTUAL);
    }

-- what the old mark is held against, by the columns
unfoldable pub met_in : List ℕ → Tree → (p i : ℕ) → ℕ
met_in m tree p i =
    cond (any_of tree.count (λ k. others_in m tree p i k))
    ((smallest_of tree.count (λ k. others_in m tree p i k) (λ k. at m k VIRTUAL) + largest_of tree.count (λ k. others_in m tree p i k) (λ k. at m k VIRTUAL)) / 2)
    (largest_of tree.count (λ k. is_child tree p k) (λ k. at m k VIRTUAL))

-- a table with the tree's columns, for a right tree, and with virtual times of p's children that the curve layer takes
pub record Family (m : List ℕ) (tree : Tree) (p : ℕ) : Type 0 where
  pub right : RightTree tree
  pub class : p < tree.count
  pub trees : (k : ℕ) → k < tree.count → ShowsTree m tree k
  pub soon : (k : ℕ) → is_child tree p k ≡ true → at m k VIRTUAL ≤ most_start

-- the parent's new mark, and the piece that the class then keeps
abbrev pub mark_in : List ℕ → Tree → (p i : ℕ) → ℕ
mark_in m tree p i = max (at m p MARK) (met_in m tree p i)

abbrev pub kept_now : List ℕ → Tree → (p i : ℕ) → Piece
kept_now m tree p i = lower_of (at m i SHARE) (fair_in m i) (record { start = mark_in m tree p i; sent = at m i SENT })

pub record BeforeStart (m : List ℕ) (tree : Tree) (p i : ℕ) : Type 0 where
  pub size : length m ≡ CELLS
  pub family : Family m tree p
  pub child : is_child tree p i ≡ true
  pub raises : Raises m i
  pub mark : at m p MARK ≤ most_start

-- the mark, the kept piece and the virtual time, stored
pub record FairStarted (m m' : List ℕ) (tree : Tree) (p i : ℕ) : Type 0 where
  pub time : ℕ
  pub is_time : Least (Stands (Straight (at m i SHARE)) (kept_now m tree p i) (at m i SENT)) time
  pub stored : m' ≡ with (with (with (with m p MARK (mark_in m tree p i)) i FAIR_START (kept_now m tree p i).start) i FAIR_SENT (kept_now m tree p i).sent) i VIRTUAL time

-- the columns of a class as its parent's child
pub record ShowsChild (m : List ℕ) (tree : Tree) (cs : List Call) (i : ℕ) : Type 0 where
  pub sent : at m i SENT ≡ sent tree cs i
  pub fair_start : at m i FAIR_START ≡ (fair_kept tree cs i).start
  pub fair_sent : at m i FAIR_SENT ≡ (fair_kept tree cs i).sent
  pub virtual : at m i VIRTUAL ≡ virtual_time_of tree cs i

-- A packet has come into the empty leaf j, which lies in the passive class i; what is beneath i is done. The classes not in i still have their columns
-- from before, and so has i as its parent's child.
pub record BeforeTurn (m : List ℕ) (tree : Tree) (cs : List Call) (j i : ℕ) : Type 0 where
  pub planted : Planted m tree cs
  pub leaf : is_leaf tree j ≡ true
  pub class : i < tree.count
  pub line : is_within tree i j ≡ true
  pub passive : active tree cs i ≡ false
  pub own : ShowsChild m tree cs i
  pub others : (k : ℕ) → k < tree.count → is_within tree i k ≡ false → ShowsFair m tree cs k

-- now they have those from after it, and nothing else is changed
pub record AfterTurn (m m' : List ℕ) (tree : Tree) (cs : List Call) (j i : ℕ) : Type 0 where
  pub alone : KeepsOthers m m' tree
  pub own : (t n : ℕ) → ShowsChild m' tree (came t j n ∷ cs) i
  pub mark : at m' i MARK ≡ at m i MARK
  pub active : at m' i ACTIVE ≡ at m i ACTIVE
  pub beneath : (k f : ℕ) → k < tree.count → f < COLUMNS → is_within tree i k ≡ true → (k ≡ i → ⊥) → at m' k f ≡ at m k f
  pub others : (t n k : ℕ) → k < tree.count → is_within tree i k ≡ false → ShowsFair m' tree (came t j n ∷ cs) k
