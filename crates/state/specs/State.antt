-- What the two lent arrays hold for a history: every cell, so that one history allows one content.
-- Assumes nothing.
use Rattle.std.specs.Prelude.{ℕ, zero, suc, ◌+◌, ◌-◌, ◌≤◌, ◌<◌, ◌≡◌, Bool, true, false, cond, ◌&&◌, List, length, get_or}
use Rattle.curve.specs.declared.Piece.{Piece}
use Rattle.curve.specs.declared.Kept.{Kept}
use Rattle.curve.specs.Codec.{code_of}
use Rattle.curve.specs.Keeping.{kept_of, lowest}
use Rattle.tree.specs.declared.Tree.{Tree}
use Rattle.tree.specs.Trees.{parent_of, share_of, curve_of, is_child, is_leaf}
use Rattle.rules.specs.Calls.{Call, History}
use Rattle.rules.specs.Clock.{clock, last_stamp}
use Rattle.rules.specs.Queues.{queue, waits, next_number, head_number, accepted}
use Rattle.rules.specs.Leaves.{sent_real_time, pieces, DeadlineOf, EligibleOf}
use Rattle.rules.specs.Classes.{sent, active}
use Rattle.rules.specs.Fair.{mark, fair_pieces, virtual_time_of}
use Rattle.rules.specs.Choice.{has_curve}
use Rattle.rules.specs.Lawful.{Lawful}
use Rattle.state.specs.Table.{at, header_at, CLASSES, COLUMNS, CELLS, SLOTS, PLACES, slot_of}
use Rattle.state.specs.Columns.{header_cells, CLOCK, STAMP, ACCEPTED, COUNT, PARENT, SHARE, KIND, FIRST, SECOND, THIRD, CHILD, SIBLING, NEXT_NUMBER, HEAD_NUMBER, SENT_REAL_TIME, STEEP_START, STEEP_SENT, FLAT_START, FLAT_SENT, ELIGIBLE, DEADLINE, SENT, FAIR_START, FAIR_SENT, VIRTUAL, MARK, ACTIVE, NEVER}

-- the lowest child of p among the n classes from i on, or 0
unfoldable pub child_from : Tree → ℕ → ℕ → ℕ → ℕ
child_from tree p i zero = 0
child_from tree p i (suc n) = cond (is_child tree p i) i (child_from tree p (suc i) n)

-- the first child of class i, or 0; and the next child of its parent, or 0
abbrev pub first_child : Tree → ℕ → ℕ
first_child tree i = child_from tree i 0 tree.count

abbrev pub next_sibling : Tree → ℕ → ℕ
next_sibling tree i = child_from tree (parent_of tree i) (suc i) (tree.count - suc i)

-- the tree's columns: the curve by its code
pub record ShowsTree (m : List ℕ) (tree : Tree) (i : ℕ) : Type 0 where
  pub parent : at m i PARENT ≡ parent_of tree i
  pub share : at m i SHARE ≡ share_of tree i
  pub kind : at m i KIND ≡ (code_of (curve_of tree i)).kind
  pub first : at m i FIRST ≡ (code_of (curve_of tree i)).first
  pub second : at m i SECOND ≡ (code_of (curve_of tree i)).second
  pub third : at m i THIRD ≡ (code_of (curve_of tree i)).third
  pub child : at m i CHILD ≡ first_child tree i
  pub sibling : at m i SIBLING ≡ next_sibling tree i

-- the pieces kept of a leaf's history; none where there is no curve
abbrev pub no_kept : Kept
no_kept = record { steep = record { start = 0; sent = 0 }; flat = record { start = 0; sent = 0 } }

unfoldable pub kept_for : Tree → List Call → ℕ → Kept
kept_for tree cs i = cond (has_curve (curve_of tree i)) (kept_of (curve_of tree i) (pieces cs i)) no_kept

-- a packet waits in a leaf with a real-time curve: its head has an eligible time and a deadline
abbrev pub has_times : Tree → List Call → ℕ → Bool
has_times tree cs i = waits cs i && has_curve (curve_of tree i)

-- the columns of a class as a leaf
pub record ShowsLeaf (m : List ℕ) (tree : Tree) (cs : List Call) (i : ℕ) : Type 0 where
  pub next_number : at m i NEXT_NUMBER ≡ next_number cs i
  pub head_number : at m i HEAD_NUMBER ≡ head_number cs i
  pub sent_real_time : at m i SENT_REAL_TIME ≡ sent_real_time cs i
  pub steep_start : at m i STEEP_START ≡ (kept_for tree cs i).steep.start
  pub steep_sent : at m i STEEP_SENT ≡ (kept_for tree cs i).steep.sent
  pub flat_start : at m i FLAT_START ≡ (kept_for tree cs i).flat.start
  pub flat_sent : at m i FLAT_SENT ≡ (kept_for tree cs i).flat.sent
  pub eligible : has_times tree cs i ≡ true → EligibleOf tree cs i (at m i ELIGIBLE)
  pub deadline : has_times tree cs i ≡ true → DeadlineOf tree cs i (at m i DEADLINE)
  pub never : has_times tree cs i ≡ false → at m i ELIGIBLE ≡ NEVER
  pub no_deadline : has_times tree cs i ≡ false → at m i DEADLINE ≡ 0

-- how many of the numbers below n are meant
unfoldable pub count_of : ℕ → (ℕ → Bool) → ℕ
count_of zero meant = 0
count_of (suc n) meant = cond (meant n) (count_of n meant + 1) (count_of n meant)

-- 1 for a leaf in which a packet waits; of an interior class how many children are active. It is 0 exactly where the class is passive.
unfoldable pub activity : Tree → List Call → ℕ → ℕ
activity tree cs i = cond (is_leaf tree i) (cond (waits cs i) 1 0) (count_of tree.count (λ k. is_child tree i k && active tree cs k))

-- the piece kept of a class's fair pieces
abbrev pub fair_kept : Tree → List Call → ℕ → Piece
fair_kept tree cs i = lowest (share_of tree i) (fair_pieces tree cs i)

-- the columns of a class among its parent's children, and as a parent
pub record ShowsFair (m : List ℕ) (tree : Tree) (cs : List Call) (i : ℕ) : Type 0 where
  pub sent : at m i SENT ≡ sent tree cs i
  pub fair_start : at m i FAIR_START ≡ (fair_kept tree cs i).start
  pub fair_sent : at m i FAIR_SENT ≡ (fair_kept tree cs i).sent
  pub virtual : at m i VIRTUAL ≡ virtual_time_of tree cs i
  pub mark : at m i MARK ≡ mark tree cs i
  pub active : at m i ACTIVE ≡ activity tree cs i

-- the header
pub record ShowsHeader (m : List ℕ) (h : History) : Type 0 where
  pub clock : header_at m CLOCK ≡ clock h.calls
  pub stamp : header_at m STAMP ≡ last_stamp h.first h.calls
  pub accepted : header_at m ACCEPTED ≡ accepted h.calls
  pub count : header_at m COUNT ≡ h.tree.count
  pub rest : (i : ℕ) → header_cells ≤ i → i < CLASSES → header_at m i ≡ 0

-- "Room freed by a departure is used by later arrivals": packet p of class i lies in slot p mod SLOTS, and a slot in which none waits has 0
pub record ShowsSlots (l : List ℕ) (cs : List Call) (i : ℕ) : Type 0 where
  pub waiting : (k : ℕ) → k < length (queue cs i) → get_or l (slot_of i (head_number cs i + k)) 0 ≡ get_or (queue cs i) k 0
  pub free : (k : ℕ) → length (queue cs i) ≤ k → k < SLOTS → get_or l (slot_of i (head_number cs i + k)) 0 ≡ 0

-- the two arrays hold exactly what the history determines
pub record Shows (m l : List ℕ) (h : History) : Type 0 where
  pub size : length m ≡ CELLS
  pub room : length l ≡ PLACES
  pub header : ShowsHeader m h
  pub trees : (i : ℕ) → i < h.tree.count → ShowsTree m h.tree i
  pub leaves : (i : ℕ) → i < h.tree.count → ShowsLeaf m h.tree h.calls i
  pub fairs : (i : ℕ) → i < h.tree.count → ShowsFair m h.tree h.calls i
  pub blank : (i f : ℕ) → h.tree.count ≤ i → i < CLASSES → 1 ≤ f → f < COLUMNS → at m i f ≡ 0
  pub slots : (i : ℕ) → i < CLASSES → ShowsSlots l h.calls i

-- "A state comes only from start or an earlier call; that is the single premise a scheduler call may have"
pub record Reached (m l : List ℕ) : Type 0 where
  pub history : History
  pub lawful : Lawful history
  pub shows : Shows m l history
