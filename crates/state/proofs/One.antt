-- Each step's promise allows one table, or one choice: two that it allows of the same table are equal. The promises of `get`, `put`, those of a header's
-- cell and of a length, `put_times`, `times_of`, `count_bytes`, `add_piece`, `tick` and `move_clock` are equations.
-- Assumes nothing.
use Rattle.std.specs.Prelude.{Option, Some, None}
use Prim.Native.Nat.{ℕ, ◌≤◌, ◌<◌}
use mathlib.Core.Path.{◌≡◌, refl, sym, subst, ap, ◌∙◌}
use mathlib.Core.List.{List}
use mathlib.Core.Logic.{⊎_elim}
use native.Mathlib.Omega.{arith}
use lib.Dec.{eqb}
use lib.Seq.{ext_get_or}
use borrow.Author.Tests.{eqb-true, eqb-false}
use Rattle.curve.specs.declared.Kept.{Kept}
use Rattle.curve.proofs.Laws.Answers.{least_one}
use Rattle.curve.proofs.Laws.Order.{le_or_lt}
use Rattle.tree.specs.declared.Tree.{Tree}
use Rattle.tree.specs.Trees.{curve_of}
use Rattle.rules.specs.declared.Rule.{Rule}
use Rattle.rules.specs.declared.Rule.TheVariants.{RealTime, Fair}
use Rattle.rules.specs.Calls.{Call}
use Rattle.rules.specs.Choice.{has_curve}
use Rattle.rules.proofs.Tests.{never, decided, equal_or_not}
use Rattle.rules.proofs.Choice.{choice_one}
use Rattle.rules.proofs.Active.{choice_waits}
use Rattle.state.specs.declared.choice.Sender.{Sender}
use Rattle.state.specs.Table.{at, COLUMNS, CLASSES}
use Rattle.state.specs.Columns.{HEADER, CHILD, SIBLING, SENT, FAIR_START, FAIR_SENT, VIRTUAL, MARK, ACTIVE, fair_from, STEEP_START, STEEP_SENT, FLAT_START, FLAT_SENT, ELIGIBLE, DEADLINE, times_from}
use Rattle.state.specs.State.{ShowsFair}
use Rattle.state.specs.Steps.{kept_in, LeafTimed, BeforeTiming, AfterTiming, RipeTick, DueTick, NextRipe, NextTimed, untimed, timed, with_times}
use Rattle.state.specs.Heads.{SomeCalls, EveryCalls}
use Rattle.state.specs.StepsChoosing.{Told, Chosen}
use Rattle.state.specs.Planting.{AllZero, PlantedBelow, Linked}
use Rattle.state.proofs.Cells.{cells_equal}

-- a column is the one named, or another
pub by_column : (P : ℕ → Type 0) (c f : ℕ) → P c → ((f ≡ c → ⊥) → P f) → P f
by_column P c f same other = ⊎_elim (λ e. subst P (sym (eqb-true f c e)) same) (λ e. other (eqb-false f c e)) (decided (eqb f c))

-- the columns of a class among its parent's children
pub fair_columns : {m m' : List ℕ} {tree : Tree} {cs : List Call} {k : ℕ} → ShowsFair m tree cs k → ShowsFair m' tree cs k → (f : ℕ) → fair_from ≤ f → f < COLUMNS → at m k f ≡ at m' k f
fair_columns {m} {m'} {k = k} s s' f low high =
    by_column P SENT f (s.sent ∙ sym s'.sent)
    (λ a. by_column P FAIR_START f (s.fair_start ∙ sym s'.fair_start)
    (λ b. by_column P FAIR_SENT f (s.fair_sent ∙ sym s'.fair_sent)
    (λ c. by_column P VIRTUAL f (s.virtual ∙ sym s'.virtual)
    (λ d. by_column P MARK f (s.mark ∙ sym s'.mark)
    (λ e. by_column P ACTIVE f (s.active ∙ sym s'.active)
    (λ g. absurd (omega arith)))))))
  where
    P : ℕ → Type 0
    P x = at m k x ≡ at m' k x

pub ripe_one : (m : List ℕ) (i r s : ℕ) → RipeTick m i r → RipeTick m i s → r ≡ s
ripe_one m i r s p q = least_one p q

pub due_one : (m : List ℕ) (i n r s : ℕ) → DueTick m i n r → DueTick m i n s → r ≡ s
due_one m i n r s p q = least_one p q

next_ripe_one : (rule : Rule) (m : List ℕ) (i : ℕ) {r s : ℕ} → NextRipe rule m i r → NextRipe rule m i s → r ≡ s
next_ripe_one RealTime m i p q = least_one p q
next_ripe_one Fair m i p q = p ∙ sym q

pub time_next_one : (m r s : List ℕ) (i n : ℕ) (rule : Rule) → NextTimed m r i n rule → NextTimed m s i n rule → r ≡ s
time_next_one m r s i n rule (untimed z p) (untimed z' q) = p ∙ sym q
time_next_one m r s i n rule (untimed z p) (timed some e d ripe due q) = absurd (some z)
time_next_one m r s i n rule (timed some e d ripe due p) (untimed z q) = absurd (some z)
time_next_one m r s i n rule (timed some e d ripe due p) (timed some' e' d' ripe' due' q) =
    p ∙ (λ k. with_times m i (next_ripe_one rule m i ripe ripe' k) (due_one m i n d d' due due' k)) ∙ sym q

-- the columns of a leaf's pieces and times
timed_columns : {m m' : List ℕ} {tree : Tree} {cs : List Call} {j : ℕ} → LeafTimed m tree cs j → LeafTimed m' tree cs j → (f : ℕ) → times_from ≤ f → f < fair_from → at m j f ≡ at m' j f
timed_columns {m} {m'} {tree} {cs} {j} s s' f low high =
    let same : kept_in m j ≡ kept_in m' j = s.kept ∙ sym s'.kept in
    let curved = decided (has_curve (curve_of tree j)) in
    by_column P STEEP_START f (ap (λ (k : Kept). k.steep.start) same)
    (λ a. by_column P STEEP_SENT f (ap (λ (k : Kept). k.steep.sent) same)
    (λ b. by_column P FLAT_START f (ap (λ (k : Kept). k.flat.start) same)
    (λ c. by_column P FLAT_SENT f (ap (λ (k : Kept). k.flat.sent) same)
    (λ d. by_column P ELIGIBLE f (⊎_elim (λ x. least_one (s.eligible x) (s'.eligible x)) (λ x. s.never x ∙ sym (s'.never x)) curved)
    (λ e. by_column P DEADLINE f (⊎_elim (λ x. least_one (s.deadline x) (s'.deadline x)) (λ x. s.no_deadline x ∙ sym (s'.no_deadline x)) curved)
    (λ g. absurd (omega arith)))))))
  where
    P : ℕ → Type 0
    P x = at m j x ≡ at m' j x

pub time_first_one : (m : List ℕ) (j t n : ℕ) → SomeCalls (λ tree cs. BeforeTiming m tree cs j t n) → (r s : List ℕ)
    → EveryCalls (λ tree cs. BeforeTiming m tree cs j t n) (λ tree cs. AfterTiming m r tree cs j t n)
    → EveryCalls (λ tree cs. BeforeTiming m tree cs j t n) (λ tree cs. AfterTiming m s tree cs j t n)
    → r ≡ s
time_first_one m j t n w r s f g =
    let p = f w.tree w.calls w.holds in
    let q = g w.tree w.calls w.holds in
    cells_equal r s p.only.size q.only.size
    (λ k c room column.
    ⊎_elim
    (λ (e : k ≡ j).
    let class : j < CLASSES = omega arith in
    subst (λ (x : ℕ). at r x c ≡ at s x c) (sym e)
    (⊎_elim
    (λ (l : times_from ≤ c).
    ⊎_elim (λ (h : fair_from ≤ c). p.only.fairs j c class h column ∙ sym (q.only.fairs j c class h column))
    (λ (h : c < fair_from). timed_columns p.timed q.timed c l h) (le_or_lt fair_from c))
    (λ (l : c < times_from). p.only.columns j c class l ∙ sym (q.only.columns j c class l)) (le_or_lt times_from c)))
    (λ (e : k ≡ j → ⊥). p.only.others k c room column e ∙ sym (q.only.others k c room column e))
    (equal_or_not k j))

-- `clear_words` and `clear_lengths`
pub clear_one : (n : ℕ) (r s : List ℕ) → AllZero r n → AllZero s n → r ≡ s
clear_one n r s p q = ext_get_or 0 r s (p.size ∙ sym q.size) (λ k l. p.zero k ∙ sym (q.zero k))

pub plant_one : (tree : Tree) (n : ℕ) (m r s : List ℕ) → PlantedBelow m r tree n → PlantedBelow m s tree n → r ≡ s
plant_one tree n m r s p q =
    cells_equal r s p.size q.size
    (λ k f room column.
    by_column (λ x. at r k x ≡ at s k x) HEADER f (p.header k room ∙ sym (q.header k room))
    (λ past.
    ⊎_elim (λ l. p.others k f l room (omega arith) column ∙ sym (q.others k f l room (omega arith) column))
    (λ l. p.rows k f l (omega arith) column ∙ sym (q.rows k f l (omega arith) column)) (le_or_lt n k)))

pub link_one : (tree : Tree) (m r s : List ℕ) → Linked m r tree → Linked m s tree → r ≡ s
link_one tree m r s p q =
    cells_equal r s p.size q.size
    (λ k f room column.
    ⊎_elim (λ l. p.blank k f l room column ∙ sym (q.blank k f l room column))
    (λ l.
    by_column (λ x. at r k x ≡ at s k x) CHILD f (p.child k l ∙ sym (q.child k l))
    (λ a. by_column (λ x. at r k x ≡ at s k x) SIBLING f (p.sibling k l ∙ sym (q.sibling k l))
    (λ b. p.others k f room column a b ∙ sym (q.others k f room column a b))))
    (le_or_lt tree.count k))

pub chosen_one : {m : List ℕ} {tree : Tree} {cs : List Call} → Told m tree cs → (tick : ℕ) (a b : Option Sender) → Chosen tree cs tick a → Chosen tree cs tick b → a ≡ b
chosen_one {tree = tree} {cs = cs} told tick (Some a) (Some b) p q =
    let same = choice_one tree cs tick a.class b.class a.rule b.rule p q in λ i. Some (record { class = same.0 i; rule = same.1 i })
chosen_one {tree = tree} {cs = cs} told tick (Some a) None p q = never (choice_waits tree told.grown cs tick a.class a.rule p) (q a.class)
chosen_one {tree = tree} {cs = cs} told tick None (Some b) p q = never (choice_waits tree told.grown cs tick b.class b.rule q) (p b.class)
chosen_one told tick None None p q = refl

pub choose_one : (m : List ℕ) → SomeCalls (Told m) → (tick : ℕ) (a b : Option Sender) → EveryCalls (Told m) (λ tree cs. Chosen tree cs tick a)
    → EveryCalls (Told m) (λ tree cs. Chosen tree cs tick b) → a ≡ b
choose_one m w tick a b f g = chosen_one w.holds tick a b (f w.tree w.calls w.holds) (g w.tree w.calls w.holds)
