-- Runs in numbers: each premise of a call on closed numbers is told by a test that is computed.
-- Assumes nothing.
use Rattle.std.proofs.Common.{◌≡◌, ℕ, ◌+◌, ◌-◌, ◌<◌, ◌≤◌, max, Bool, true, false, not, ◌&&◌, ◌||◌, eqb, ltb, leb, List, [], ◌∷◌, refl, ⊎_elim, le_trans, le_of_eq, le_refl, arith, lt-ltb, eqb-true, le-leb, leb-true}
use Rattle.curve.specs.Curves.{in_parts}
use Rattle.curve.specs.Pieces.{standing, EveryPiece, latest, Due, Deadline, lead, Ripe, Eligible}
use Rattle.curve.specs.Answers.{Least}
use Rattle.curve.specs.declared.Curve.{Curve}
use Rattle.curve.specs.declared.Piece.{Piece}
use Rattle.curve.proofs.Laws.Order.{le_or_lt}
use Rattle.curve.proofs.Laws.Lists.{every_none, every_more, every_head, every_rest}
use Rattle.curve.proofs.Laws.Leaf.{every_mono}
use Rattle.curve.proofs.Laws.Times.{eligible_exists}
use Rattle.tree.specs.declared.Tree.{Tree}
use Rattle.tree.specs.Trees.{curve_of, is_child, is_leaf}
use Rattle.rules.specs.declared.Rule.TheVariants.{RealTime, Fair}
use Rattle.rules.specs.Limits.{weigh}
use Rattle.rules.specs.Calls.{Call, came, left, idle}
use Rattle.rules.specs.Clock.{clock}
use Rattle.rules.specs.Queues.{head_of, tail_of, waits, head_length}
use Rattle.rules.specs.Leaves.{sent_real_time, pieces, DeadlineOf}
use Rattle.rules.specs.Over.{any_of}
use Rattle.rules.specs.Classes.{active}
use Rattle.rules.specs.Fair.{virtual_time_of}
use Rattle.rules.specs.Choice.{has_curve, Contends, RealTimeRule, ActiveChild, FairRule, reached, down, NothingWaits}
use Rattle.rules.specs.Checks.{Outcome, passed, refused, outcome}
use Rattle.rules.specs.Lawful.{checks_of, Finds, Allowed, LawfulCalls, Grown}
use Rattle.rules.proofs.Tests.{never, and_left, and_right, and_both, or_either, or_left, or_right, is_false, is_not, not_is}
use Rattle.rules.proofs.Over.{any_none}
use Rattle.rules.proofs.Trees.{leaf_class, child_class, curve_rising}
use Rattle.rules.proofs.Queues.{waits_leaf}
use Rattle.rules.specs.Link.{free, AskedFree, EveryCallKeeps}

-- both parts of a test
both : (a b : Bool) → (a && b) ≡ true → (a ≡ true) × (b ≡ true)
both a b e = (and_left a b e, and_right a b e)

-- what is due and what is ripe

unfoldable pub every : Curve → List Piece → ℕ → ℕ → Bool
every S [] t y = true
every S (p ∷ ps) t y = leb y (standing S p t) && every S ps t y

every_is : (S : Curve) (ps : List Piece) (t y : ℕ) → every S ps t y ≡ true → EveryPiece S ps t y
unfolding every
every_is S [] t y e = every_none S t y
every_is S (p ∷ ps) t y e =
    let (a, b) = both (leb y (standing S p t)) (every S ps t y) e in
    every_more S p ps t y (leb-true y (standing S p t) a) (every_is S ps t y b)

is_every : (S : Curve) (ps : List Piece) (t y : ℕ) → EveryPiece S ps t y → every S ps t y ≡ true
unfolding every
is_every S [] t y h = refl
is_every S (p ∷ ps) t y h =
    and_both (leb y (standing S p t)) (every S ps t y) (le-leb y (standing S p t) (every_head S p ps t y h)) (is_every S ps t y (every_rest S p ps t y h))

abbrev pub due : Curve → List Piece → ℕ → ℕ → Bool
due S ps bytes t = leb (latest ps) t && every S ps t (in_parts bytes)

due_is : (S : Curve) (ps : List Piece) (bytes t : ℕ) → due S ps bytes t ≡ true → Due S ps bytes t
due_is S ps bytes t e =
    let (a, b) = both (leb (latest ps) t) (every S ps t (in_parts bytes)) e in
    record { after = leb-true (latest ps) t a; every = every_is S ps t (in_parts bytes) b }

is_due : (S : Curve) (ps : List Piece) (bytes t : ℕ) → Due S ps bytes t → due S ps bytes t ≡ true
is_due S ps bytes t h =
    and_both (leb (latest ps) t) (every S ps t (in_parts bytes)) (le-leb (latest ps) t h.after) (is_every S ps t (in_parts bytes) h.every)

abbrev pub ripe : Curve → List Piece → ℕ → ℕ → Bool
ripe S ps bytes t = leb (latest ps) t && every S ps (t + lead S) (in_parts bytes)

ripe_is : (S : Curve) (ps : List Piece) (bytes t : ℕ) → ripe S ps bytes t ≡ true → Ripe S ps bytes t
ripe_is S ps bytes t e =
    let (a, b) = both (leb (latest ps) t) (every S ps (t + lead S) (in_parts bytes)) e in
    record { after = leb-true (latest ps) t a; every = every_is S ps (t + lead S) (in_parts bytes) b }

is_ripe : (S : Curve) (ps : List Piece) (bytes t : ℕ) → Ripe S ps bytes t → ripe S ps bytes t ≡ true
is_ripe S ps bytes t h =
    and_both (leb (latest ps) t) (every S ps (t + lead S) (in_parts bytes)) (le-leb (latest ps) t h.after)
    (is_every S ps (t + lead S) (in_parts bytes) h.every)

-- the least number at which a test is true: it is true there, and not at the number before
abbrev pub least_at : (ℕ → Bool) → ℕ → Bool
least_at test t = test t && (eqb t 0 || not (test (t - 1)))

least_told : (P : ℕ → Type 0) (test : ℕ → Bool) → ((t : ℕ) → test t ≡ true → P t) → ((t : ℕ) → P t → test t ≡ true)
    → ((t u : ℕ) → t ≤ u → P t → P u) → (t : ℕ) → least_at test t ≡ true → Least P t
least_told P test is of later t e =
    let (at, before) = both (test t) _ e in
    record { holds = is t at; least = λ u h. ⊎_elim (λ l. l) (λ l. absurd (early u h l before)) (le_or_lt t u) }
  where
    early : (u : ℕ) → P u → u < t → (eqb t 0 || not (test (t - 1))) ≡ true → ⊥
    early u h l e =
        ⊎_elim
        (λ (q : eqb t 0 ≡ true). omega (arith, eqb-true t 0 q))
        (λ (q : not (test (t - 1)) ≡ true). never (of (t - 1) (later u (t - 1) (omega arith) h)) (is_not (test (t - 1)) q))
        (or_either (eqb t 0) (not (test (t - 1))) e)

-- what is due or ripe stays so
due_later : (S : Curve) (ps : List Piece) (bytes t u : ℕ) → t ≤ u → Due S ps bytes t → Due S ps bytes u
due_later S ps bytes t u l h = record { after = le_trans h.after l; every = every_mono S ps l (le_refl (in_parts bytes)) h.every }

ripe_later : (S : Curve) (ps : List Piece) (bytes t u : ℕ) → t ≤ u → Ripe S ps bytes t → Ripe S ps bytes u
ripe_later S ps bytes t u l h =
    record { after = le_trans h.after l; every = every_mono S ps (omega arith) (le_refl (in_parts bytes)) h.every }

pub deadline_told : (S : Curve) (ps : List Piece) (bytes d : ℕ) → least_at (due S ps bytes) d ≡ true → Deadline S ps bytes d
deadline_told S ps bytes = least_told (Due S ps bytes) (due S ps bytes) (due_is S ps bytes) (is_due S ps bytes) (due_later S ps bytes)

pub eligible_told : (S : Curve) (ps : List Piece) (bytes t : ℕ) → least_at (ripe S ps bytes) t ≡ true → Eligible S ps bytes t
eligible_told S ps bytes = least_told (Ripe S ps bytes) (ripe S ps bytes) (ripe_is S ps bytes) (is_ripe S ps bytes) (ripe_later S ps bytes)

-- what is due before d is due a tick before d
due_before : (S : Curve) (ps : List Piece) (bytes u d : ℕ) → Due S ps bytes u → u < d → due S ps bytes (d - 1) ≡ true
due_before S ps bytes u d h l = is_due S ps bytes (d - 1) (due_later S ps bytes u (d - 1) (omega arith) h)

module _ (tree : Tree) (cs : List Call) where
  -- the head of leaf k is due at t
  abbrev pub head_due : ℕ → ℕ → Bool
  head_due k t = due (curve_of tree k) (pieces cs k) (sent_real_time cs k + weigh (head_length cs k)) t

  -- leaf k is one of those that the real-time rule looks at
  abbrev pub contender : ℕ → ℕ → Bool
  contender now k =
      is_leaf tree k && (waits cs k && (has_curve (curve_of tree k) && ripe (curve_of tree k) (pieces cs k) (sent_real_time cs k) now))

  is_contender : (now k d : ℕ) → Contends tree cs now k d → contender now k ≡ true
  is_contender now k d c =
      and_both (is_leaf tree k) _ c.leaf
      (and_both (waits cs k) _ c.waiting
      (and_both (has_curve (curve_of tree k)) _ c.curved
      (and_both (leb (latest (pieces cs k)) now) _
      (le-leb (latest (pieces cs k)) now (le_trans c.is_eligible.holds.after c.ripe))
      (is_every S (pieces cs k) (now + lead S) y
      (every_mono S (pieces cs k) (omega (arith, c.ripe)) (le_refl y) c.is_eligible.holds.every)))))
    where
      S : Curve
      S = curve_of tree k

      y : ℕ
      y = in_parts (sent_real_time cs k)

  contender_is : Grown tree → (now k d : ℕ) → contender now k ≡ true → DeadlineOf tree cs k d → Contends tree cs now k d
  contender_is grown now k d e deadline =
      let (leaf, e₁) = both (is_leaf tree k) _ e in
      let (waiting, e₂) = both (waits cs k) _ e₁ in
      let (curved, e₃) = both (has_curve (curve_of tree k)) _ e₂ in
      let (after, all) = both (leb (latest (pieces cs k)) now) _ e₃ in
      let eligible = eligible_exists (curve_of tree k) (curve_rising tree grown k (leaf_class tree k leaf) curved) (pieces cs k) (sent_real_time cs k) in
      record {
        leaf = leaf;
        waiting = waiting;
        curved = curved;
        eligible = eligible.0;
        is_eligible = eligible.1;
        ripe =
            eligible.1.least now
            (record {
              after = leb-true (latest (pieces cs k)) now after;
              every = every_is (curve_of tree k) (pieces cs k) (now + lead (curve_of tree k)) (in_parts (sent_real_time cs k)) all;
            });
        is_deadline = deadline;
      }

  -- leaf k would come before leaf j with its deadline d
  abbrev pub sooner : ℕ → ℕ → ℕ → ℕ → Bool
  sooner now j d k = contender now k && (head_due k (d - 1) || (ltb k j && head_due k d))

  pub real_time_told : Grown tree → (now j d : ℕ) → contender now j ≡ true → head_due j d ≡ true → any_of tree.count (sooner now j d) ≡ false
      → RealTimeRule tree cs now j
  real_time_told grown now j d contends at none =
      record {
        deadline = d;
        first =
            record {
              meant = contender_is grown now j d contends deadline;
              smallest = λ k y c.
                  ⊎_elim
                  (λ l. l)
                  (λ l.
                  absurd
                  (not_sooner k (leaf_class tree k c.leaf) (is_contender now k y c)
                  (or_left (head_due k (d - 1)) (ltb k j && head_due k d) (due_before (curve_of tree k) (pieces cs k) _ y d c.is_deadline.holds l))))
                  (le_or_lt d y);
              lowest = λ k c.
                  ⊎_elim
                  (λ l. l)
                  (λ l.
                  absurd
                  (not_sooner k (leaf_class tree k c.leaf) (is_contender now k d c)
                  (or_right (head_due k (d - 1)) (ltb k j && head_due k d)
                  (and_both (ltb k j) (head_due k d) (lt-ltb k j l) (is_due (curve_of tree k) (pieces cs k) _ d c.is_deadline.holds)))))
                  (le_or_lt j k);
            };
      }
    where
      not_sooner : (k : ℕ) → k < tree.count → contender now k ≡ true → (head_due k (d - 1) || (ltb k j && head_due k d)) ≡ true → ⊥
      not_sooner k l c e =
          never
          (and_both (contender now k) (head_due k (d - 1) || (ltb k j && head_due k d)) c e)
          (any_none tree.count (sooner now j d) none k l)

      deadline : DeadlineOf tree cs j d
      deadline =
          deadline_told (curve_of tree j) (pieces cs j) _ d
          (and_both (head_due j d) _ at
          (or_right (eqb d 0) _
          (not_is (head_due j (d - 1))
          (is_false (head_due j (d - 1))
          (λ e.
          not_sooner j (leaf_class tree j (and_left (is_leaf tree j) _ contends)) contends
          (or_left (head_due j (d - 1)) (ltb j j && head_due j d) e))))))

  -- class k is an active child of the root
  abbrev pub child : ℕ → Bool
  child k = is_child tree 0 k && active tree cs k

  -- it would come before child j
  abbrev pub lower : ℕ → ℕ → Bool
  lower j k = child k && (ltb (virtual_time_of tree cs k) (virtual_time_of tree cs j) || (ltb k j && leb (virtual_time_of tree cs k) (virtual_time_of tree cs j)))

  -- the fair rule, where the choice ends at a child of the root
  pub fair_told : (now j : ℕ) → any_of tree.count (contender now) ≡ false → is_leaf tree j ≡ true → child j ≡ true → any_of tree.count (lower j) ≡ false
      → FairRule tree cs now j
  fair_told now j none leaf active-j low =
      record {
        none = λ k d c. never (is_contender now k d c) (any_none tree.count (contender now) none k (leaf_class tree k c.leaf));
        goes_down =
            down {k = j} {v = v j}
            (record {
              meant = record { child = and_left (is_child tree 0 j) (active tree cs j) active-j; is_active = and_right (is_child tree 0 j) (active tree cs j) active-j; virtual = refl };
              smallest = λ k y c.
                  ⊎_elim
                  (λ l. omega (arith, c.virtual, l))
                  (λ l. absurd (not_lower k y c (or_left (ltb (v k) (v j)) (ltb k j && leb (v k) (v j)) (lt-ltb (v k) (v j) l))))
                  (le_or_lt (v j) (v k));
              lowest = λ k c.
                  ⊎_elim
                  (λ l. l)
                  (λ l.
                  absurd
                  (not_lower k (v j) c
                  (or_right (ltb (v k) (v j)) (ltb k j && leb (v k) (v j))
                  (and_both (ltb k j) (leb (v k) (v j)) (lt-ltb k j l) (le-leb (v k) (v j) (le_of_eq c.virtual))))))
                  (le_or_lt j k);
            })
            (reached leaf);
      }
    where
      v : ℕ → ℕ
      v k = virtual_time_of tree cs k

      not_lower : (k y : ℕ) → ActiveChild tree cs 0 k y → (ltb (v k) (v j) || (ltb k j && leb (v k) (v j))) ≡ true → ⊥
      not_lower k y c e =
          never
          (and_both (child k) (ltb (v k) (v j) || (ltb k j && leb (v k) (v j))) (and_both (is_child tree 0 k) (active tree cs k) c.child c.is_active) e)
          (any_none tree.count (lower j) low k (child_class tree 0 k c.child))

-- a call passes its checks

abbrev pub is_passed : Outcome → Bool
is_passed passed = true
is_passed (refused number) = false

passed_is : (o : Outcome) → is_passed o ≡ true → o ≡ passed
passed_is passed e = refl
passed_is (refused number) e = never e refl

abbrev pub passes : Tree → List Call → Call → Bool
passes tree cs c = leb (clock cs) (clock (c ∷ cs)) && is_passed (outcome (checks_of tree cs c (clock (c ∷ cs) - clock cs)))

passes_is : (tree : Tree) (cs : List Call) (c : Call) → passes tree cs c ≡ true → Finds tree cs c → Allowed tree cs c
passes_is tree cs c e found =
    let (a, b) = both (leb (clock cs) (clock (c ∷ cs))) _ e in
    record {
      elapsed = clock (c ∷ cs) - clock cs;
      is_tick = omega (arith, leb-true (clock cs) (clock (c ∷ cs)) a);
      checked = passed_is (outcome (checks_of tree cs c (clock (c ∷ cs) - clock cs))) b;
      finds = found;
    }

-- The link: it is free at a departure, and where a packet waits the clock does not pass the later of now and the tick at which the link is free.
abbrev pub asked : ℕ → List Call → Call → Bool
asked r cs (came at j n) = true
asked r cs (left at j rule) = leb (free r cs) at
asked r cs (idle at) = leb (free r cs) at

asked_is : (r : ℕ) (cs : List Call) (c : Call) → asked r cs c ≡ true → AskedFree r cs c
asked_is r cs (came at j n) e = tt
asked_is r cs (left at j rule) e = leb-true (free r cs) at e
asked_is r cs (idle at) e = leb-true (free r cs) at e

module _ (tree : Tree) where
  -- no packet waits
  abbrev pub rests : List Call → Bool
  rests cs = not (any_of tree.count (waits cs))

  rests_is : (cs : List Call) → LawfulCalls tree cs → rests cs ≡ true → NothingWaits cs
  rests_is cs lawful e j =
      is_false (waits cs j)
      (λ w.
      never w
      (any_none tree.count (waits cs) (is_not (any_of tree.count (waits cs)) e) j (leaf_class tree j (waits_leaf tree cs lawful j w))))

  -- what a departure finds, with the deadline d of a packet that leaves by the real-time rule
  abbrev pub finds : ℕ → List Call → Call → Bool
  finds d cs (came at j n) = true
  finds d cs (left at j RealTime) = contender tree cs at j && (head_due tree cs j d && not (any_of tree.count (sooner tree cs at j d)))
  finds d cs (left at j Fair) =
      not (any_of tree.count (contender tree cs at)) && (is_leaf tree j && (child tree cs j && not (any_of tree.count (lower tree cs j))))
  finds d cs (idle at) = rests cs

  pub finds_told : Grown tree → (d : ℕ) (cs : List Call) → LawfulCalls tree cs → (c : Call) → finds d cs c ≡ true → Finds tree cs c
  finds_told grown d cs law (came at j n) e = tt
  finds_told grown d cs law (left at j RealTime) e =
      let (c, e₁) = both (contender tree cs at j) _ e in
      let (due, s) = both (head_due tree cs j d) _ e₁ in
      real_time_told tree cs grown at j d c due (is_not (any_of tree.count (sooner tree cs at j d)) s)
  finds_told grown d cs law (left at j Fair) e =
      let (c, e₁) = both (not (any_of tree.count (contender tree cs at))) _ e in
      let (l, e₂) = both (is_leaf tree j) _ e₁ in
      let (a, s) = both (child tree cs j) _ e₂ in
      fair_told tree cs at j (is_not (any_of tree.count (contender tree cs at)) c) l a (is_not (any_of tree.count (lower tree cs j)) s)
  finds_told grown d cs law (idle at) e = rests_is cs law e

  -- the deadlines of the packets that left by the real-time rule before a call, the newest first
  abbrev pub earlier : Call → List ℕ → List ℕ
  earlier (came at j n) ds = ds
  earlier (left at j RealTime) ds = tail_of ds
  earlier (left at j Fair) ds = ds
  earlier (idle at) ds = ds

  -- a whole run, with those deadlines: each call is one that the rules allow
  unfoldable pub lawful : List ℕ → List Call → Bool
  lawful ds [] = true
  lawful ds (c ∷ cs) = passes tree cs c && (finds (head_of ds) cs c && lawful (earlier c ds) cs)

  pub lawful_told : Grown tree → (ds : List ℕ) (cs : List Call) → lawful ds cs ≡ true → LawfulCalls tree cs
  unfolding lawful LawfulCalls
  lawful_told grown ds [] e = tt
  lawful_told grown ds (c ∷ cs) e =
      let (p, e₁) = both (passes tree cs c) _ e in
      let (f, rest) = both (finds (head_of ds) cs c) _ e₁ in
      let before = lawful_told grown (earlier c ds) cs rest in
      (passes_is tree cs c p (finds_told grown (head_of ds) cs before c f), before)

  -- and each keeps to the link
  unfoldable pub keeps : ℕ → List Call → Bool
  keeps r [] = true
  keeps r (c ∷ cs) = asked r cs c && ((leb (clock (c ∷ cs)) (max (clock cs) (free r cs)) || rests cs) && keeps r cs)

  pub keeps_told : (r : ℕ) (cs : List Call) → LawfulCalls tree cs → keeps r cs ≡ true → EveryCallKeeps r cs
  unfolding keeps LawfulCalls EveryCallKeeps
  keeps_told r [] law e = tt
  keeps_told r (c ∷ cs) law e =
      let (a, e₁) = both (asked r cs c) _ e in
      let (p, rest) = both (leb (clock (c ∷ cs)) (max (clock cs) (free r cs)) || rests cs) _ e₁ in
      (record { asked = asked_is r cs c a; passes = λ tick j l l' w. passed tick j l l' w p }, keeps_told r cs law.1 rest)
    where
      passed : (tick j : ℕ) → clock cs ≤ tick → free r cs ≤ tick → waits cs j ≡ true
          → (leb (clock (c ∷ cs)) (max (clock cs) (free r cs)) || rests cs) ≡ true → clock (c ∷ cs) ≤ tick
      passed tick j l l' w p =
          ⊎_elim
          (λ (q : leb (clock (c ∷ cs)) (max (clock cs) (free r cs)) ≡ true).
          omega (arith, leb-true (clock (c ∷ cs)) (max (clock cs) (free r cs)) q))
          (λ (q : rests cs ≡ true). never w (rests_is cs law.1 q j))
          (or_either (leb (clock (c ∷ cs)) (max (clock cs) (free r cs))) (rests cs) p)
