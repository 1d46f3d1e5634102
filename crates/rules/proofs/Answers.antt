-- The rules name one answer and one history after it, for every call, and never get stuck; and the history after it is lawful again.
-- Assumes nothing.
use Rattle.std.specs.Prelude.{Some, None, Ok, Err, Option}
use Rattle.rules.specs.Kinds.{Arrival, Departure}
use Rattle.std.proofs.Common.{◌≡◌, ℕ, ◌+◌, ◌%◌, ◌<◌, Bool, true, false, ◌⊎◌, List, [], ◌∷◌, sym, refl, ap, ◌∙◌, subst, ap₂, inl, inr, ⊎_elim, arith}
use Rattle.curve.proofs.Laws.Answers.{least_one}
use Rattle.curve.proofs.Laws.Times.{deadline_exists, eligible_exists}
use Rattle.tree.specs.declared.Tree.{Tree}
use Rattle.tree.specs.declared.Refusal.{Refusal}
use Rattle.tree.specs.declared.Refusal.TheVariants.{NoSuchLeaf, WrongLength, LeafFull, StampTooFar, ClockFull, BytesFull}
use Rattle.tree.specs.Numbers.{number_of}
use Rattle.tree.proofs.Numbers.{refusal_by_number}
use Rattle.tree.specs.Verdicts.{Verdict, all_right}
use Rattle.tree.specs.Rules.{Judged}
use Rattle.tree.proofs.Verdicts.{judged_right}
use Rattle.tree.proofs.One.{check_one}
use Rattle.tree.proofs.Some.{check_some}
use Rattle.tree.specs.Trees.{empty_tree, curve_of, is_leaf}
use Rattle.rules.specs.declared.Rule.{Rule}
use Rattle.rules.specs.declared.Times.{Times}
use Rattle.rules.specs.declared.Packet.{Packet}
use Rattle.rules.specs.Limits.{wheel, weigh}
use Rattle.rules.specs.Calls.{Call, came, left, idle, History}
use Rattle.rules.specs.Clock.{clock, last_stamp, elapsed_ticks}
use Rattle.rules.specs.Queues.{waits, head_length, head_number, next_number}
use Rattle.rules.specs.Leaves.{pieces, sent_real_time}
use Rattle.rules.specs.Over.{any_of}
use Rattle.rules.specs.Choice.{has_curve, Choice, NothingWaits}
use Rattle.rules.specs.Lawful.{Allowed, LawfulCalls, Grown, Lawful}
use Rattle.rules.specs.Checks.{Check, Outcome, passed, refused, outcome, departure_checks, arrival_checks}
use Rattle.rules.specs.Answers.{ticks, next_clock, with_call, Arrives, TimesOf, IsHead, Departs, started, Starts}
use Rattle.rules.specs.Sentences.{StampKept, FirstKept, StartsOne, ArrivesOne, DepartsOne, StartsSome, ArrivesSome, DepartsSome, NoClassesArrive, NoClassesDepart}
use Rattle.rules.proofs.Tests.{never, decided, is_false}
use Rattle.rules.proofs.Allowed.{allowed_elapsed, left_allowed}
use Rattle.rules.proofs.Over.{any_which, any_none}
use Rattle.rules.proofs.Trees.{leaf_class, curve_rising}
use Rattle.rules.proofs.Queues.{waits_leaf}
use Rattle.rules.proofs.Active.{choice_waits, choice_leaf}
use Rattle.rules.proofs.Choice.{choice_one, choice_exists}

-- checks

apart : {A : Type 0} {o : Outcome} {number : ℕ} → o ≡ passed → o ≡ refused number → A
apart p q = let z : ◌≡◌ {A = ℕ} 0 1 = cc in absurd (omega arith)

-- one refusal has the number
same_refusal : {o : Outcome} (v w : Refusal) → o ≡ refused (number_of v) → o ≡ refused (number_of w) → v ≡ w
same_refusal v w p q = let e : number_of v ≡ number_of w = cc in refusal_by_number v w e

-- the checks pass, or give the number of a refusal
abbrev Known : Outcome → Type 0
Known o = (o ≡ passed) ⊎ ((why : Refusal) × (o ≡ refused (number_of why)))

check_known : (why : Refusal) (fails : Bool) (cs : List Check) → Known (outcome cs) → Known (outcome (record { number = number_of why; fails = fails } ∷ cs))
unfolding outcome
check_known why true cs rest = inr (why, refl)
check_known why false cs rest = rest

none_known : Known (outcome [])
unfolding outcome
none_known = inl refl

departure_known : (h : History) (stamp : ℕ) → Known (outcome (departure_checks h.calls (ticks h stamp)))
departure_known h stamp = check_known StampTooFar _ _ (check_known ClockFull _ _ none_known)

arrival_known : (h : History) (stamp j n : ℕ) → Known (outcome (arrival_checks h.tree h.calls (ticks h stamp) j n))
arrival_known h stamp j n =
    check_known StampTooFar _ _
    (check_known ClockFull _ _
    (check_known NoSuchLeaf _ _ (check_known WrongLength _ _ (check_known LeafFull _ _ (check_known BytesFull _ _ none_known)))))

-- an arrival

pub arrives_one : ArrivesOne
arrives_one h stamp j n (Ok k) (Ok l) x y p q = (ap (λ (m : ℕ). Ok m) (p.numbered ∙ sym q.numbered), p.after ∙ sym q.after)
arrives_one h stamp j n (Ok k) (Err w) x y p q = apart p.checked q.checked
arrives_one h stamp j n (Err v) (Ok l) x y p q = apart q.checked p.checked
arrives_one h stamp j n (Err v) (Err w) x y p q = (ap (λ (z : Refusal). Err z) (same_refusal v w p.checked q.checked), p.after ∙ sym q.after)

pub arrives_some : ArrivesSome
arrives_some h stamp j n =
    ⊎_elim
    (λ (e : outcome (arrival_checks h.tree h.calls (ticks h stamp) j n) ≡ passed).
    (Ok (next_number h.calls j), with_call h (came (next_clock h stamp) j n), record { checked = e; numbered = refl; after = refl }))
    (λ (e : (why : Refusal) × (outcome (arrival_checks h.tree h.calls (ticks h stamp) j n) ≡ refused (number_of why))). (Err e.0, h, record { checked = e.1; after = refl }))
    (arrival_known h stamp j n)

-- a departure

abbrev timed : ℕ → ℕ → Option Times
timed eligible deadline = Some (record { eligible = eligible; deadline = deadline })

times_one : (tree : Tree) (cs : List Call) (j : ℕ) (s t : Option Times) → TimesOf tree cs j s → TimesOf tree cs j t → s ≡ t
times_one tree cs j None None p q = refl
times_one tree cs j None (Some t) p q = never q.curved p
times_one tree cs j (Some s) None p q = never p.curved q
times_one tree cs j (Some s) (Some t) p q = ap₂ timed (least_one p.is_eligible q.is_eligible) (least_one p.is_deadline q.is_deadline)

packet_one : (tree : Tree) (cs : List Call) (p q : Packet) → p.class ≡ q.class → p.rule ≡ q.rule → IsHead tree cs p → IsHead tree cs q → p ≡ q
packet_one tree cs p q class rule hp hq =
    let number : p.number ≡ q.number = hp.number ∙ ap (head_number cs) class ∙ sym hq.number in
    let length : p.length ≡ q.length = hp.length ∙ ap (head_length cs) class ∙ sym hq.length in
    let times : p.times ≡ q.times =
    times_one tree cs q.class p.times q.times (subst (λ (j : ℕ). TimesOf tree cs j p.times) class hp.times) hq.times
    in
    λ i. record { class = class i; number = number i; length = length i; rule = rule i; times = times i }

pub departs_one : DepartsOne
departs_one h law stamp (Ok (Some p)) (Ok (Some q)) x y d e =
    let same = choice_one h.tree h.calls (next_clock h stamp) p.class q.class p.rule q.rule d.chosen e.chosen in (
      ap (λ (z : Packet). Ok (Some z)) (packet_one h.tree h.calls p q same.0 same.1 d.head e.head),
      d.after ∙ ap₂ (λ (j : ℕ) (r : Rule). with_call h (left (next_clock h stamp) j r)) same.0 same.1 ∙ sym e.after,
    )
departs_one h law stamp (Ok (Some p)) (Ok None) x y d e =
    never (choice_waits h.tree law.grown h.calls (next_clock h stamp) p.class p.rule d.chosen) (e.nothing p.class)
departs_one h law stamp (Ok (Some p)) (Err w) x y d e = apart d.checked e.checked
departs_one h law stamp (Ok None) (Ok (Some q)) x y d e =
    never (choice_waits h.tree law.grown h.calls (next_clock h stamp) q.class q.rule e.chosen) (d.nothing q.class)
departs_one h law stamp (Ok None) (Ok None) x y d e = (refl, d.after ∙ sym e.after)
departs_one h law stamp (Ok None) (Err w) x y d e = apart d.checked e.checked
departs_one h law stamp (Err v) (Ok (Some q)) x y d e = apart e.checked d.checked
departs_one h law stamp (Err v) (Ok None) x y d e = apart e.checked d.checked
departs_one h law stamp (Err v) (Err w) x y d e = (ap (λ (z : Refusal). Err z) (same_refusal v w d.checked e.checked), d.after ∙ sym e.after)

times_some : (h : History) → Lawful h → (j : ℕ) → is_leaf h.tree j ≡ true → (t : Option Times) × TimesOf h.tree h.calls j t
times_some h law j leaf =
    ⊎_elim
    (λ (curved : has_curve (curve_of h.tree j) ≡ true).
    let rising = curve_rising h.tree law.grown j (leaf_class h.tree j leaf) curved in
    let e = eligible_exists (curve_of h.tree j) rising (pieces h.calls j) (sent_real_time h.calls j) in
    let d = deadline_exists (curve_of h.tree j) rising (pieces h.calls j) (sent_real_time h.calls j + weigh (head_length h.calls j)) in
    (Some (record { eligible = e.0; deadline = d.0 }), record { curved = curved; is_eligible = e.1; is_deadline = d.1 }))
    (λ (bare : has_curve (curve_of h.tree j) ≡ false). (None, bare)) (decided (has_curve (curve_of h.tree j)))

pub nothing_waits : (h : History) → Lawful h → any_of h.tree.count (waits h.calls) ≡ false → NothingWaits h.calls
nothing_waits h law none j =
    ⊎_elim
    (λ (e : waits h.calls j ≡ true).
    never e (any_none h.tree.count (waits h.calls) none j (leaf_class h.tree j (waits_leaf h.tree h.calls law.lawful j e))))
    (λ (e : waits h.calls j ≡ false). e) (decided (waits h.calls j))

pub departs_some : DepartsSome
departs_some h law stamp =
    ⊎_elim
    (λ (e : outcome (departure_checks h.calls (ticks h stamp)) ≡ passed).
    ⊎_elim
    (λ (some : any_of h.tree.count (waits h.calls) ≡ true).
    let w = any_which h.tree.count (waits h.calls) some in
    let (j, r, c) = choice_exists h.tree law.grown h.calls law.lawful (next_clock h stamp) w.0 w.2 in
    let (t, times) = times_some h law j (choice_leaf h.tree law.grown h.calls (next_clock h stamp) j r c) in (
      Ok (Some (record { class = j; number = head_number h.calls j; length = head_length h.calls j; rule = r; times = t })),
      with_call h (left (next_clock h stamp) j r),
      record { checked = e; chosen = c; head = record { number = refl; length = refl; times = times }; after = refl },
    ))
    (λ (none : any_of h.tree.count (waits h.calls) ≡ false).
    ((Ok None), with_call h (idle (next_clock h stamp)), record { checked = e; nothing = nothing_waits h law none; after = refl }))
    (decided (any_of h.tree.count (waits h.calls))))
    (λ (e : (why : Refusal) × (outcome (departure_checks h.calls (ticks h stamp)) ≡ refused (number_of why))). (Err e.0, h, record { checked = e.1; after = refl }))
    (departure_known h stamp)

-- the history after a call is lawful

lawful_with : (h : History) (c : Call) → Lawful h → Allowed h.tree h.calls c → Lawful (with_call h c)
unfolding LawfulCalls
lawful_with h c law allowed = record { grown = law.grown; stamp = law.stamp; lawful = (allowed, law.lawful) }

pub arrives_lawful : (h : History) → Lawful h → (stamp j n : ℕ) (a : Arrival) (x : History) → Arrives h stamp j n a x → Lawful x
unfolding clock
arrives_lawful h law stamp j n (Err why) x d = subst Lawful (sym d.after) law
arrives_lawful h law stamp j n (Ok k) x d =
    subst Lawful (sym d.after)
    (lawful_with h (came (next_clock h stamp) j n) law (record { elapsed = ticks h stamp; is_tick = refl; checked = d.checked; finds = tt }))

pub departs_lawful : (h : History) → Lawful h → (stamp : ℕ) (a : Departure) (x : History) → Departs h stamp a x → Lawful x
unfolding clock
departs_lawful h law stamp (Err why) x d = subst Lawful (sym d.after) law
departs_lawful h law stamp (Ok None) x d =
    subst Lawful (sym d.after)
    (lawful_with h (idle (next_clock h stamp)) law (record { elapsed = ticks h stamp; is_tick = refl; checked = d.checked; finds = d.nothing }))
departs_lawful h law stamp (Ok (Some p)) x d =
    subst Lawful (sym d.after)
    (lawful_with h (left (next_clock h stamp) p.class p.rule) law (left_allowed (ticks h stamp) refl d.checked d.chosen))

-- "the last kept stamp" is that of the last call that was kept

pub stamp_kept : StampKept
unfolding last_stamp elapsed_ticks
stamp_kept h stamp c small e = rw e (omega arith)

pub first_kept : FirstKept
unfolding last_stamp clock
first_kept first small = omega arith

-- the history after a start is lawful

started_lawful : (tree : Tree) (stamp : ℕ) (v : Verdict) → stamp < wheel → Judged tree v → Lawful (started tree stamp v)
unfolding LawfulCalls empty_tree
started_lawful tree stamp (Ok _) small j = record { grown = Grown.right (judged_right tree j); stamp = small; lawful = tt }
started_lawful tree stamp (Err _) small j = record { grown = Grown.none refl; stamp = small; lawful = tt }

pub starts_lawful : (tree : Tree) (stamp : ℕ) (v : Verdict) (h : History) → stamp < wheel → Starts tree stamp v h → Lawful h
starts_lawful tree stamp v h small s = subst Lawful (sym s.history) (started_lawful tree stamp v small s.judged)

-- a start has one answer and one history after it, and always has them

pub starts_one : StartsOne
starts_one tree stamp v w h k s t =
    let same = check_one tree v w s.judged t.judged in
    (same, s.history ∙ ap (started tree stamp) same ∙ sym t.history)

pub starts_some : StartsSome
starts_some tree stamp = let (v, judged) = check_some tree in (v, started tree stamp v, record { judged = judged; history = refl })

-- "a state of no classes .., where arrivals that pass 14 and 15 get 11 and departures that pass them find none waiting"

no_leaf : (tree : Tree) → tree.count ≡ 0 → (j : ℕ) → is_leaf tree j ≡ false
no_leaf tree e j = is_false (is_leaf tree j) (λ leaf. absurd (omega (arith, leaf_class tree j leaf)))

pub no_classes_arrive : NoClassesArrive
unfolding outcome
no_classes_arrive h stamp j n empty near last = record { checked = simp (near, last, no_leaf h.tree empty j); after = refl }

pub no_classes_depart : NoClassesDepart
unfolding outcome
no_classes_depart h law stamp empty near last =
    record {
      checked = simp (near, last);
      nothing = λ j. is_false (waits h.calls j) (λ e. never (waits_leaf h.tree h.calls law.lawful j e) (no_leaf h.tree empty j));
      after = refl;
    }

-- Lawful histories are no more than what calls make: a call that the rules allow is what some stamp brings about.

module _ (h : History) (c : Call) (a : Allowed h.tree h.calls c) where
  stamp_of : ℕ
  stamp_of = (h.first + clock (c ∷ h.calls)) % wheel

  stamp_narrow : stamp_of < wheel
  unfolding stamp_of
  stamp_narrow = omega arith

  stamp_ticks : a.elapsed ≡ ticks h stamp_of
  unfolding stamp_of last_stamp elapsed_ticks
  stamp_ticks = omega (arith, a.is_tick, (allowed_elapsed c a).0)

  stamp_clock : clock (c ∷ h.calls) ≡ next_clock h stamp_of
  stamp_clock = a.is_tick ∙ ap (λ (e : ℕ). clock h.calls + e) stamp_ticks

-- some call of the scheduler answers and leaves the history longer by c
abbrev pub Called : History → Call → Type 0
Called h (came at j n) = (stamp : ℕ) × (stamp < wheel) × Arrives h stamp j n (Ok (next_number h.calls j)) (with_call h (came at j n))
Called h (left at j r) = (stamp : ℕ) × (stamp < wheel) × (p : Packet) × Departs h stamp (Ok (Some p)) (with_call h (left at j r))
Called h (idle at) = (stamp : ℕ) × (stamp < wheel) × Departs h stamp (Ok None) (with_call h (idle at))

pub lawful_called : (h : History) → Lawful h → (c : Call) → Allowed h.tree h.calls c → Called h c
unfolding clock
lawful_called h law (came at j n) a = (
  stamp_of h (came at j n) a,
  stamp_narrow h (came at j n) a,
  record {
    checked = subst (λ (e : ℕ). outcome (arrival_checks h.tree h.calls e j n) ≡ passed) (stamp_ticks h (came at j n) a) a.checked;
    numbered = refl;
    after = ap (λ (t : ℕ). with_call h (came t j n)) (stamp_clock h (came at j n) a);
  },
)
lawful_called h law (left at j r) a =
    let (t, times) = times_some h law j (choice_leaf h.tree law.grown h.calls at j r a.finds) in (
      stamp_of h (left at j r) a,
      stamp_narrow h (left at j r) a,
      record { class = j; number = head_number h.calls j; length = head_length h.calls j; rule = r; times = t },
      record {
        checked = subst (λ (e : ℕ). outcome (departure_checks h.calls e) ≡ passed) (stamp_ticks h (left at j r) a) a.checked;
        chosen = subst (λ (x : ℕ). Choice h.tree h.calls x j r) (stamp_clock h (left at j r) a) a.finds;
        head = record { number = refl; length = refl; times = times };
        after = ap (λ (x : ℕ). with_call h (left x j r)) (stamp_clock h (left at j r) a);
      },
    )
lawful_called h law (idle at) a = (
  stamp_of h (idle at) a,
  stamp_narrow h (idle at) a,
  record {
    checked = subst (λ (e : ℕ). outcome (departure_checks h.calls e) ≡ passed) (stamp_ticks h (idle at) a) a.checked;
    nothing = a.finds;
    after = ap (λ (x : ℕ). with_call h (idle x)) (stamp_clock h (idle at) a);
  },
)
