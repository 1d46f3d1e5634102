-- One record replayed: what its call promises makes what the replay promises, a lawful history stays lawful, and one history allows one finding.
-- Assumes nothing.
use Rattle.rules.specs.Kinds.{Arrival, Departure}
use Prim.Native.Nat.{ℕ}
use mathlib.Core.Path.{◌≡◌, refl, sym, ap, ◌∙◌}
use mathlib.Core.Bool.{Bool, true, false}
use mathlib.Core.List.{List}
use Rattle.rules.specs.Calls.{History}
use Rattle.rules.specs.Lawful.{Lawful}
use Rattle.rules.proofs.Answers.{arrives_one, departs_one, arrives_lawful, departs_lawful}
use Rattle.state.specs.State.{Shows}
use Rattle.sched.specs.Promises.{ArriveRight, DepartRight}
use Rattle.records.specs.declared.Record.{Record}
use Rattle.records.specs.declared.Record.TheVariants.{Arrived, Departed, FoundEmpty, Malformed}
use Rattle.std.specs.Prelude.{Ok, Err}
use Rattle.rules.proofs.Tests.{never}
use Rattle.judge.specs.declared.Rejection.{Rejection}
use Rattle.judge.specs.Kinds.{Finding, no_flaw, Judgement}
use Rattle.judge.specs.declared.Flaw.TheVariants as flaw
use Rattle.judge.specs.Judging.{holds, judgement_at, arrival_finding, departure_finding, empty_finding, DepartureReplayed, RecordReplayed}
use Rattle.judge.specs.Promises.{ReplayRight}

module _ {h : History} {m l : List ℕ} {found : Finding} where
  pub arrival_replayed : {stamp class bytes : ℕ} {answer : Arrival} → ArriveRight h stamp class bytes answer m l → found ≡ arrival_finding answer
      → ReplayRight h (Arrived stamp class bytes) found m l
  arrival_replayed {answer = a} right e = record { next = right.next; replayed = record { answer = a; arrives = right.arrives; finds = e }; shows = right.shows }

  pub departure_replayed : {stamp class bytes : ℕ} {answer : Departure} → DepartRight h stamp answer m l → found ≡ departure_finding class bytes answer
      → ReplayRight h (Departed stamp class bytes) found m l
  departure_replayed {answer = a} right e = record { next = right.next; replayed = record { answer = a; departs = right.departs; finds = e }; shows = right.shows }

  pub empty_replayed : {stamp : ℕ} {answer : Departure} → DepartRight h stamp answer m l → found ≡ empty_finding answer → ReplayRight h (FoundEmpty stamp) found m l
  empty_replayed {answer = a} right e = record { next = right.next; replayed = record { answer = a; departs = right.departs; finds = e }; shows = right.shows }

pub malformed_replayed : {h : History} {m l : List ℕ} → Shows m l h → ReplayRight h Malformed (Err flaw.Malformed) m l
malformed_replayed {h = h} shows = record { next = h; replayed = (refl, refl); shows = shows }

-- a lawful history stays lawful
pub replayed_lawful : (h : History) → Lawful h → (r : Record) (f : Finding) (next : History) → RecordReplayed h r f next → Lawful next
replayed_lawful h law (Arrived stamp class bytes) f next p = arrives_lawful h law stamp class bytes p.answer next p.arrives
replayed_lawful h law (Departed stamp class bytes) f next p = departs_lawful h law stamp p.answer next p.departs
replayed_lawful h law (FoundEmpty stamp) f next p = departs_lawful h law stamp p.answer next p.departs
replayed_lawful h law Malformed f next p = rw p.1 law

-- one history allows one finding, and one history after it
module _ (h : History) (law : Lawful h) (f g : Finding) (x y : History) where
  departure_one : (stamp : ℕ) (findingOf : Departure → Finding) → DepartureReplayed h stamp findingOf f x → DepartureReplayed h stamp findingOf g y → (f ≡ g) × (x ≡ y)
  departure_one stamp findingOf p q =
      let one = departs_one h law stamp p.answer q.answer x y p.departs q.departs in
      (p.finds ∙ ap findingOf one.0 ∙ sym q.finds, one.1)

  pub replayed_one : (r : Record) → RecordReplayed h r f x → RecordReplayed h r g y → (f ≡ g) × (x ≡ y)
  replayed_one (Arrived stamp class bytes) p q =
      let one = arrives_one h stamp class bytes p.answer q.answer x y p.arrives q.arrives in
      (p.finds ∙ ap arrival_finding one.0 ∙ sym q.finds, one.1)
  replayed_one (Departed stamp class bytes) p q = departure_one stamp (departure_finding class bytes) p q
  replayed_one (FoundEmpty stamp) p q = departure_one stamp empty_finding p q
  replayed_one Malformed p q = (p.0 ∙ sym q.0, p.1 ∙ sym q.1)

-- a finding that is another than the right one
pub not_holds : (f : Finding) → (f ≡ no_flaw → ⊥) → holds f ≡ false
not_holds (Ok _) n = absurd (n refl)
not_holds (Err flaw) n = refl

abbrev pub is_accepted : Judgement → Bool
is_accepted (Ok _) = true
is_accepted (Err rejection) = false

-- a record at which the judging goes on is right, and one that is named is not
pub not_named : {u : Unit} (k : ℕ) (f : Finding) → judgement_at k f ≡ Ok u → f ≡ no_flaw
not_named k (Ok _) e = refl
not_named k (Err flaw.Malformed) e = never refl (sym (ap is_accepted e))
not_named k (Err (flaw.Refused why)) e = never refl (sym (ap is_accepted e))
not_named k (Err (flaw.Another ours)) e = never refl (sym (ap is_accepted e))

pub named_wrong : {r : Rejection} (k : ℕ) (f : Finding) → judgement_at k f ≡ Err r → holds f ≡ false
named_wrong k (Ok _) e = never refl (ap is_accepted e)
named_wrong k (Err flaw) e = refl
