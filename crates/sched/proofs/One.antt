-- Each call's promise allows one result: two that it allows of the same state are equal. And a refused call leaves the state as it was.
-- Assumes nothing.
use Rattle.rules.specs.Kinds.{Arrival, Departure}
use Prim.Native.Nat.{ℕ}
use mathlib.Core.Path.{◌≡◌, subst}
use mathlib.Core.List.{List}
use Rattle.tree.specs.declared.Tree.{Tree}
use Rattle.tree.specs.Verdicts.{Verdict}
use Rattle.rules.specs.Calls.{History}
use Rattle.rules.proofs.Answers.{starts_one, arrives_one, departs_one}
use Rattle.state.specs.State.{Shows, Reached}
use Rattle.state.specs.Heads.{EveryHistory}
use Rattle.state.proofs.ShowsOne.{shows_one}
use Rattle.sched.specs.Promises.{StartRight, ArriveRight, DepartRight, ArriveRefused, DepartRefused}

-- two answers, each with what the arrays then show
after_one : {A : Type 0} {a b : A} {x y : History} {m m' l l' : List ℕ} → (a ≡ b) × (x ≡ y) → Shows m l x → Shows m' l' y → (a ≡ b) × (m ≡ m') × (l ≡ l')
after_one {m = m} {l = l} same s t =
    let both = shows_one (subst (λ (z : History). Shows m l z) same.1 s) t in (same.0, both.0, both.1)

pub start_one : (tree : Tree) (stamp : ℕ) (v w : Verdict) (m m' l l' : List ℕ) → StartRight tree stamp v m l → StartRight tree stamp w m' l'
    → (v ≡ w) × (m ≡ m') × (l ≡ l')
start_one tree stamp v w m m' l l' p q =
    after_one (starts_one tree stamp v w p.next q.next p.starts q.starts) p.shows q.shows

pub arrive_one : (m₀ l₀ : List ℕ) → Reached m₀ l₀ → (stamp class bytes : ℕ) (a b : Arrival) (m m' l l' : List ℕ)
    → EveryHistory m₀ l₀ (λ h. ArriveRight h stamp class bytes a m l)
    → EveryHistory m₀ l₀ (λ h. ArriveRight h stamp class bytes b m' l')
    → (a ≡ b) × (m ≡ m') × (l ≡ l')
arrive_one m₀ l₀ r stamp class bytes a b m m' l l' f g =
    let p = f r.history r.lawful r.shows in
    let q = g r.history r.lawful r.shows in
    after_one (arrives_one r.history stamp class bytes a b p.next q.next p.arrives q.arrives) p.shows q.shows

pub depart_one : (m₀ l₀ : List ℕ) → Reached m₀ l₀ → (stamp : ℕ) (a b : Departure) (m m' l l' : List ℕ)
    → EveryHistory m₀ l₀ (λ h. DepartRight h stamp a m l)
    → EveryHistory m₀ l₀ (λ h. DepartRight h stamp b m' l')
    → (a ≡ b) × (m ≡ m') × (l ≡ l')
depart_one m₀ l₀ r stamp a b m m' l l' f g =
    let p = f r.history r.lawful r.shows in
    let q = g r.history r.lawful r.shows in
    after_one (departs_one r.history r.lawful stamp a b p.next q.next p.departs q.departs) p.shows q.shows

-- "a refusal there gives back the same state": the history is the same, and one history allows one content
pub arrive_refused : ArriveRefused
arrive_refused m₀ l₀ r stamp class bytes why m l f =
    let p = f r.history r.lawful r.shows in
    shows_one (subst (λ (h : History). Shows m l h) p.arrives.after p.shows) r.shows

pub depart_refused : DepartRefused
depart_refused m₀ l₀ r stamp why m l f =
    let p = f r.history r.lawful r.shows in
    shows_one (subst (λ (h : History). Shows m l h) p.departs.after p.shows) r.shows
