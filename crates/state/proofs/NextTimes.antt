-- The times of a leaf's head, and the count of its bytes, as the code makes them.
-- Assumes nothing.
use Rattle.std.specs.Prelude.{Some, None}
use Prim.Native.Nat.{ℕ, ◌+◌}
use mathlib.Core.Path.{◌≡◌, refl, ◌∙◌}
use mathlib.Core.List.{List}
use borrow.Author.Tests.{eq-eqb, ne_eqb}
use Rattle.curve.specs.Keeping.{early}
use Rattle.rules.specs.declared.Rule.{Rule}
use Rattle.rules.specs.declared.Rule.TheVariants.{RealTime, Fair}
use Rattle.state.specs.Table.{at, with}
use Rattle.state.specs.Columns.{KIND, SENT_REAL_TIME, ELIGIBLE, DEADLINE}
use Rattle.state.specs.Steps.{curve_in, counted, times_in, SentIsDue, RipeTick, NextRipe}

pub times_bare : (m : List ℕ) (i : ℕ) → at m i KIND ≡ 0 → None ≡ times_in m i
unfolding times_in
times_bare m i e = rw (eq-eqb (at m i KIND) 0 e) refl

pub times_some : (m : List ℕ) (i : ℕ) → (at m i KIND ≡ 0 → ⊥) → {e d : ℕ} → e ≡ at m i ELIGIBLE → d ≡ at m i DEADLINE → Some (record { eligible = e; deadline = d }) ≡ times_in m i
unfolding times_in
times_some m i n p q = rw (ne_eqb (at m i KIND) 0 n) (λ k. Some (record { eligible = (p k); deadline = (q k) }))

pub counted_real : (m : List ℕ) (i : ℕ) (r : Rule) (bytes : ℕ) → r ≡ RealTime → {sent : ℕ} → sent ≡ at m i SENT_REAL_TIME
    → with m i SENT_REAL_TIME (sent + bytes) ≡ counted m i r bytes
unfolding counted
counted_real m i r bytes e p = rw (e, p) refl

pub counted_fair : (m : List ℕ) (i : ℕ) (r : Rule) (bytes : ℕ) → r ≡ Fair → m ≡ counted m i r bytes
unfolding counted
counted_fair m i r bytes e = rw e refl

-- where the eligible time goes by the curve as it is, what was due at a tick is eligible there
pub ripe_when_due : (m : List ℕ) (i : ℕ) → early (curve_in m i) ≡ curve_in m i → SentIsDue m i → RipeTick m i (at m i DEADLINE)
ripe_when_due m i e due = rw e due

pub ripe_real : (r : Rule) (m : List ℕ) (i : ℕ) → r ≡ RealTime → {e e' : ℕ} → e' ≡ e → RipeTick m i e → NextRipe r m i e'
ripe_real r m i q p s = rw (q, p) s

pub ripe_fair : (r : Rule) (m : List ℕ) (i : ℕ) → r ≡ Fair → {e old : ℕ} → e ≡ old → old ≡ at m i ELIGIBLE → NextRipe r m i e
ripe_fair r m i q p s = rw q (p ∙ s)
