-- Two ways of saying what an answer is.
-- Assumes nothing.
use Rattle.std.specs.Prelude.{ℕ, ◌≤◌, Bool, true, false}

-- "the least whole t at which ..": P holds at t, and at no smaller number
pub record Least (P : ℕ → Type 0) (t : ℕ) : Type 0 where
  pub holds : P t
  pub least : (u : ℕ) → P u → t ≤ u

-- a test's answer: true exactly where P holds
abbrev pub Exactly : Bool → Type 0 → Type 0
Exactly true P = P
Exactly false P = P → ⊥
