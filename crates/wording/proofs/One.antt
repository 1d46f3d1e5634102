-- Two results that a promise allows are equal. Every public function of this crate promises an equation of its result, so one law is enough.
-- Assumes nothing.
use mathlib.Core.Path.{◌≡◌, sym, ◌∙◌}

pub equation_one : {A : Type 0} {x a b : A} → a ≡ x → b ≡ x → a ≡ b
equation_one p q = p ∙ sym q
