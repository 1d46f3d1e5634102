-- The table of kinds, its last column: the body that a kind has, and the numbers that it has room for.
-- Assumes nothing.
use Prim.Native.Nat.{ℕ, zero, suc, ◌≤◌, ◌<◌}
use mathlib.Core.Bool.{Bool, true, false, ◌&&◌}
use lib.Dec.{ltb, eqb, lit≤}
use borrow.Author.Tests.{lt-ltb, le-ltb, eq-eqb, ne_eqb, ltb-true, eqb-true}
use mathlib.Core.Path.{◌≡◌, refl}
use native.Mathlib.Omega.{arith}
use Rattle.curve.specs.Codec.{kind_curve}
use Rattle.curve.specs.declared.Curve.TheVariants.{None}
use Rattle.file.specs.Format.{body_bytes, RightKind, right_kind}

pub unknown_bytes : (kind : ℕ) → 4 ≤ kind → 0 ≡ body_bytes kind
unfolding body_bytes
unknown_bytes zero h = absurd (omega arith)
unknown_bytes (suc zero) h = absurd (omega arith)
unknown_bytes (suc (suc zero)) h = absurd (omega arith)
unknown_bytes (suc (suc (suc zero))) h = absurd (omega arith)
unknown_bytes (suc (suc (suc (suc kind)))) h = refl

-- every kind's body holds parent, share and kind
pub least_bytes : (kind : ℕ) → kind < 4 → 12 ≤ body_bytes kind
unfolding body_bytes
least_bytes zero h = omega arith
least_bytes (suc zero) h = omega arith
least_bytes (suc (suc zero)) h = omega arith
least_bytes (suc (suc (suc zero))) h = omega arith
least_bytes (suc (suc (suc (suc kind)))) h = absurd (omega arith)

-- and 24 bytes at most
pub most_bytes_lem : (kind : ℕ) → body_bytes kind ≤ 24
unfolding body_bytes
most_bytes_lem zero = omega arith
most_bytes_lem (suc zero) = omega arith
most_bytes_lem (suc (suc zero)) = omega arith
most_bytes_lem (suc (suc (suc zero))) = omega arith
most_bytes_lem (suc (suc (suc (suc kind)))) = omega arith

-- where there is no curve, the body has nothing after its kind
pub none_bytes : (kind x y z : ℕ) → kind < 4 → kind_curve kind x y z ≡ None → body_bytes kind ≡ 12
unfolding body_bytes kind_curve
none_bytes zero x y z h e = refl
none_bytes (suc zero) x y z h e = absurd (let o : ◌≡◌ {A = ℕ} 0 1 = cc in omega arith)
none_bytes (suc (suc zero)) x y z h e = absurd (let o : ◌≡◌ {A = ℕ} 0 1 = cc in omega arith)
none_bytes (suc (suc (suc zero))) x y z h e = absurd (let o : ◌≡◌ {A = ℕ} 0 1 = cc in omega arith)
none_bytes (suc (suc (suc (suc kind)))) x y z h e = absurd (omega arith)

-- a kind's curve goes by the numbers that its body has room for
pub curve_room : (kind x y z x' y' z' : ℕ) → (16 ≤ body_bytes kind → x ≡ x') → (20 ≤ body_bytes kind → y ≡ y') → (24 ≤ body_bytes kind → z ≡ z')
    → kind_curve kind x y z ≡ kind_curve kind x' y' z'
unfolding body_bytes kind_curve
curve_room zero x y z x' y' z' hx hy hz = refl
curve_room (suc zero) x y z x' y' z' hx hy hz = rw (hx (lit≤ tt))
curve_room (suc (suc zero)) x y z x' y' z' hx hy hz = rw (hx (lit≤ tt), hy (lit≤ tt), hz (lit≤ tt))
curve_room (suc (suc (suc zero))) x y z x' y' z' hx hy hz = rw (hx (lit≤ tt), hy (lit≤ tt))
curve_room (suc (suc (suc (suc kind)))) x y z x' y' z' hx hy hz = refl

-- the test of a kind against a length
pub wrong_kind : (kind bytes : ℕ) → 4 ≤ kind → right_kind kind bytes ≡ false
unfolding right_kind
wrong_kind kind bytes h = simp (le-ltb kind 4 h)

pub wrong_bytes : (kind bytes : ℕ) → kind < 4 → (bytes ≡ body_bytes kind → ⊥) → right_kind kind bytes ≡ false
unfolding right_kind
wrong_bytes kind bytes h n = simp (lt-ltb kind 4 h, ne_eqb bytes (body_bytes kind) n)

pub kind_right : (kind bytes : ℕ) → RightKind kind bytes → right_kind kind bytes ≡ true
unfolding right_kind
kind_right kind bytes r = simp (lt-ltb kind 4 r.known, eq-eqb bytes (body_bytes kind) r.long)

both : (a b : Bool) → a && b ≡ true → (a ≡ true) × (b ≡ true)
both true b e = (refl, e)
both false b e = let z : ◌≡◌ {A = ℕ} 0 1 = cc in absurd (omega arith)

pub right_kind_lem : (kind bytes : ℕ) → right_kind kind bytes ≡ true → RightKind kind bytes
unfolding right_kind
right_kind_lem kind bytes e =
    let t = both (ltb kind 4) (eqb bytes (body_bytes kind)) e in
    record { known = ltb-true kind 4 t.0; long = eqb-true bytes (body_bytes kind) t.1 }
