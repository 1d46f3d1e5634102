-- What the checks that a call has passed say of it: of its tick, and of an arrival's leaf, length and bytes.
-- Assumes nothing.
use Rattle.std.proofs.Common.{◌≡◌, ℕ, ◌+◌, ◌<◌, ◌≤◌, Bool, true, false, cond, ◌&&◌, leb, List, [], ◌∷◌, ◌++◌, length, refl, arith, ltb-false, leb-false, leb-true}
use borrow.Author.Tests.{not-false}
use Rattle.tree.specs.declared.Tree.{Tree}
use Rattle.tree.specs.Trees.{is_leaf}
use Rattle.rules.specs.declared.Rule.{Rule}
use Rattle.rules.specs.Limits.{longest, room, last_tick, most_bytes_accepted, too_far, weigh}
use Rattle.rules.specs.Calls.{Call, came, left, idle}
use Rattle.rules.specs.Clock.{clock}
use Rattle.rules.specs.Queues.{queue, accepted}
use Rattle.rules.specs.Choice.{Choice}
use Rattle.rules.specs.Checks.{Check, Outcome, passed, refused, outcome, departure_checks, leaf_checks}
use Rattle.rules.specs.Lawful.{Allowed}
use Rattle.rules.proofs.Tests.{and_left, and_right}

-- a call's tick: the clock does not go back, fewer than 2^31 ticks elapse, and the clock does not pass 2^40
pub record Timely (cs : List Call) (at : ℕ) : Type 0 where
  pub forward : clock cs ≤ at
  pub near : at < clock cs + too_far
  pub in_time : at ≤ last_tick

-- an arrival that is accepted: none of 11, 12, 13 and 16 holds
pub record Admitted (tree : Tree) (cs : List Call) (j n : ℕ) : Type 0 where
  pub leaf : is_leaf tree j ≡ true
  pub some : 1 ≤ n
  pub short : n ≤ longest
  pub space : length (queue cs j) < room
  pub bytes : accepted cs + weigh n ≤ most_bytes_accepted

first_holds : (fails : Bool) (number : ℕ) (rest : Outcome) → cond fails (refused number) rest ≡ passed → (fails ≡ false) × (rest ≡ passed)
first_holds true number rest e = let z : ◌≡◌ {A = ℕ} 0 1 = cc in absurd (omega arith)
first_holds false number rest e = (refl, e)

checks_hold : (c : Check) (cs : List Check) → outcome (c ∷ cs) ≡ passed → (c.fails ≡ false) × (outcome cs ≡ passed)
unfolding outcome
checks_hold c cs e = first_holds c.fails c.number (outcome cs) e

-- 14 and 15, whatever checks come after them
clock_holds : (cs : List Call) (elapsed : ℕ) (rest : List Check) → outcome (departure_checks cs elapsed ++ rest) ≡ passed
    → (elapsed < too_far) × (clock cs + elapsed ≤ last_tick) × (outcome rest ≡ passed)
clock_holds cs elapsed rest e =
    let (near, e₁) = checks_hold _ _ e in
    let (last, e₂) = checks_hold _ _ e₁ in
    (leb-false too_far elapsed near, ltb-false last_tick (clock cs + elapsed) last, e₂)

-- 11, 12, 13 and 16
leaf_holds : (tree : Tree) (cs : List Call) (j n : ℕ) → outcome (leaf_checks tree cs j n) ≡ passed → Admitted tree cs j n
leaf_holds tree cs j n e =
    let (leaf, e₁) = checks_hold _ _ e in
    let (long, e₂) = checks_hold _ _ e₁ in
    let (full, e₃) = checks_hold _ _ e₂ in
    let (bytes, e₄) = checks_hold _ _ e₃ in
    let inside = not-false (leb 1 n && leb n longest) long in
    record {
      leaf = not-false (is_leaf tree j) leaf;
      some = leb-true 1 n (and_left (leb 1 n) _ inside);
      short = leb-true n longest (and_right (leb 1 n) _ inside);
      space = leb-false room (length (queue cs j)) full;
      bytes = ltb-false most_bytes_accepted (accepted cs + weigh n) bytes;
    }

-- the elapsed ticks of a call that is allowed
pub allowed_elapsed : {tree : Tree} {cs : List Call} (c : Call) (a : Allowed tree cs c)
    → (a.elapsed < too_far) × (clock cs + a.elapsed ≤ last_tick)
allowed_elapsed {tree} {cs} (came at j n) a =
    let (near, last, rest) = clock_holds cs a.elapsed (leaf_checks tree cs j n) a.checked in (near, last)
allowed_elapsed {tree} {cs} (left at j r) a = let (near, last, rest) = clock_holds cs a.elapsed [] a.checked in (near, last)
allowed_elapsed {tree} {cs} (idle at) a = let (near, last, rest) = clock_holds cs a.elapsed [] a.checked in (near, last)

pub allowed_timely : {tree : Tree} {cs : List Call} {c : Call} → Allowed tree cs c → Timely cs (clock (c ∷ cs))
allowed_timely {c = c} a =
    let (near, last) = allowed_elapsed c a in
    record { forward = omega (arith, a.is_tick); near = omega (arith, a.is_tick, near); in_time = omega (arith, a.is_tick, last) }

pub allowed_admitted : {tree : Tree} {cs : List Call} {at j n : ℕ} → Allowed tree cs (came at j n) → Admitted tree cs j n
allowed_admitted {tree} {cs} {at} {j} {n} a =
    leaf_holds tree cs j n (clock_holds cs a.elapsed (leaf_checks tree cs j n) a.checked).2

-- a departure that passes its checks and answers what the rules choose
pub left_allowed : {tree : Tree} {cs : List Call} {at j : ℕ} {r : Rule} (elapsed : ℕ) → at ≡ clock cs + elapsed
    → outcome (departure_checks cs elapsed) ≡ passed → Choice tree cs at j r → Allowed tree cs (left at j r)
unfolding clock
left_allowed elapsed is_tick checked chosen = record { elapsed = elapsed; is_tick = is_tick; checked = checked; finds = chosen }
