-- Some kind of the table has a body of this length, or none has.
-- Assumes nothing.
use Rattle.std.proofs.Common.{ℕ, ◌≡◌, ◌<◌, Bool, true, false, List, length, get_or, MatchBool, refl, sym, ◌∙◌, ap, arith, rules, tests}
use Rattle.std.specs.List.{HoldsAt, AllWithin, range_with_len}
use Rattle.std.proofs.lemmas.Iterator.{cases_from_any, YieldsList-from_range}
use Rattle.std.proofs.lemmas.List.FromFn.{get_or-range_with_len, length-range_with_len}
use Rattle.curve.specs.Answers.{Exactly}
use Rattle.curve.specs.Codec.{kinds}
use Rattle.file.specs.Format.{body_bytes, RightLength}
use Rattle.file.proofs.reader.contents.right_length.Goals as goal

abbrev Kinds : List ℕ
Kinds = range_with_len 0 kinds

kind_at : (kind : ℕ) → kind < kinds → get_or Kinds kind 0 ≡ kind
kind_at kind known = omega (arith, get_or-range_with_len 0 kinds kind 0 known)

-- the test of them all, one after another
exactly_found : (bytes : ℕ) (found : Bool)
    → MatchBool found ((k : ℕ) × (k < length Kinds) × HoldsAt (λ (kind : ℕ). bytes ≡ body_bytes kind) Kinds k) (AllWithin (λ (kind : ℕ). bytes ≡ body_bytes kind → ⊥) Kinds 0 (length Kinds))
    → Exactly found (RightLength bytes)
exactly_found bytes true (k, within, is) =
    let below : k < kinds = omega (arith, within, length-range_with_len 0 kinds) in
    record { kind = k; right = record { known = below; long = is 0 ∙ ap body_bytes (kind_at k below) } }
exactly_found bytes false none =
    λ r. none r.kind 0 (omega arith) (omega (arith, r.right.known, length-range_with_len 0 kinds)) (r.right.long ∙ ap body_bytes (sym (kind_at r.kind r.right.known)))

pub returns : goal.returns
returns c =
    let bytes = c.args.bytes in
    exactly_found bytes c.any.result
    (cases_from_any _ _ _ (λ (kind : ℕ). bytes ≡ body_bytes kind) (λ (kind : ℕ). bytes ≡ body_bytes kind → ⊥) c.any.ensures.ran (YieldsList-from_range 0 kinds kinds refl refl)
    (λ x q k. search (rules, tests)) (λ x q k. search (rules, tests)))
