-- What a text says, by its first word.
-- Assumes nothing.
use Rattle.std.specs.Prelude.{◌≡◌, List, [], ◌∷◌, ℕ, length, cond, eqb, None, Some, Ok, Err}
use Rattle.std.proofs.Common.{refl, arith, ne_eqb}
use Rattle.calls.specs.declared.Call.TheVariants.{Start, Depart}
use Rattle.calls.specs.declared.LineError.TheVariants.{NotACall}
use Rattle.wording.specs.Words.{first, after, same}
use Rattle.wording.specs.Numbers.{only_in}
use Rattle.calls.specs.Lines.{start_name, arrive_name, depart_name, call_of, if_named, arrive_in, named, call_in}

named_by : (name rest : List ℕ) → named name rest
    ≡ cond (eqb (length name) 0) (Ok None)
    (if_named (same name start_name) (call_of (λ n. Ok (Some (Start n))) (only_in rest))
    (if_named (same name arrive_name) (arrive_in rest)
    (if_named (same name depart_name) (call_of (λ n. Ok (Some (Depart n))) (only_in rest)) (Err NotACall))))
named_by [] rest = refl
named_by (b ∷ name) rest = rw (ne_eqb (length (b ∷ name)) 0 (λ e. omega arith))

pub call_by : (text : List ℕ) → call_in text
    ≡ cond (eqb (length (first text)) 0) (Ok None)
    (if_named (same (first text) start_name) (call_of (λ n. Ok (Some (Start n))) (only_in (after text)))
    (if_named (same (first text) arrive_name) (arrive_in (after text))
    (if_named (same (first text) depart_name) (call_of (λ n. Ok (Some (Depart n))) (only_in (after text))) (Err NotACall))))
unfolding call_in
call_by text = named_by (first text) (after text)
