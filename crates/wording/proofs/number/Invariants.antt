use Prim.Native.Nat.{◌^◌, ◌≤◌}
use mathlib.Core.Path.{◌≡◌}
use lib.ListN.{drop}
use Rattle.wording.specs.Numbers.{number_from, number_of}
use Rattle.wording.proofs.number.Given as goal

-- the number is what the digits left make after those passed
abbrev pub invariant-loop-b : goal.invariant-loop-b
invariant-loop-b l = record { small : l.value ≤ 2 ^ 32; rest : number_of l.word ≡ number_from l.value (drop l.b-index l.word) }
