-- The link's premises over a history, in the customer's words.
-- Assumes nothing.
use Rattle.std.specs.Prelude.{◌≡◌, ℕ, ◌+◌, ◌≤◌, max, true, List, [], ◌∷◌}
use Rattle.rules.specs.declared.Rule.{Rule}
use Rattle.rules.specs.Limits.{longest, weigh}
use Rattle.rules.specs.Calls.{Call, came, left, idle}
use Rattle.rules.specs.Clock.{clock}
use Rattle.rules.specs.Queues.{waits, head_length}

-- what the longest packet counts for. "Demand 3 then reads 9,020 ticks, and its link sends for n + 20 ticks" (document 02, request 2): the theorem `heaviest_is`
abbrev pub heaviest : ℕ
heaviest = weigh longest

abbrev pub HeaviestIs : Type 0
HeaviestIs = heaviest ≡ 9020

-- The link "sends one byte a tick", one packet after another: the tick at which it is free, where it is free at tick `r` after the start. A packet that
-- leaves keeps it busy for as many ticks as it counts bytes, from its own tick on, or from the tick at which the link is free, if that is later.
unfoldable pub free : ℕ → List Call → ℕ
free r [] = r
free r (came at j n ∷ cs) = free r cs
free r (left at j rule ∷ cs) = max at (free r cs) + weigh (head_length cs j)
free r (idle at ∷ cs) = free r cs

-- The link "is asked for no packet while it sends": it is free at the tick of every departure.
abbrev pub AskedFree : ℕ → List Call → Call → Type 0
AskedFree r cs (came at j n) = Unit {0}
AskedFree r cs (left at j rule) = free r cs ≤ at
AskedFree r cs (idle at) = free r cs ≤ at

-- It "never lets the clock pass a tick at which it is free and a packet waits": after the call the clock is not past such a tick.
abbrev pub PassesNone : ℕ → List Call → Call → Type 0
PassesNone r cs c = (tick j : ℕ) → clock cs ≤ tick → free r cs ≤ tick → waits cs j ≡ true → clock (c ∷ cs) ≤ tick

-- a call that keeps to the link, after the calls before it
pub record Keeps (r : ℕ) (cs : List Call) (c : Call) : Type 0 where
  pub asked : AskedFree r cs c
  pub passes : PassesNone r cs c

-- "a packet that leaves at" a tick "keeps the link busy until" that tick and what it counts for: the theorem `busy_until`
abbrev pub BusyUntil : Type 0
BusyUntil =
    (r at j : ℕ) (rule : Rule) (cs : List Call) → Keeps r cs (left at j rule) → free r (left at j rule ∷ cs) ≡ at + weigh (head_length cs j)

unfoldable pub EveryCallKeeps : ℕ → List Call → Type 0
EveryCallKeeps r [] = Unit {0}
EveryCallKeeps r (c ∷ cs) = Keeps r cs c × EveryCallKeeps r cs

-- The link was kept, from a start at which it was free, or was to be free at a tick r no later than a longest packet takes. (r is 0 where the link
-- is free at the start.)
pub record Link (r : ℕ) (cs : List Call) : Type 0 where
  pub soon : r ≤ heaviest
  pub kept : EveryCallKeeps r cs
