-- What the sheet promises: its checks, its lines, and the rest of it.
-- Assumes nothing.
use Rattle.std.specs.Prelude.{ℕ, ◌*◌, ◌≤◌, ◌≡◌, true, List, [], ◌∷◌, ◌++◌, length, get_or, ltb, Result, Ok, Err}
use Rattle.tree.specs.declared.Tree.{Tree}
use Rattle.tree.specs.declared.Refusal.{Refusal}
use Rattle.tree.specs.Numbers.{number_of as refusalNumber}
use Rattle.tree.specs.Trees.{is_leaf}
use Rattle.rules.specs.Calls.{Call, History}
use Rattle.rules.specs.Checks.{Check, passed, refused, outcome, departure_checks}
use Rattle.rules.specs.Answers.{ticks, next_clock}
use Rattle.state.specs.State.{count_of}
use Rattle.state.specs.Heads.{EveryHistory}
use Rattle.reason.specs.declared.Reason.{Reason}
use Rattle.reason.specs.Reasons.{numbers}
use Rattle.reason.specs.Lines.{LineAt}
use Rattle.why.specs.Why.{Holds}

-- "for every leaf, in number order": a leaf's line is the one whose number is how many leaves have a lower number, and there are as many lines as leaves
abbrev pub line_number : Tree → ℕ → ℕ
line_number tree i = count_of i (is_leaf tree)

abbrev pub line_count : Tree → ℕ
line_count tree = line_number tree tree.count

-- "Stamps are refused as for a departure, then a sheet too short for all lines with 17", where the sheet has room for so many numbers
abbrev pub sheet_checks : Tree → List Call → (elapsed room : ℕ) → List Check
sheet_checks tree cs elapsed room = departure_checks cs elapsed ++ (record { number = 17; fails = ltb room (numbers * line_count tree) } ∷ [])

-- leaf i's line, from a place on: one reason, which holds
pub record LineFor (tree : Tree) (cs : List Call) (now i : ℕ) (sheet : List ℕ) (at : ℕ) : Type 0 where
  pub reason : Reason
  pub holds : Holds tree cs now i reason
  pub line : LineAt sheet at i reason

-- a line for every leaf, at the clock that the stamp gives. "A longer sheet keeps its rest."
pub record SheetFilled (h : History) (stamp lines : ℕ) (old new : List ℕ) : Type 0 where
  pub checked : outcome (sheet_checks h.tree h.calls (ticks h stamp) (length old)) ≡ passed
  pub count : lines ≡ line_count h.tree
  pub size : length new ≡ length old
  pub filled : (i : ℕ) → is_leaf h.tree i ≡ true → LineFor h.tree h.calls (next_clock h stamp) i new (numbers * line_number h.tree i)
  pub rest : (n : ℕ) → numbers * line_count h.tree ≤ n → get_or new n 0 ≡ get_or old n 0

-- "a lent sheet then stays as found"
pub record SheetRefused (h : History) (stamp : ℕ) (why : Refusal) (old new : List ℕ) : Type 0 where
  pub checked : outcome (sheet_checks h.tree h.calls (ticks h stamp) (length old)) ≡ refused (refusalNumber why)
  pub found : new ≡ old

abbrev pub WhyRight : History → (stamp : ℕ) → Result ℕ Refusal → (old new : List ℕ) → Type 0
WhyRight h stamp (Ok lines) old new = SheetFilled h stamp lines old new
WhyRight h stamp (Err why) old new = SheetRefused h stamp why old new

-- The answer in numbers: 0, or the number of the refusal; and how many lines there are, 0 where it is refused.
abbrev pub sheet_number : Result ℕ Refusal → ℕ
sheet_number (Ok lines) = 0
sheet_number (Err why) = refusalNumber why

abbrev pub sheet_lines : Result ℕ Refusal → ℕ
sheet_lines (Ok lines) = lines
sheet_lines (Err why) = 0

-- of the call in numbers: `said` is what it answers, `lines` and `new` what it writes; `old` is the sheet before it
pub record WhyTold (m l : List ℕ) (stamp : ℕ) (old : List ℕ) (said lines : ℕ) (new : List ℕ) : Type 0 where
  pub answer : Result ℕ Refusal
  pub number : said ≡ sheet_number answer
  pub count : lines ≡ sheet_lines answer
  pub right : EveryHistory m l (λ h. WhyRight h stamp answer old new)
