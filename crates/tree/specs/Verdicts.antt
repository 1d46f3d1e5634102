-- Document 01, "Numbers of refusal": a tree or a file is right, or it is refused for a class.
-- Assumes nothing.
use Rattle.std.specs.Prelude.{ℕ, Result, Ok, Err}
use Rattle.tree.specs.declared.Refusal.{Refusal}
use Rattle.tree.specs.declared.Fault.{Fault}

-- right, or why not
abbrev pub Verdict : Type 0
Verdict = Result Unit Fault

abbrev pub all_right : Verdict
all_right = Ok tt

-- "names the lowest class at fault"
abbrev pub refused : Refusal → ℕ → Verdict
refused why class = Err (record { why = why; class = class })
