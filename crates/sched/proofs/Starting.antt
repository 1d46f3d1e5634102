-- Both promises of a start, from what the arrays then show.
-- Assumes nothing.
use Prim.Native.Nat.{ℕ, ◌<◌}
use mathlib.Core.Path.{refl}
use mathlib.Core.List.{List}
use Rattle.tree.specs.declared.Tree.{Tree}
use Rattle.tree.specs.Verdicts.{Verdict}
use Rattle.tree.specs.Rules.{Judged}
use Rattle.rules.specs.Limits.{wheel}
use Rattle.rules.specs.Answers.{started, Starts}
use Rattle.rules.proofs.Answers.{starts_lawful}
use Rattle.state.specs.State.{Shows, Reached}
use Rattle.sched.specs.Promises.{StartRight}

pub started_both : {m l : List ℕ} {tree : Tree} {stamp : ℕ} {v : Verdict} → stamp < wheel → Judged tree v → Shows m l (started tree stamp v)
    → StartRight tree stamp v m l × Reached m l
started_both {m} {l} {tree} {stamp} {v} small judged shows =
    let starts : Starts tree stamp v (started tree stamp v) = record { judged = judged; history = refl } in (
      record { next = started tree stamp v; starts = starts; shows = shows },
      record { history = started tree stamp v; lawful = starts_lawful tree stamp v (started tree stamp v) small starts; shows = shows },
    )
