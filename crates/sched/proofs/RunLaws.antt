-- A run's arrays show a lawful history, so that a run which keeps to the link has the guarantee.
-- Assumes nothing.
use Prim.Native.Nat.{ℕ}
use mathlib.Core.List.{List}
use Rattle.rules.specs.Calls.{History}
use Rattle.rules.specs.Lawful.{Lawful}
use Rattle.rules.proofs.Answers.{arrives_lawful, departs_lawful, starts_lawful}
use Rattle.rules.proofs.Link.Guarantee.{guarantee}
use Rattle.state.specs.State.{Shows, Reached}
use Rattle.sched.specs.Runs.{Run, started, arrived, departed, RunsGuaranteed}

pub run_shows : {m l : List ℕ} {h : History} → Run m l h → Shows m l h
run_shows (started s right) = right.shows
run_shows (arrived run right) = right.shows
run_shows (departed run right) = right.shows

pub run_lawful : {m l : List ℕ} {h : History} → Run m l h → Lawful h
run_lawful (started {tree = t} {stamp = s} {answer = a} l right) = starts_lawful t s a right.next l right.starts
run_lawful (arrived {h = h} {stamp = s} {class = j} {bytes = n} {answer = a} run right) = arrives_lawful h (run_lawful run) s j n a right.next right.arrives
run_lawful (departed {h = h} {stamp = s} {answer = a} run right) = departs_lawful h (run_lawful run) s a right.next right.departs

-- "A state comes only from start or an earlier call": a run's arrays meet the one premise of a call
pub run_reached : {m l : List ℕ} {h : History} → Run m l h → Reached m l
run_reached {h = h} run = record { history = h; lawful = run_lawful run; shows = run_shows run }

pub runs_guaranteed : RunsGuaranteed
runs_guaranteed m l h r run link = guarantee r h (run_lawful run) link
