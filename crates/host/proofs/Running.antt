-- A run of exported calls is a run of the scheduler, so that what is proved of runs, the guarantee among it (`runs_guaranteed`), holds for a host in C.
-- Assumes nothing.
use Prim.Native.Nat.{ℕ, ◌<◌, ◌^◌}
use mathlib.Core.Path.{◌≡◌, refl, ap}
use mathlib.Core.List.{List}
use native.Mathlib.Omega.{arith}
use Rattle.std.specs.Prelude.{Ok, Err}
use Rattle.curve.specs.Curves.{Within}
use Rattle.tree.specs.declared.Tree.{Tree}
use Rattle.tree.specs.declared.Refusal.TheVariants.{WrongCount}
use Rattle.tree.specs.Verdicts.{Verdict, all_right, refused}
use Rattle.tree.specs.Rules.{Judged}
use Rattle.tree.specs.Trees.{empty_tree}
use Rattle.tree.proofs.Verdicts.{refused-4}
use Rattle.file.specs.Format.{ReadsAs}
use Rattle.bursts.specs.Bursts.{Holds}
use Rattle.rules.specs.Calls.{History}
use Rattle.rules.specs.Answers as answers
use Rattle.state.specs.State.{Shows}
use Rattle.sched.specs.Runs.{Run, started, arrived, departed}
use Rattle.sched.proofs.RunLaws.{run_shows, run_lawful}
use Rattle.host.specs.Promises.{StartTold, StartFileTold, ArriveTold, DepartTold}
use Rattle.host.specs.Bursts.{seen_said, StartBurstsTold}
use Rattle.host.proofs.Starting.{reads_judged}

pub run_words : {tree : Tree} {stamp said fault : ℕ} {m l : List ℕ} → stamp < 2 ^ 32 → (told : StartTold tree stamp said fault m l) → Run m l told.right.next
run_words small told = started small told.right

none_judged : (tree : Tree) → tree ≡ empty_tree → Judged tree (refused WrongCount 0)
unfolding empty_tree
none_judged tree e =
    let none : tree.count ≡ 0 = ap (λ (t : Tree). t.count) e in
    refused-4 tree _ (λ (within : Within 2 64 tree.count). absurd (omega (arith, within.above)))

module _ {file : List ℕ} {tree : Tree} {stamp : ℕ} {m l : List ℕ} (small : stamp < 2 ^ 32) where
  file_run : (v : Verdict) → ReadsAs file v tree → Shows m l (answers.started tree stamp v) → Run m l (answers.started tree stamp v)
  file_run (Ok _) reads shows =
      started {answer = all_right} small
      (record { next = answers.started tree stamp all_right; starts = record { judged = reads_judged file tree reads; history = refl }; shows = shows })
  file_run (Err fault) reads shows =
      started {answer = refused WrongCount 0} small
      (record {
        next = answers.started tree stamp (Err fault);
        starts = record { judged = none_judged tree reads.given; history = refl };
        shows = shows;
      })

pub run_file : {file : List ℕ} {stamp said fault : ℕ} {m l : List ℕ} → stamp < 2 ^ 32 → (told : StartFileTold file stamp said fault m l)
    → Run m l (answers.started told.tree stamp told.answer)
run_file small told = file_run small told.answer told.reads told.shows

-- a start with what came in bursts is one with every file that the memory holds
pub run_bursts : {kept numbers : List ℕ} {stamp said fault : ℕ} {noted m l : List ℕ} → stamp < 2 ^ 32 → (told : StartBurstsTold kept numbers stamp said fault noted m l)
    → (file : List ℕ) (holds : Holds kept (seen_said numbers).count file) → Run m l (answers.started (told.starts file holds).tree stamp (told.starts file holds).answer)
run_bursts small told file holds = run_file small (told.starts file holds)

module _ {m l m' l' : List ℕ} {h : History} (run : Run m l h) where
  pub run_arrive : {stamp class bytes said packet : ℕ} → (told : ArriveTold m l stamp class bytes said packet m' l')
      → Run m' l' (told.right h (run_lawful run) (run_shows run)).next
  run_arrive told = arrived run (told.right h (run_lawful run) (run_shows run))

  pub run_depart : {stamp said : ℕ} {out : List ℕ} → (told : DepartTold m l stamp said out m' l')
      → Run m' l' (told.right h (run_lawful run) (run_shows run)).next
  run_depart told = departed run (told.right h (run_lawful run) (run_shows run))
