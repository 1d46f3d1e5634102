-- A log judged from the front: how far it has come, and each way in which it goes on or ends.
-- Assumes nothing.
use Prim.Native.Nat.{ℕ, suc, ◌+◌, ◌-◌, ◌≤◌, ◌<◌}
use native.Mathlib.Omega.{arith}
use mathlib.Core.Path.{◌≡◌, refl, sym, ap, subst, ◌∙◌}
use mathlib.Core.Bool.{false}
use mathlib.Core.List.{List, [], ◌∷◌}
use lib.ListN.{length, get_or, drop, length-drop}
use lib.Seq.{drop-cons}
use Rattle.rules.specs.Calls.{History}
use Rattle.rules.specs.Lawful.{Lawful}
use Rattle.tree.specs.declared.Tree.{Tree}
use Rattle.tree.specs.declared.Refusal.{Refusal}
use Rattle.tree.specs.declared.Fault.{Fault}
use Rattle.tree.specs.Verdicts.{Verdict, all_right, refused as at_fault}
use Rattle.rules.specs.Limits.{wheel}
use Rattle.rules.specs.Answers.{Starts}
use Rattle.rules.proofs.Answers.{starts_lawful}
use Rattle.sched.specs.Promises.{StartRight}
use Rattle.state.specs.State.{Shows}
use Rattle.state.specs.Heads.{EveryHistory}
use Rattle.records.specs.declared.Record.{Record}
use Rattle.records.specs.Records.{record_of}
use Rattle.std.specs.Prelude.{Ok, Err}
use Rattle.judge.specs.Kinds.{Finding, no_flaw, Judgement, accepted}
use Rattle.judge.specs.declared.Rejection.TheVariants.{TreeRefused, Malformed}
use Rattle.judge.specs.Judging.{RecordReplayed, holds, judgement_at, Judges, ended, right, wrong, short, tree_refused, LogJudged, refused, replayed}
use Rattle.judge.specs.Promises.{ReplayRight, PartRight}
use Rattle.judge.proofs.Replaying.{replayed_lawful}

-- the record whose numbers start there
abbrev pub record_from : List ℕ → ℕ → Record
record_from log at = record_of (get_or log at 0) (get_or log (at + 1) 0) (get_or log (at + 2) 0) (get_or log (at + 3) 0)

-- the records before that place are right, and have led from h to the history that the arrays show: what is left decides
pub record Onward (h : History) (log : List ℕ) (k at : ℕ) (m l : List ℕ) : Type 0 where
  pub here : History
  pub lawful : Lawful here
  pub shows : Shows m l here
  pub decides : (v : Judgement) (next : History) → Judges here k (drop at log) v next → Judges h 0 log v next

pub onward_first : {h : History} {log m l : List ℕ} → Lawful h → Shows m l h → Onward h log 0 0 m l
onward_first {h = h} law shows = record { here = h; lawful = law; shows = shows; decides = λ v next j. j }

-- a list of which nothing is left
pub none_left : (x : List ℕ) → length x ≡ 0 → x ≡ []
none_left [] z = refl
none_left (a ∷ x) z = absurd (omega arith)

-- the next number, the next record, and what comes after it
pub one_more_lem : (log : List ℕ) (at : ℕ) → at < length log → drop at log ≡ get_or log at 0 ∷ drop (at + 1) log
one_more_lem log at fits =
    let next : suc at ≡ at + 1 = omega arith in
    drop-cons log at 0 fits ∙ ap (λ (i : ℕ). get_or log at 0 ∷ drop i log) next

four : (log : List ℕ) (at : ℕ) → at + 4 ≤ length log
    → drop at log ≡ get_or log at 0 ∷ get_or log (at + 1) 0 ∷ get_or log (at + 2) 0 ∷ get_or log (at + 3) 0 ∷ drop (at + 4) log
four log at fits =
    one_more_lem log at (omega arith)
    ∙ ap (λ (l : List ℕ). get_or log at 0 ∷ l) (then 1 (omega arith))
    ∙ ap (λ (l : List ℕ). get_or log at 0 ∷ get_or log (at + 1) 0 ∷ l) (then 2 (omega arith))
    ∙ ap (λ (l : List ℕ). get_or log at 0 ∷ get_or log (at + 1) 0 ∷ get_or log (at + 2) 0 ∷ l) (then 3 (omega arith))
  where
    then : (i : ℕ) → i < 4 → drop (at + i) log ≡ get_or log (at + i) 0 ∷ drop (at + (i + 1)) log
    then i few =
        let next : at + i + 1 ≡ at + (i + 1) = omega arith in
        one_more_lem log (at + i) (omega arith) ∙ ap (λ (j : ℕ). get_or log (at + i) 0 ∷ drop j log) next

module _ {h : History} {log : List ℕ} {k at : ℕ} {m l : List ℕ} (o : Onward h log k at m l) where
  module _ (fits : at + 4 ≤ length log) {m' l' : List ℕ} {found : Finding} (replays : EveryHistory m l (λ x. ReplayRight x (record_from log at) found m' l')) where
    now : ReplayRight o.here (record_from log at) found m' l'
    now = replays o.here o.lawful o.shows

    pub onward_next : found ≡ no_flaw → Onward h log (k + 1) (at + 4) m' l'
    onward_next e =
        let held = subst (λ (f : Finding). RecordReplayed o.here (record_from log at) f now.next) e now.replayed in
        record {
          here = now.next;
          lawful = replayed_lawful o.here o.lawful (record_from log at) found now.next now.replayed;
          shows = now.shows;
          decides = λ v next j. o.decides v next (rw (four log at fits) (right {after = now.next} held j));
        }

    pub onward_wrong : holds found ≡ false → PartRight h log (judgement_at k found) m' l'
    onward_wrong e =
        record {
          next = now.next;
          judges = o.decides (judgement_at k found) now.next (rw (four log at fits) (wrong found now.replayed e));
          shows = now.shows;
        }

  pub onward_short : at < length log → length log - at < 4 → PartRight h log (Err (Malformed k)) m l
  onward_short some few =
      record {
        next = o.here;
        judges = o.decides (Err (Malformed k)) o.here (short (omega (arith, length-drop at log)) (omega (arith, length-drop at log)));
        shows = o.shows;
      }

  pub onward_ended : at ≡ length log → PartRight h log accepted m l
  onward_ended e =
      record {
        next = o.here;
        judges = o.decides accepted o.here (subst (λ (x : List ℕ). Judges o.here k x accepted o.here) (sym (none_left (drop at log) (omega (arith, length-drop at log)))) ended);
        shows = o.shows;
      }

-- the judgement of a whole log, from the promises of the start and of judging a part
module _ {tree : Tree} {first : ℕ} {log m l : List ℕ} {answer : Verdict} (started : StartRight tree first answer m l) where
  pub judged_refused : {why : Refusal} {class : ℕ} → answer ≡ at_fault why class → LogJudged tree first log (Err (TreeRefused why class))
  judged_refused e = refused (subst (λ (v : Verdict). Starts tree first v started.next) e started.starts)

  pub judged_replayed : {m' l' : List ℕ} {verdict : Judgement} → first < wheel → answer ≡ all_right → EveryHistory m l (λ h. PartRight h log verdict m' l') → LogJudged tree first log verdict
  judged_replayed small e part =
      let starts = subst (λ (v : Verdict). Starts tree first v started.next) e started.starts in
      let here = started.next in
      let judged = part here (starts_lawful tree first all_right here small starts) started.shows in
      replayed starts judged.judges

  -- a start that is not right is told as its refusal
  pub judged_unstarted : {verdict : Judgement} → ((u : Unit) → answer ≡ Ok u → ⊥) → ((fault : Fault) → answer ≡ Err fault → verdict ≡ Err (tree_refused fault)) → LogJudged tree first log verdict
  judged_unstarted {verdict = v} n told = by answer refl
    where
      by : (a : Verdict) → answer ≡ a → LogJudged tree first log v
      by (Ok u) e = absurd (n u e)
      by (Err fault) e = rw (told fault e) (judged_refused e)
