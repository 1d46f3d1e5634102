-- A log allows one judgement, and one history after it: so each promise allows one answer, and one content of the arrays.
-- Assumes nothing.
use Prim.Native.Nat.{ℕ, ◌+◌, ◌<◌}
use native.Mathlib.Omega.{arith}
use mathlib.Core.Path.{◌≡◌, refl, sym, ap, subst, ◌∙◌}
use mathlib.Core.Bool.{Bool, true, false}
use mathlib.Core.List.{List}
use Rattle.tree.specs.declared.Tree.{Tree}
use Rattle.tree.specs.declared.Refusal.{Refusal}
use Rattle.std.specs.Prelude.{Ok, Err}
use Rattle.tree.specs.Verdicts.{Verdict, all_right, refused as at_fault}
use Rattle.rules.specs.Calls.{History}
use Rattle.rules.specs.Lawful.{Lawful}
use Rattle.rules.specs.Limits.{wheel}
use Rattle.rules.proofs.Tests.{never}
use Rattle.rules.proofs.Answers.{starts_one, starts_lawful}
use Rattle.state.specs.State.{Shows, Reached}
use Rattle.state.specs.Heads.{EveryHistory}
use Rattle.state.proofs.ShowsOne.{shows_one}
use Rattle.records.specs.declared.Record.{Record}
use Rattle.records.specs.Records.{record_of}
use Rattle.judge.specs.Kinds.{Finding, no_flaw, Judgement, accepted}
use Rattle.judge.specs.declared.Rejection.TheVariants.{TreeRefused}
use Rattle.judge.specs.Judging.{RecordReplayed, holds, judgement_at, Judges, ended, right, wrong, short, LogJudged, refused, replayed}
use Rattle.judge.specs.Promises.{ReplayRight, PartRight}
use Rattle.judge.proofs.Replaying.{replayed_one, replayed_lawful}

-- a record is right, or it is not
right_or_wrong : {A : Type 0} (h x y : History) (f : Finding) → Lawful h → (r : Record) → RecordReplayed h r no_flaw x → RecordReplayed h r f y → holds f ≡ false → A
right_or_wrong h x y f law r p q e = never refl (ap holds (replayed_one h law no_flaw f x y r p q).0 ∙ e)

pub judges_one : {h : History} {k : ℕ} {log : List ℕ} {v w : Judgement} {x y : History} → Lawful h → Judges h k log v x → Judges h k log w y → (v ≡ w) × (x ≡ y)
judges_one law ended ended = (refl, refl)
judges_one law ended (short some few) = absurd (omega arith)
judges_one {h = h} {k = k} {w = w} {x = x} {y = y} law (right {after = a} {kind = c} {stamp = s} {class = j} {bytes = n} {log = log} p judges) (right {after = b} q judges') =
    let same = (replayed_one h law no_flaw no_flaw a b (record_of c s j n) p q).1 in
    judges_one {w = w} {y = y} (replayed_lawful h law (record_of c s j n) no_flaw a p) judges (subst (λ (z : History). Judges z (k + 1) log w y) (sym same) judges')
judges_one {h = h} {y = y} law (right {after = a} {kind = c} {stamp = s} {class = j} {bytes = n} p judges) (wrong f q e) =
    right_or_wrong h a y f law (record_of c s j n) p q e
judges_one law (right p judges) (short some few) = absurd (omega arith)
judges_one {h = h} {x = x} law (wrong {kind = c} {stamp = s} {class = j} {bytes = n} f q e) (right {after = a} p judges) =
    right_or_wrong h a x f law (record_of c s j n) p q e
judges_one {h = h} {k = k} {x = x} {y = y} law (wrong {kind = c} {stamp = s} {class = j} {bytes = n} f p e) (wrong g q e') =
    let one = replayed_one h law f g x y (record_of c s j n) p q in
    (ap (judgement_at k) one.0, one.1)
judges_one law (wrong found q e) (short some few) = absurd (omega arith)
judges_one law (short some few) ended = absurd (omega arith)
judges_one law (short some few) (right p judges) = absurd (omega arith)
judges_one law (short some few) (wrong found q e) = absurd (omega arith)
judges_one law (short some few) (short some' few') = (refl, refl)

is_refused : Verdict → Bool
is_refused (Ok _) = false
is_refused (Err _) = true

pub clash : {A : Type 0} {why : Refusal} {class : ℕ} → at_fault why class ≡ all_right → A
unfolding is_refused
clash e = never refl (ap is_refused e)

-- what a verdict on the tree is told as, where it decides
abbrev pub told_of : Verdict → Judgement
told_of (Ok _) = accepted
told_of (Err fault) = Err (TreeRefused fault.why fault.class)

-- the promise of judging a whole log
pub judge_one : (tree : Tree) (first : ℕ) (log : List ℕ) (v w : Judgement) → first < wheel → LogJudged tree first log v → LogJudged tree first log w → v ≡ w
judge_one tree first log v w small (refused {start = x} s) (refused {start = y} t) =
    let same = (starts_one tree first _ _ x y s t).0 in
    ap told_of same
judge_one tree first log v w small (refused {start = x} s) (replayed {start = y} t judges) = clash (starts_one tree first _ _ x y s t).0
judge_one tree first log v w small (replayed {start = x} s judges) (refused {start = y} t) = clash (starts_one tree first _ _ y x t s).0
judge_one tree first log v w small (replayed {start = x} s judges) (replayed {start = y} {next = n} t judges') =
    let same = (starts_one tree first all_right all_right x y s t).1 in
    (judges_one (starts_lawful tree first all_right x small s) judges (subst (λ (z : History). Judges z 0 log w n) (sym same) judges')).0

-- the promises of replaying a record and of judging a part: one answer, and one content of the arrays
module _ (m₀ l₀ : List ℕ) (reached : Reached m₀ l₀) (m m' l l' : List ℕ) where
  abbrev here : History
  here = reached.history

  pub replay_one : (r : Record) (f g : Finding)
      → EveryHistory m₀ l₀ (λ h. ReplayRight h r f m l) → EveryHistory m₀ l₀ (λ h. ReplayRight h r g m' l') → (f ≡ g) × (m ≡ m') × (l ≡ l')
  replay_one r f g p q =
      let a = p here reached.lawful reached.shows in
      let b = q here reached.lawful reached.shows in
      let one = replayed_one here reached.lawful f g a.next b.next r a.replayed b.replayed in
      let both = shows_one (subst (λ (z : History). Shows m l z) one.1 a.shows) b.shows in
      (one.0, both.0, both.1)

  pub part_one : (log : List ℕ) (v w : Judgement)
      → EveryHistory m₀ l₀ (λ h. PartRight h log v m l) → EveryHistory m₀ l₀ (λ h. PartRight h log w m' l') → (v ≡ w) × (m ≡ m') × (l ≡ l')
  part_one log v w p q =
      let a = p here reached.lawful reached.shows in
      let b = q here reached.lawful reached.shows in
      let one = judges_one reached.lawful a.judges b.judges in
      let both = shows_one (subst (λ (z : History). Shows m l z) one.1 a.shows) b.shows in
      (one.0, both.0, both.1)
