-- The promise on a line replayed allows one result: two that it allows of the same state, line and buffer are equal. What the promises on the text and on the waiting bytes
-- allow is one by `printed_one` of `print`.
-- Assumes nothing.
use Rattle.rules.specs.Kinds.{Arrival, Departure}
use Rattle.std.proofs.Common.{◌≡◌, ℕ, Bool, true, false, List, None, Some, Ok, Err, sym, ap, ◌∙◌, subst}
use Rattle.tree.specs.declared.Tree.{Tree}
use Rattle.tree.specs.Verdicts.{Verdict}
use Rattle.state.specs.State.{Reached}
use Rattle.sched.proofs.One.{start_one, arrive_one, depart_one}
use Rattle.calls.specs.declared.Call.TheVariants.{Start, Arrive, Depart}
use Rattle.calls.specs.declared.LineError.TheVariants.{TooLarge, NotACall}
use Rattle.calls.specs.Lines.{Line, said}
use Rattle.print.specs.Lines.{start_answer, arrival_answer, departure_answer}
use Rattle.records.specs.Records.{Entry, arrival_entry, departure_entry}
use Rattle.print.specs.declared.Answer.{Answer}
use Rattle.print.proofs.One.{printed_one}
use Rattle.printlog.proofs.One.{prints_entry_one}
use Rattle.replay.specs.declared.lines.Form.{Form}
use Rattle.replay.specs.declared.lines.Form.TheVariants.{Answers, Log}
use Rattle.replay.specs.declared.lines.Progress.{Progress}
use Rattle.replay.specs.Replies.{Reply, says, NoCall, StartReplied, ArriveReplied, DepartReplied, FirstReplied, LaterReplied, Replied, after_reply, CallPrinted, ReplyPrinted, Told, Replayed}

-- two replies, each with what the arrays then hold
abbrev Same : Reply → List ℕ → List ℕ → Reply → List ℕ → List ℕ → Type 0
Same r m l s m' l' = (r ≡ s) × (m ≡ m') × (l ≡ l')

module _ {m l m₁ l₁ m₂ l₂ : List ℕ} {r s : Reply} where
  no_call_one : {known : Reply} → NoCall known m l r m₁ l₁ → NoCall known m l s m₂ l₂ → Same r m₁ l₁ s m₂ l₂
  no_call_one p q = (p.says ∙ sym q.says, p.words ∙ sym q.words, p.lengths ∙ sym q.lengths)

module _ (tree : Tree) {m₁ l₁ m₂ l₂ : List ℕ} {r s : Reply} where
  start_replied_one : (stamp : ℕ) → StartReplied tree stamp r m₁ l₁ → StartReplied tree stamp s m₂ l₂ → Same r m₁ l₁ s m₂ l₂
  start_replied_one stamp p q =
      let one = start_one tree stamp p.answer q.answer m₁ m₂ l₁ l₂ p.right q.right in
      (p.says ∙ ap (λ (v : Verdict). says (start_answer v tree.count) None) one.0 ∙ sym q.says, one.1, one.2)

module _ (m l : List ℕ) (reached : Reached m l) {m₁ l₁ m₂ l₂ : List ℕ} {r s : Reply} where
  arrive_replied_one : (stamp class bytes : ℕ) → ArriveReplied m l stamp class bytes r m₁ l₁ → ArriveReplied m l stamp class bytes s m₂ l₂ → Same r m₁ l₁ s m₂ l₂
  arrive_replied_one stamp class bytes p q =
      let one = arrive_one m l reached stamp class bytes p.answer q.answer m₁ m₂ l₁ l₂ p.right q.right in
      (p.says ∙ ap (λ (v : Arrival). says (arrival_answer v) (arrival_entry stamp class bytes v)) one.0 ∙ sym q.says, one.1, one.2)

  depart_replied_one : (stamp : ℕ) → DepartReplied m l stamp r m₁ l₁ → DepartReplied m l stamp s m₂ l₂ → Same r m₁ l₁ s m₂ l₂
  depart_replied_one stamp p q =
      let one = depart_one m l reached stamp p.answer q.answer m₁ m₂ l₁ l₂ p.right q.right in
      (p.says ∙ ap (λ (v : Departure). says (departure_answer v) (departure_entry stamp v)) one.0 ∙ sym q.says, one.1, one.2)

  pub first_one : (tree : Tree) (line : Line) → FirstReplied tree m l line r m₁ l₁ → FirstReplied tree m l line s m₂ l₂ → Same r m₁ l₁ s m₂ l₂
  first_one tree (Ok (Some (Start stamp))) p q = start_replied_one tree stamp p q
  first_one tree (Ok (Some (Arrive stamp class bytes))) p q = no_call_one p q
  first_one tree (Ok (Some (Depart stamp))) p q = no_call_one p q
  first_one tree (Ok None) p q = no_call_one p q
  first_one tree (Err TooLarge) p q = no_call_one p q
  first_one tree (Err NotACall) p q = no_call_one p q

  pub later_one : (line : Line) → LaterReplied m l line r m₁ l₁ → LaterReplied m l line s m₂ l₂ → Same r m₁ l₁ s m₂ l₂
  later_one (Ok (Some (Start stamp))) p q = no_call_one p q
  later_one (Ok (Some (Arrive stamp class bytes))) p q = arrive_replied_one stamp class bytes p q
  later_one (Ok (Some (Depart stamp))) p q = depart_replied_one stamp p q
  later_one (Ok None) p q = no_call_one p q
  later_one (Err TooLarge) p q = no_call_one p q
  later_one (Err NotACall) p q = no_call_one p q

  pub replied_one : (tree : Tree) (started : Bool) (line : Line) → Replied tree started m l line r m₁ l₁ → Replied tree started m l line s m₂ l₂ → Same r m₁ l₁ s m₂ l₂
  replied_one tree true line p q = later_one line p q
  replied_one tree false line p q = first_one tree line p q

module _ (run : Progress) (old new new₂ : List ℕ) where
  call_printed_one : (form : Form) (answer : Answer) (entry : Entry) (n k : ℕ)
      → CallPrinted form answer entry old new n → CallPrinted form answer entry old new₂ k → (new ≡ new₂) × (n ≡ k)
  call_printed_one Answers answer entry n k p q = printed_one p q
  call_printed_one Log answer entry n k p q = prints_entry_one entry old new new₂ n k p q

  reply_printed_one : (reply : Reply) (n k : ℕ) → ReplyPrinted reply run old new n → ReplyPrinted reply run old new₂ k → (new ≡ new₂) × (n ≡ k)
  reply_printed_one (Ok None) n k p q = (p.0 ∙ sym q.0, p.1 ∙ sym q.1)
  reply_printed_one (Ok (Some said)) n k p q = call_printed_one run.form said.answer said.entry n k p q
  reply_printed_one (Err why) n k p q = printed_one p q

  pub told_one : (reply : Reply) (next next₂ : Progress) → Told reply run old new next → Told reply run old new₂ next₂ → (new ≡ new₂) × (next ≡ next₂)
  told_one reply next next₂ p q =
      let one = reply_printed_one reply next.printed next₂.printed p.prints q.prints in
      (one.0, p.goes ∙ ap (after_reply reply run) one.1 ∙ sym q.goes)

-- of a line replayed
pub replayed_one : (tree : Tree) (m l line : List ℕ) (run : Progress) (old m₁ l₁ new m₂ l₂ new₂ : List ℕ) (next next₂ : Progress) → Reached m l
    → Replayed tree m l line run old m₁ l₁ new next → Replayed tree m l line run old m₂ l₂ new₂ next₂
    → (m₁ ≡ m₂) × (l₁ ≡ l₂) × (new ≡ new₂) × (next ≡ next₂)
replayed_one tree m l line run old m₁ l₁ new m₂ l₂ new₂ next next₂ reached p q =
    let one = replied_one m l reached tree run.is_started (said line) p.replied q.replied in
    let told = told_one run old new new₂ q.reply next next₂ (subst (λ (r : Reply). Told r run old new next) one.0 p.told) q.told in
    (one.1, one.2, told.0, told.1)
