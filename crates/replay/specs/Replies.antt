-- What a line of a calls file is replied with, and what is printed of it, as docs/FORMS.md sets it down.
-- Assumes nothing.
use Rattle.rules.specs.Kinds.{Arrival, Departure}
use Rattle.std.specs.Prelude.{◌≡◌, ℕ, ◌+◌, ◌%◌, ◌^◌, Bool, true, false, List, Option, None, Some, Result, Ok, Err}
use Rattle.tree.specs.declared.Tree.{Tree}
use Rattle.tree.specs.Verdicts.{Verdict}
use Rattle.state.specs.Heads.{EveryHistory}
use Rattle.sched.specs.Promises.{StartRight, ArriveRight, DepartRight}
use Rattle.calls.specs.declared.Call.TheVariants.{Start, Arrive, Depart}
use Rattle.calls.specs.declared.LineError.TheVariants.{TooLarge, NotACall}
use Rattle.calls.specs.Lines.{Line, said}
use Rattle.records.specs.Records.{Entry, arrival_entry, departure_entry}
use Rattle.print.specs.declared.Answer.{Answer}
use Rattle.print.specs.declared.Wrong.{Wrong}
use Rattle.print.specs.declared.Wrong.TheVariants as wrong
use Rattle.print.specs.declared.Answer.TheVariants.{Faulty}
use Rattle.print.specs.Lines.{start_answer, arrival_answer, departure_answer}
use Rattle.print.specs.Promises.{PrintsLine}
use Rattle.printlog.specs.Promises.{PrintsEntry}
use Rattle.replay.specs.declared.lines.Form.{Form}
use Rattle.replay.specs.declared.lines.Form.TheVariants.{Answers, Log}
use Rattle.replay.specs.declared.lines.Said.{Said}
use Rattle.replay.specs.declared.lines.Progress.{Progress}

-- a line is replied with nothing, with the answer of its call and what the call leaves in the log, or with what is wrong with it
abbrev pub Reply : Type 0
Reply = Result (Option Said) Wrong

abbrev pub silent : Reply
silent = Ok None

abbrev pub says : Answer → Entry → Reply
says answer entry = Ok (Some (record { answer = answer; entry = entry }))

abbrev pub stops : Wrong → Reply
stops why = Err why

-- the line makes no call: a reply that is known, and both arrays as they were
pub record NoCall (known : Reply) (m l : List ℕ) (reply : Reply) (m' l' : List ℕ) : Type 0 where
  pub says : reply ≡ known
  pub words : m' ≡ m
  pub lengths : l' ≡ l

-- the answer of each call, by its promise, and what the call leaves in the log: a start leaves nothing
pub record StartReplied (tree : Tree) (stamp : ℕ) (reply : Reply) (m' l' : List ℕ) : Type 0 where
  pub answer : Verdict
  pub right : StartRight tree stamp answer m' l'
  pub says : reply ≡ says (start_answer answer tree.count) None

pub record ArriveReplied (m l : List ℕ) (stamp class bytes : ℕ) (reply : Reply) (m' l' : List ℕ) : Type 0 where
  pub answer : Arrival
  pub right : EveryHistory m l (λ h. ArriveRight h stamp class bytes answer m' l')
  pub says : reply ≡ says (arrival_answer answer) (arrival_entry stamp class bytes answer)

pub record DepartReplied (m l : List ℕ) (stamp : ℕ) (reply : Reply) (m' l' : List ℕ) : Type 0 where
  pub answer : Departure
  pub right : EveryHistory m l (λ h. DepartRight h stamp answer m' l')
  pub says : reply ≡ says (departure_answer answer) (departure_entry stamp answer)

-- "`start` is the first call"
abbrev pub FirstReplied : Tree → (m l : List ℕ) → Line → Reply → (m' l' : List ℕ) → Type 0
FirstReplied tree m l (Ok (Some (Start stamp))) reply m' l' = StartReplied tree stamp reply m' l'
FirstReplied tree m l (Ok (Some (Arrive stamp class bytes))) reply m' l' = NoCall (stops wrong.StartFirst) m l reply m' l'
FirstReplied tree m l (Ok (Some (Depart stamp))) reply m' l' = NoCall (stops wrong.StartFirst) m l reply m' l'
FirstReplied tree m l (Ok None) reply m' l' = NoCall silent m l reply m' l'
FirstReplied tree m l (Err TooLarge) reply m' l' = NoCall (stops wrong.TooLarge) m l reply m' l'
FirstReplied tree m l (Err NotACall) reply m' l' = NoCall (stops wrong.NotACall) m l reply m' l'

-- "and there is one"
abbrev pub LaterReplied : (m l : List ℕ) → Line → Reply → (m' l' : List ℕ) → Type 0
LaterReplied m l (Ok (Some (Start stamp))) reply m' l' = NoCall (stops wrong.StartedAlready) m l reply m' l'
LaterReplied m l (Ok (Some (Arrive stamp class bytes))) reply m' l' = ArriveReplied m l stamp class bytes reply m' l'
LaterReplied m l (Ok (Some (Depart stamp))) reply m' l' = DepartReplied m l stamp reply m' l'
LaterReplied m l (Ok None) reply m' l' = NoCall silent m l reply m' l'
LaterReplied m l (Err TooLarge) reply m' l' = NoCall (stops wrong.TooLarge) m l reply m' l'
LaterReplied m l (Err NotACall) reply m' l' = NoCall (stops wrong.NotACall) m l reply m' l'

abbrev pub Replied : Tree → Bool → (m l : List ℕ) → Line → Reply → (m' l' : List ℕ) → Type 0
Replied tree true m l line reply m' l' = LaterReplied m l line reply m' l'
Replied tree false m l line reply m' l' = FirstReplied tree m l line reply m' l'

-- before the first line
abbrev pub before_lines : Form → Progress
before_lines form = record { lines = 0; printed = 0; is_started = false; is_going = true; form = form }

-- the number of the next line, "counted from 1, blank lines and comments among them"
abbrev pub next_line : Progress → ℕ
next_line run = (run.lines + 1) % 2 ^ 64

-- how far the replay has come after a reply that is so many bytes long: a call's answer shows that it is started, and what is wrong ends it
abbrev pub after_reply : Reply → Progress → ℕ → Progress
after_reply (Ok None) run n = record { lines = next_line run; printed = n; is_started = run.is_started; is_going = run.is_going; form = run.form }
after_reply (Ok (Some said)) run n = record { lines = next_line run; printed = n; is_started = true; is_going = run.is_going; form = run.form }
after_reply (Err why) run n = record { lines = next_line run; printed = n; is_started = run.is_started; is_going = false; form = run.form }

-- the line of a call's answer; or, of `replay --log`, what the call leaves in the log
abbrev pub CallPrinted : Form → Answer → Entry → (old new : List ℕ) → ℕ → Type 0
CallPrinted Answers answer entry old new n = PrintsLine answer old new n
CallPrinted Log answer entry old new n = PrintsEntry entry old new n

-- "A line that says nothing prints nothing. Each call prints one line"
abbrev pub ReplyPrinted : Reply → Progress → (old new : List ℕ) → ℕ → Type 0
ReplyPrinted (Ok None) run old new n = (new ≡ old) × (n ≡ 0)
ReplyPrinted (Ok (Some said)) run old new n = CallPrinted run.form said.answer said.entry old new n
ReplyPrinted (Err why) run old new n = PrintsLine (Faulty (next_line run) why) old new n

pub record Told (reply : Reply) (run : Progress) (old new : List ℕ) (next : Progress) : Type 0 where
  pub prints : ReplyPrinted reply run old new next.printed
  pub goes : next ≡ after_reply reply run next.printed

-- a line replayed: the reply by the promises of the calls, all that the buffer then holds, and how far the replay has come
pub record Replayed (tree : Tree) (m l line : List ℕ) (run : Progress) (old m' l' new : List ℕ) (next : Progress) : Type 0 where
  pub reply : Reply
  pub replied : Replied tree run.is_started m l (said line) reply m' l'
  pub told : Told reply run old new next
