-- What is proved of a log's text. Each statement stands here under a name; a comment names the law of proofs/ that proves it.
-- Assumes nothing.
use Rattle.std.specs.Prelude.{◌≡◌, ℕ, ◌+◌, ◌*◌, ◌^◌, ◌<◌, true, List, ◌∷◌, ◌++◌, length, ◌≢◌}
use Rattle.tree.specs.declared.Tree.{Tree}
use Rattle.tree.specs.Verdicts.{all_right}
use Rattle.rules.specs.Calls.{History}
use Rattle.rules.specs.Answers.{Starts}
use Rattle.judge.specs.Kinds.{accepted}
use Rattle.judge.specs.Judging.{Judges}
use Rattle.judge.specs.Theorems.{Logs}
use Rattle.logtext.specs.Scans.{not_a_number, before_text, seen_at}
use Rattle.logtext.specs.Texts.{numbers_of, scan_over, is_well}
use Rattle.judgetext.specs.declared.Standing.{Standing}
use Rattle.judgetext.specs.declared.Standing.TheVariants.{Right, Wrong, NotANumber}
use Rattle.judgetext.specs.declared.Progress.{Progress}
use Rattle.judgetext.specs.Texts.{before_log, held_numbers, TextFollows, judgement_of}

-- a text that is read in turns is judged as it would be whole: `follows_turns`
abbrev pub TextTurns : Type 0
TextTurns =
    (h between next : History) (at mid after : Progress) (front rest : List ℕ) → TextFollows h at front mid between → TextFollows between mid rest after next
    → TextFollows h at (front ++ rest) after next

-- A word that is no number, on that line: all before it is well, and every record that is complete before it is right.
pub record UpTo (h : History) (text : List ℕ) (line : ℕ) (next : History) : Type 0 where
  pub front : List ℕ
  pub byte : ℕ
  pub rest : List ℕ
  pub text_is : text ≡ front ++ (byte ∷ rest)
  pub well : is_well before_text front ≡ true
  pub no_number : seen_at (scan_over before_text front) byte ≡ not_a_number
  pub line_is : line ≡ (scan_over before_text front).line
  pub whole : List ℕ
  pub begun : List ℕ
  pub numbers : numbers_of before_text front ≡ whole ++ begun
  pub short : length begun < 4
  pub judges : Judges h 0 whole accepted next

-- what a text comes to, by how it stands at its end: its numbers are judged as request 4 has it, and where all is right its records are counted; or a word that is no
-- number is named
abbrev pub Means : History → List ℕ → Standing → Progress → History → Type 0
Means h text Right at next =
    (is_well before_text text ≡ true) × Judges h 0 (numbers_of before_text text) (judgement_of at) next
    × (length (numbers_of before_text text) ≡ 4 * at.records + length (held_numbers at.held))
Means h text (Wrong found) at next = Judges h 0 (numbers_of before_text text) (judgement_of at) next
Means h text (NotANumber line) at next = UpTo h text line next

-- a text judged from its first byte on: `text_judged`
abbrev pub TextJudged : Type 0
TextJudged =
    (h : History) (text : List ℕ) (at : Progress) (next : History) → length text < 2 ^ 64 → TextFollows h before_log text at next → Means h text at.standing at next

-- the text of a log of our own calls, as `replay --log` prints it (logtext: `LogReads`) or in other white space and with comments, is accepted: `own_text_accepted`
abbrev pub OwnTextAccepted : Type 0
OwnTextAccepted =
    (tree : Tree) (first : ℕ) (log m l : List ℕ) (h : History) → first < 2 ^ 32 → Logs tree first log m l h
    → (text : List ℕ) → is_well before_text text ≡ true → numbers_of before_text text ≡ log → length text < 2 ^ 64
    → (start : History) (at : Progress) (next : History) → Starts tree first all_right start → TextFollows start before_log text at next
    → (judgement_of at ≡ accepted) × ((line : ℕ) → at.standing ≢ NotANumber line)
