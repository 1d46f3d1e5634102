-- A log judged over a class-tree file, and the judgement as numbers: what the call answers, and what it writes into lent memory, with 0 wherever there is
-- nothing to say.
-- Assumes nothing.
use Rattle.rules.specs.Kinds.{Departure}
use Rattle.std.specs.Prelude.{ℕ, ◌≡◌, List, [], ◌∷◌, Some, None, Ok, Err}
use Rattle.tree.specs.declared.Tree.{Tree}
use Rattle.tree.specs.declared.Refusal.{Refusal}
use Rattle.tree.specs.Verdicts.{all_right, refused}
use Rattle.tree.specs.Numbers.{number_of}
use Rattle.file.specs.Format.{ReadsAs}
use Rattle.judge.specs.Kinds.{Judgement}
use Rattle.judge.specs.declared.Rejection.TheVariants.{TreeRefused, Malformed, Refused, AnotherChoice}
use Rattle.judge.specs.Judging.{LogJudged}

-- a refused file is told as a refused tree, "before any record is read"
pub data LogJudgedByFile (file : List ℕ) (first : ℕ) (log : List ℕ) : Judgement → Type 0 where
  unread : {why : Refusal} {class : ℕ} {tree : Tree} → ReadsAs file (refused why class) tree → LogJudgedByFile file first log (Err (TreeRefused why class))
  read : {tree : Tree} {judgement : Judgement} → ReadsAs file all_right tree → LogJudged tree first log judgement → LogJudgedByFile file first log judgement

-- what the call answers
abbrev pub judgement_number : Judgement → ℕ
judgement_number (Ok _) = 0
judgement_number (Err (TreeRefused why class)) = 1
judgement_number (Err (Malformed k)) = 2
judgement_number (Err (Refused k why)) = 3
judgement_number (Err (AnotherChoice k ours)) = 4

-- of another choice: the record, whether our rules send a packet, and its class and length
abbrev pub ours_numbers : ℕ → Departure → List ℕ
ours_numbers k (Ok (Some packet)) = k ∷ 1 ∷ packet.class ∷ packet.length ∷ []
ours_numbers k (Ok None) = k ∷ 0 ∷ 0 ∷ 0 ∷ []
ours_numbers k (Err why) = k ∷ 0 ∷ 0 ∷ 0 ∷ []

-- what it writes: the record, "whether it was malformed, refused (with the number), or another choice"; of a refused tree the number and the class
abbrev pub judgement_numbers : Judgement → List ℕ
judgement_numbers (Ok _) = 0 ∷ 0 ∷ 0 ∷ 0 ∷ []
judgement_numbers (Err (TreeRefused why class)) = 0 ∷ number_of why ∷ class ∷ 0 ∷ []
judgement_numbers (Err (Malformed k)) = k ∷ 0 ∷ 0 ∷ 0 ∷ []
judgement_numbers (Err (Refused k why)) = k ∷ number_of why ∷ 0 ∷ 0 ∷ []
judgement_numbers (Err (AnotherChoice k ours)) = ours_numbers k ours

pub record JudgeTold (file : List ℕ) (first : ℕ) (log : List ℕ) (said : ℕ) (out : List ℕ) : Type 0 where
  pub answer : Judgement
  pub right : LogJudgedByFile file first log answer
  pub number : said ≡ judgement_number answer
  pub written : out ≡ judgement_numbers answer
