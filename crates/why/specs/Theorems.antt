-- What is proved of the reasons. Each statement stands here under a name; a comment names the law of proofs/ that proves it.
-- Assumes nothing.
use Rattle.std.specs.Prelude.{ℕ, ◌≡◌, true, List, Result, Some, None, Ok}
use Rattle.tree.specs.declared.Tree.{Tree}
use Rattle.tree.specs.Trees.{is_leaf}
use Rattle.rules.specs.declared.Rule.{Rule}
use Rattle.rules.specs.declared.Rule.TheVariants.{RealTime, Fair}
use Rattle.rules.specs.declared.Packet.{Packet}
use Rattle.tree.specs.declared.Refusal.{Refusal}
use Rattle.rules.specs.Calls.{Call, History}
use Rattle.rules.specs.Choice.{FairRule}
use Rattle.rules.specs.Lawful.{Grown, LawfulCalls, Lawful}
use Rattle.rules.specs.Answers.{Departs, next_clock}
use Rattle.state.specs.State.{Reached}
use Rattle.reason.specs.declared.Reason.{Reason}
use Rattle.reason.specs.declared.Reason.TheVariants.{NothingWaits, ChosenByDeadline, ChosenByShare, PassedOver}
use Rattle.why.specs.Why.{Holds, LastCommon}
use Rattle.why.specs.Promises.{WhyRight, WhyTold}

-- "one reason": a leaf has at most one, and at least one: `reason_one`, `reason_some`
abbrev pub ReasonOne : Type 0
ReasonOne = (tree : Tree) (cs : List Call) → Grown tree → LawfulCalls tree cs → (now i : ℕ) (r s : Reason) → Holds tree cs now i r → Holds tree cs now i s → r ≡ s

abbrev pub ReasonSome : Type 0
ReasonSome = (tree : Tree) (cs : List Call) → Grown tree → LawfulCalls tree cs → (now i : ℕ) → is_leaf tree i ≡ true → (r : Reason) × Holds tree cs now i r

-- two results that the promise allows, the sheet's contents among them, are equal: `why_one`
abbrev pub WhyOne : Type 0
WhyOne = (h : History) → Lawful h → (stamp : ℕ) (old : List ℕ) (a b : Result ℕ Refusal) (x y : List ℕ) → WhyRight h stamp a old x → WhyRight h stamp b old y → (a ≡ b) × (x ≡ y)

-- and so are those of the call in numbers: `tell_one`
abbrev pub TellOne : Type 0
TellOne =
    (m l : List ℕ) → Reached m l → (stamp : ℕ) (old : List ℕ) (said said' lines lines' : ℕ) (x y : List ℕ) → WhyTold m l stamp old said lines x → WhyTold m l stamp old said' lines' y
    → (said ≡ said') × (lines ≡ lines') × (x ≡ y)

-- "a lent sheet then stays as found": where the call answers the number of a refusal the sheet is as it was, and no lines are told: `told_refused`
abbrev pub ToldRefused : Type 0
ToldRefused =
    (m l : List ℕ) → Reached m l → (stamp : ℕ) (old : List ℕ) (said lines : ℕ) (new : List ℕ) → WhyTold m l stamp old said lines new → (said ≡ 0 → ⊥) → (new ≡ old) × (lines ≡ 0)

-- the reason that a rule's choice reads
abbrev pub chosen_by : Rule → Reason
chosen_by RealTime = ChosenByDeadline
chosen_by Fair = ChosenByShare

-- "the leaf shown as chosen is the one that departs": where a departure with the same stamp answers a packet, its class reads chosen, by its rule, and whichever
-- class reads chosen, by either rule, is that one, and by that rule: `chosen_departs`
pub record ChosenDeparts (h : History) (stamp : ℕ) (p : Packet) : Type 0 where
  pub reads : Holds h.tree h.calls (next_clock h stamp) p.class (chosen_by p.rule)
  pub only : (i : ℕ) (r : Rule) → Holds h.tree h.calls (next_clock h stamp) i (chosen_by r) → (i ≡ p.class) × (r ≡ p.rule)

abbrev pub ChosenIsSent : Type 0
ChosenIsSent = (h : History) (stamp : ℕ) (p : Packet) (next : History) → Departs h stamp (Ok (Some p)) next → ChosenDeparts h stamp p

-- where it answers "none waits" every leaf reads nothing waits: `none_reads_nothing`
abbrev pub NoneReadsNothing : Type 0
NoneReadsNothing =
    (h : History) → Lawful h → (stamp : ℕ) (next : History) → Departs h stamp (Ok None) next → (i : ℕ) (r : Reason) → Holds h.tree h.calls (next_clock h stamp) i r
    → r ≡ NothingWaits

-- "passed over" names the last class common to the leaf's way up and the choice's, and the child that the choice takes there: `passed_at_last_common`
abbrev pub PassedAtLastCommon : Type 0
PassedAtLastCommon =
    (tree : Tree) (cs : List Call) → Grown tree → LawfulCalls tree cs → (now i chosen class child time : ℕ) → FairRule tree cs now chosen
    → Holds tree cs now i (PassedOver class child time) → LastCommon tree i chosen class child
