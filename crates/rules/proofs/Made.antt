-- The lawful histories are those that a start and calls make.
-- Assumes nothing.
use Rattle.std.specs.Prelude.{Some, None, Ok}
use Rattle.std.proofs.Common.{◌≡◌, ℕ, ◌<◌, List, [], ◌∷◌, refl, ap, arith}
use Rattle.tree.specs.declared.Tree.{Tree}
use Rattle.tree.specs.declared.Refusal.TheVariants.{WrongCount}
use Rattle.tree.specs.Verdicts.{all_right, refused}
use Rattle.tree.specs.Rules.{FitChecked}
use Rattle.tree.specs.Trees.{empty_tree}
use Rattle.tree.proofs.Verdicts.{right_judged, refused-4}
use Rattle.rules.specs.Limits.{wheel}
use Rattle.rules.specs.Calls.{Call, came, left, idle, History}
use Rattle.rules.specs.Queues.{next_number}
use Rattle.rules.specs.Lawful.{Allowed, LawfulCalls, Grown, right, none, Lawful}
use Rattle.rules.specs.Answers.{with_call}
use Rattle.rules.specs.Made.{Made, by_start, by_arrival, by_departure, LawfulMade, MadeLawful}
use Rattle.rules.proofs.Answers.{arrives_lawful, departs_lawful, starts_lawful, lawful_called}

-- a start keeps a right tree, and gives the tree of no classes where it refuses: for instance where it is lent that very tree
made_start : (tree : Tree) (first : ℕ) → Grown tree → first < wheel → Made (record { tree = tree; first = first; calls = [] })
unfolding empty_tree
made_start tree first (right r) small = by_start tree first all_right small (record { judged = right_judged tree r; history = refl })
made_start tree first (none e) small =
    by_start empty_tree first (refused WrongCount 0) small
    (record {
      judged = refused-4 empty_tree (FitChecked empty_tree (λ v. v ≡ all_right)) (λ count. omega (arith, count.above));
      history = ap (λ (t : Tree). record { tree = t; first = first; calls = [] }) e;
    })

-- one call more
made_call : (h : History) → Lawful h → Made h → (c : Call) → Allowed h.tree h.calls c → Made (with_call h c)
made_call h law made (came at j n) a =
    let (stamp, narrow, arrives) = lawful_called h law (came at j n) a in
    by_arrival stamp j n (Ok (next_number h.calls j)) made narrow arrives
made_call h law made (left at j r) a =
    let (stamp, narrow, p, departs) = lawful_called h law (left at j r) a in
    by_departure stamp (Ok (Some p)) made narrow departs
made_call h law made (idle at) a =
    let (stamp, narrow, departs) = lawful_called h law (idle at) a in
    by_departure stamp (Ok None) made narrow departs

made_calls : (tree : Tree) (first : ℕ) (cs : List Call) → Grown tree → first < wheel → LawfulCalls tree cs
    → Made (record { tree = tree; first = first; calls = cs })
unfolding LawfulCalls
made_calls tree first [] grown small law = made_start tree first grown small
made_calls tree first (c ∷ cs) grown small law =
    made_call (record { tree = tree; first = first; calls = cs }) (record { grown = grown; stamp = small; lawful = law.1 })
    (made_calls tree first cs grown small law.1) c law.0

pub lawful_made : LawfulMade
lawful_made h law = made_calls h.tree h.first h.calls law.grown law.stamp law.lawful

pub made_lawful : MadeLawful
made_lawful h (by_start tree stamp verdict small starts) = starts_lawful tree stamp verdict h small starts
made_lawful h (by_arrival stamp j n answer {h = before} made narrow arrives) =
    arrives_lawful before (made_lawful before made) stamp j n answer h arrives
made_lawful h (by_departure stamp answer {h = before} made narrow departs) =
    departs_lawful before (made_lawful before made) stamp answer h departs
