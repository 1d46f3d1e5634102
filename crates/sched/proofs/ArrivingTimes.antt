-- A backlog instant, after the times of its head: what turns active.
-- Assumes nothing.
use Prim.Native.Nat.{ℕ, ◌<◌}
use native.Mathlib.Omega.{arith}
use mathlib.Core.List.{List}
use mathlib.Core.Path.{◌∙◌}
use Rattle.tree.specs.declared.Tree.{Tree}
use Rattle.rules.proofs.Allowed.{allowed_admitted}
use Rattle.rules.specs.Calls.{Call}
use Rattle.rules.proofs.Trees.{leaf_class}
use Rattle.state.specs.Steps.{AfterTiming}
use Rattle.state.proofs.LeafCells.{fair_cells}
use Rattle.state.proofs.LeafCalls.{timed_cells}
use Rattle.state.proofs.LeafTimes.{tree_only, timing_class}
use Rattle.fair.specs.Steps.{BeforeWaking, AfterWaking}
use Rattle.sched.specs.StepsArriving.{BeforeBegin, AfterBegin}

module _ {m : List ℕ} {tree : Tree} {cs : List Call} {j t n : ℕ} (b : BeforeBegin m tree cs j t n) where
  own : j < tree.count
  own = leaf_class tree j (allowed_admitted b.timing.allowed).leaf

  -- then the leaf turns active, and what is above it
  module _ {m' : List ℕ} (timing : AfterTiming m m' tree cs j t n) where
    pub begin_waking : BeforeWaking m' tree cs j
    begin_waking =
        let only = timing.only in
        record {
          planted =
              record {
                size = only.size;
                right = b.timing.planted.right;
                lawful = b.timing.planted.lawful;
                trees = λ k l. tree_only k (omega (arith, b.timing.planted.right.shape.count.below)) only (b.timing.planted.trees k l);
              };
          leaf = (allowed_admitted b.timing.allowed).leaf;
          empty = b.timing.empty;
          fairs = λ k l. fair_cells (λ f low high. only.fairs k f (omega (arith, b.timing.planted.right.shape.count.below)) low high) (b.fairs k l);
        }

    pub begin_done : {m'' : List ℕ} → AfterWaking m' m'' tree cs j → AfterBegin m m'' tree cs j t n
    begin_done a =
        let only = timing.only in
        record {
          size = a.alone.size;
          columns = λ k f l h. a.alone.columns k f l (omega arith) ∙ only.columns k f l h;
          others = λ k f l h e. a.alone.columns k f l h ∙ only.others k f l (omega arith) e;
          rows = λ k f c l h. a.alone.rows k f c l h ∙ only.others k f l h (λ e. omega (arith, own));
          timed = timed_cells (λ f h. a.alone.columns j f (timing_class b.timing) h) timing.timed;
          fairs = λ k l. a.fairs t n k l;
        }
