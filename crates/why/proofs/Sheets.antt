-- The lines of a sheet: how many leaves stand before a class, and a sheet that is filled class by class.
-- Assumes nothing.
use Prim.Native.Nat.{ℕ, zero, suc, ◌+◌, ◌*◌, ◌≤◌, ◌<◌}
use mathlib.Core.Path.{◌≡◌, refl, sym, ◌∙◌, subst}
use mathlib.Core.Bool.{true, false}
use mathlib.Core.List.{List}
use mathlib.Core.Logic.{inl, inr, ⊎_elim}
use native.Mathlib.Omega.{arith}
use lib.ListN.{length, get_or}
use native.Mathlib.Numerals.{add-one}
use Rattle.tree.specs.declared.Tree.{Tree}
use Rattle.tree.specs.Trees.{is_leaf}
use Rattle.rules.specs.Calls.{Call}
use Rattle.rules.proofs.Tests.{never, decided, cond_yes, cond_no}
use Rattle.rules.proofs.Over.{last_or_below}
use Rattle.state.specs.Table.{at}
use Rattle.state.specs.Columns.{CHILD}
use Rattle.state.specs.State.{count_of, ShowsTree}
use Rattle.state.proofs.Chain.{cell_leaf, cell_interior}
use Rattle.reason.specs.declared.Reason.{Reason}
use Rattle.reason.specs.Reasons.{numbers}
use Rattle.reason.specs.Lines.{PutLine}
use Rattle.reason.proofs.Lines.{put_size, put_line, put_others}
use Rattle.why.specs.Why.{Holds}
use Rattle.why.specs.Promises.{line_number, LineFor}
use Rattle.why.specs.Steps.{Filled}

-- How many leaves stand before a class.

pub number_none : (tree : Tree) → line_number tree 0 ≡ 0
unfolding count_of
number_none tree = refl

pub number_more : (tree : Tree) (i : ℕ) → is_leaf tree i ≡ true → line_number tree (suc i) ≡ line_number tree i + 1
unfolding count_of
number_more tree i leaf = cond_yes _ _ leaf

pub number_same : (tree : Tree) (i : ℕ) → is_leaf tree i ≡ false → line_number tree (suc i) ≡ line_number tree i
unfolding count_of
number_same tree i inner = cond_no _ _ inner

module _ {m : List ℕ} {tree : Tree} {i : ℕ} (shows : ShowsTree m tree i) (below : i < tree.count) where
  pub number_leaf : at m i CHILD ≡ 0 → line_number tree (i + 1) ≡ line_number tree i + 1
  number_leaf e = rw add-one (number_more tree i (cell_leaf shows below e))

  pub number_interior : (at m i CHILD ≡ 0 → ⊥) → line_number tree (i + 1) ≡ line_number tree i
  number_interior some = rw add-one (number_same tree i (cell_interior shows below some))

-- a later class has no fewer leaves before it, and one that comes after a leaf has more
pub number_up : (tree : Tree) (n i : ℕ) → i ≤ n → line_number tree i ≤ line_number tree n
number_up tree zero i l = let none : 0 ≡ i = omega arith in subst (λ (k : ℕ). line_number tree k ≤ line_number tree 0) none (omega arith)
number_up tree (suc n) i l =
    let next : line_number tree n ≤ line_number tree (suc n) =
    ⊎_elim (λ (leaf : is_leaf tree n ≡ true). omega (arith, number_more tree n leaf)) (λ (inner : is_leaf tree n ≡ false). omega (arith, number_same tree n inner)) (decided (is_leaf tree n))
    in
    ⊎_elim (λ (e : i ≡ suc n). subst (λ (k : ℕ). line_number tree k ≤ line_number tree (suc n)) (sym e) (omega arith)) (λ (h : i < suc n). omega (arith, number_up tree n i (omega arith)))
    (last_or_below (suc n) i (omega arith))

pub number_past : (tree : Tree) (n i : ℕ) → i < n → is_leaf tree i ≡ true → line_number tree i + 1 ≤ line_number tree n
number_past tree n i l leaf = omega (arith, number_more tree i leaf, number_up tree n (suc i) (omega arith))

-- A sheet that is filled class by class.

-- a line stays where the sheet keeps its cells
pub line_stays : (tree : Tree) (cs : List Call) (tick i at : ℕ) (old new : List ℕ) → ((f : ℕ) → f < numbers → get_or new (at + f) 0 ≡ get_or old (at + f) 0)
    → LineFor tree cs tick i old at → LineFor tree cs tick i new at
line_stays tree cs tick i at old new same l = record { reason = l.reason; holds = l.holds; line = λ f h. same f h ∙ l.line f h }

module _ (tree : Tree) (cs : List Call) (tick : ℕ) where
  pub filled_none : (s : List ℕ) → Filled tree cs tick 0 s s
  filled_none s = record { size = refl; filled = λ i l. absurd (omega arith); rest = λ k l. refl }

  module _ {n : ℕ} {s t : List ℕ} (f : Filled tree cs tick n s t) where
    pub filled_interior : is_leaf tree n ≡ false → Filled tree cs tick (n + 1) s t
    filled_interior inner =
        rw add-one
        (record {
          size = f.size;
          filled = λ i l leaf.
              ⊎_elim (λ (e : i ≡ n). never leaf (subst (λ (k : ℕ). is_leaf tree k ≡ false) (sym e) inner)) (λ (h : i < n). f.filled i h leaf) (last_or_below n i l);
          rest = λ k l. f.rest k (omega (arith, number_same tree n inner));
        })

    module _ (u : List ℕ) (r : Reason) (leaf : is_leaf tree n ≡ true) (holds : Holds tree cs tick n r) (room : numbers * line_number tree n + numbers ≤ length s)
        (put : PutLine t (numbers * line_number tree n) n r u) where
      here : LineFor tree cs tick n u (numbers * line_number tree n)
      here = record { reason = r; holds = holds; line = put_line t u (numbers * line_number tree n) n r put (omega (arith, f.size)) }

      before : (i : ℕ) → i < n → is_leaf tree i ≡ true → LineFor tree cs tick i u (numbers * line_number tree i)
      before i l is =
          line_stays tree cs tick i (numbers * line_number tree i) t u
          (λ g h. put_others t u (numbers * line_number tree n) n r put (numbers * line_number tree i + g) (inl (omega (arith, number_past tree n i l is))))
          (f.filled i l is)

      pub filled_leaf : Filled tree cs tick (n + 1) s u
      filled_leaf =
          rw add-one
          (record {
            size = put_size t u (numbers * line_number tree n) n r put ∙ f.size;
            filled = λ i l is.
                ⊎_elim (λ (e : i ≡ n). subst (λ (k : ℕ). LineFor tree cs tick k u (numbers * line_number tree k)) (sym e) here) (λ (h : i < n). before i h is) (last_or_below n i l);
            rest = λ k l.
                put_others t u (numbers * line_number tree n) n r put k (inr (omega (arith, number_more tree n leaf))) ∙ f.rest k (omega (arith, number_more tree n leaf));
          })
