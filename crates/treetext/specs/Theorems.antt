-- What is proved of the text of a tree. Each statement stands here under a name; a comment names the law of proofs/ that proves it.
-- Assumes nothing.
use Rattle.std.specs.Prelude.{ℕ, ◌^◌, ◌<◌, ◌≡◌, List, [], ◌∷◌, ◌++◌, Some, Ok}
use Rattle.std.specs.declared.option.Option.TheVariants as option
use Rattle.wording.specs.Letters.{line_feed}
use Rattle.curve.specs.declared.Curve.{Curve}
use Rattle.curve.specs.declared.Curve.TheVariants.{None, Straight, FrontLoaded, Delayed}
use Rattle.tree.specs.declared.Class.{Class}
use Rattle.tree.specs.declared.Tree.{Tree}
use Rattle.tree.specs.Trees.{SameTree}
use Rattle.tree.specs.Rules.{RightTree}
use Rattle.print.specs.declared.Answer.TheVariants as answer
use Rattle.print.specs.Lines.{line_of, tree_text}
use Rattle.treetext.specs.declared.Entry.TheVariants.{ClassOf}
use Rattle.treetext.specs.declared.Draft.{Draft}
use Rattle.treetext.specs.Entries.{entry_of}
use Rattle.treetext.specs.Texts.{tree_in}

-- numbers of 32 bits
abbrev pub Narrow : ℕ → Type 0
Narrow n = n < 2 ^ 32

abbrev pub NarrowCurve : Curve → Type 0
NarrowCurve None = Unit {0}
NarrowCurve (Straight rate) = Narrow rate
NarrowCurve (FrontLoaded first bend last) = Narrow first × (Narrow bend × Narrow last)
NarrowCurve (Delayed bend rate) = Narrow bend × Narrow rate

pub record NarrowClass (number : ℕ) (class : Class) : Type 0 where
  pub own : Narrow number
  pub parent : Narrow class.parent
  pub share : Narrow class.share
  pub curve : NarrowCurve class.curve

-- the line of a class, without its end, says that class, where its numbers have 32 bits: `class_line_says`
abbrev pub ClassLineSays : Type 0
ClassLineSays = (number : ℕ) (class : Class) → NarrowClass number class → (line : List ℕ) → line_of (answer.ClassOf number class) ≡ line ++ (line_feed ∷ []) → entry_of line ≡ Ok (Some (ClassOf number class))

-- a draft with no wrong line and that tree
pub record Is (draft : Draft) (t : Tree) : Type 0 where
  pub fault : draft.fault ≡ option.None
  pub tree : SameTree draft.tree t

-- every right tree's text is read as that tree: `text_says`
abbrev pub TextSays : Type 0
TextSays = (t : Tree) → RightTree t → Is (tree_in (tree_text t)) t
