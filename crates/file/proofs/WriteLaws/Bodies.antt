-- Laws on the bytes of bodies: a case for each kind of curve, and the list of classes from its front.
-- Assumes nothing.
use Prim.Native.Nat.{ℕ, zero, suc, ◌+◌, ◌-◌, ◌*◌, ◌≤◌}
use mathlib.Core.Path.{◌≡◌, refl, ap₂, ◌∙◌}
use mathlib.Core.List.{List, [], ◌∷◌, ◌++◌}
use native.Mathlib.Numerals.{add-one}
use native.Mathlib.Nat.{add-zero, add-suc}
use native.Mathlib.Omega.{arith}
use lib.Dec.{lit≤}
use lib.ListN.{length, take, length-append}
use Rattle.curve.specs.declared.Curve.{Curve}
use Rattle.curve.specs.declared.Curve.TheVariants.{None, Straight, FrontLoaded, Delayed}
use Rattle.curve.specs.declared.codec.Code.{Code}
use Rattle.tree.specs.declared.Class.{Class}
use Rattle.tree.specs.declared.Tree.{Tree}
use Rattle.tree.specs.Trees.{class_at, curve_of}
use Rattle.file.specs.Format.{entry_at, body_bytes}
use Rattle.file.specs.declared.Order.{Order}
use Rattle.file.specs.Writing.{curve_bytes, body_words, body_place, total_bytes, numbered, contents_words, bodies_words, file_words, file_in}
use Rattle.curve.specs.Codec.{curve_numbers, code_of}
use Rattle.curve.proofs.Laws.Codec.{code_kind, code_numbers}
use Rattle.file.proofs.WriteLaws.Words.{length_bytes_of}

-- a body has 12 bytes at least
pub body_least : (S : Curve) → 12 ≤ curve_bytes S
unfolding curve_bytes body_bytes
body_least None = lit≤ tt
body_least (Straight m) = lit≤ tt
body_least (FrontLoaded m₁ d m₂) = lit≤ tt
body_least (Delayed d m) = lit≤ tt

-- and 24 at most
pub body_most : (S : Curve) → curve_bytes S ≤ 24
unfolding curve_bytes body_bytes
body_most None = lit≤ tt
body_most (Straight m) = lit≤ tt
body_most (FrontLoaded m₁ d m₂) = lit≤ tt
body_most (Delayed d m) = lit≤ tt

numbers_length : (S : Curve) → 12 + 4 * length (curve_numbers S) ≡ curve_bytes S
unfolding curve_bytes body_bytes
numbers_length None = refl
numbers_length (Straight m) = refl
numbers_length (FrontLoaded m₁ d m₂) = refl
numbers_length (Delayed d m) = refl

-- four bytes a word
pub body_length : (class : Class) → 4 * length (body_words class) ≡ curve_bytes class.curve
unfolding body_words
body_length class = omega (arith, numbers_length class.curve)

-- the words of a class with all three numbers of a code
abbrev pub code_words : Class → Code → List ℕ
code_words class code = class.parent ∷ class.share ∷ code.kind ∷ code.first ∷ code.second ∷ code.third ∷ []

-- of those with its curve's code, the ones that its body has room for are the body's
pub words_room : (class : Class) (code : Code) (k : ℕ) → code ≡ code_of class.curve → 4 * k ≡ curve_bytes class.curve → take k (code_words class code) ≡ body_words class
unfolding body_words
words_room class code k is room =
    let count : k ≡ length (body_words class) = omega (arith, body_length class) in
    ap₂ (λ (n : ℕ) (x : Code). take n (code_words class x)) count is
    ∙ ap₂ (λ (kind : ℕ) (ns : List ℕ). class.parent ∷ class.share ∷ kind ∷ ns) (code_kind class.curve) (code_numbers class.curve)

-- nothing stands before class 0
pub numbered_none : (words : ℕ → List ℕ) → numbered words 0 ≡ []
unfolding numbered
numbered_none words = refl

-- one class more
pub numbered_next : (words : ℕ → List ℕ) (n : ℕ) → numbered words (n + 1) ≡ numbered words n ++ words n
unfolding numbered
numbered_next words n = rw add-one

module _ (tree : Tree) where
  pub place_first : body_place tree 0 ≡ entry_at tree.count
  unfolding body_place
  place_first = refl

  pub place_next : (i : ℕ) → body_place tree (i + 1) ≡ body_place tree i + curve_bytes (curve_of tree i)
  unfolding body_place
  place_next i = rw add-one

  -- a body's place is not past its own number of the longest bodies
  pub place_most : (i : ℕ) → body_place tree i ≤ entry_at tree.count + 24 * i
  unfolding body_place
  place_most zero = omega arith
  place_most (suc i) = omega (arith, place_most i, body_most (curve_of tree i))

  places_on : (i n : ℕ) → body_place tree i ≤ body_place tree (i + n)
  unfolding body_place
  places_on i zero = rw add-zero (omega arith)
  places_on i (suc n) = rw add-suc (omega (arith, places_on i n))

  -- places go up with the numbers
  pub places_rise : (i j : ℕ) → i ≤ j → body_place tree i ≤ body_place tree j
  places_rise i j h =
      let e : i + (j - i) ≡ j = omega arith in
      rw e at (places_on i (j - i))

  -- the contents end within the file
  pub contents_within : entry_at tree.count ≤ total_bytes tree
  contents_within = omega (arith, place_first, places_rise 0 tree.count (omega arith))

  -- two words an entry
  pub contents_length : (n : ℕ) → length (contents_words tree n) ≡ 2 * n
  unfolding numbered
  contents_length zero = refl
  contents_length (suc n) = rw length-append (omega (arith, contents_length n))

  -- the bodies reach from the end of the contents to the place of the next
  pub bodies_length : (n : ℕ) → entry_at tree.count + 4 * length (bodies_words tree n) ≡ body_place tree n
  unfolding numbered body_place
  bodies_length zero = omega arith
  bodies_length (suc n) = rw length-append (omega (arith, bodies_length n, body_length (class_at tree n)))

  -- a file has as many bytes as its total says
  pub file_length : (order : Order) → length (file_in order tree) ≡ total_bytes tree
  unfolding file_in file_words
  file_length order =
      length_bytes_of order (file_words tree)
      ∙ simp length-append (omega (arith, contents_length tree.count, bodies_length tree.count))
