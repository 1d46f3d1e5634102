-- Laws on words written one after another, in either order: each follows the list of words from its front.
-- Assumes nothing.
use Prim.Native.Nat.{ℕ, ◌+◌, ◌*◌}
use mathlib.Core.Path.{◌≡◌, refl, sym, ap, ◌∙◌}
use mathlib.Core.List.{List, [], ◌∷◌, ◌++◌, reverse, append_assoc, append-nil}
use native.Mathlib.Omega.{arith}
use lib.ListN.{length}
use lib.Seq.{sets}
use Rattle.file.specs.declared.Order.{Order}
use Rattle.file.specs.declared.Order.TheVariants.{Big, Little}
use Rattle.file.specs.Writing.{word_bytes, bytes_of}
use Rattle.tree.proofs.Stores.{sets_append}

-- the little-endian image of a word has its bytes reversed
pub little_reversed : (w : ℕ) → word_bytes Little w ≡ reverse (word_bytes Big w)
unfolding word_bytes
little_reversed w = refl

pub length_word_lem : (order : Order) (w : ℕ) → length (word_bytes order w) ≡ 4
unfolding word_bytes
length_word_lem Big w = refl
length_word_lem Little w = refl

module _ (order : Order) where
  pub bytes_of_append : (xs ys : List ℕ) → bytes_of order (xs ++ ys) ≡ bytes_of order xs ++ bytes_of order ys
  unfolding bytes_of
  bytes_of_append [] ys = refl
  bytes_of_append (x ∷ xs) ys = rw (bytes_of_append xs ys, append_assoc)

  -- four bytes a word
  pub length_bytes_of : (ws : List ℕ) → length (bytes_of order ws) ≡ 4 * length ws
  unfolding bytes_of
  length_bytes_of [] = refl
  length_bytes_of (w ∷ ws) = lib.ListN.length-append (word_bytes order w) (bytes_of order ws) ∙ omega (arith, length_word_lem order w, length_bytes_of ws)

  -- the bytes of one word
  pub one_word : (w : ℕ) → bytes_of order (w ∷ []) ≡ word_bytes order w
  unfolding bytes_of
  one_word w = append-nil (word_bytes order w)

  module _ (l : List ℕ) (at : ℕ) where
    -- nothing is written yet
    pub no_word : l ≡ sets l at (bytes_of order [])
    unfolding bytes_of
    no_word = refl

    -- after the words `xs`, the words `ys`
    pub words_on : (xs ys : List ℕ) (out out' : List ℕ) (end : ℕ)
        → end ≡ at + 4 * length xs → out ≡ sets l at (bytes_of order xs) → out' ≡ sets out end (bytes_of order ys)
        → out' ≡ sets l at (bytes_of order (xs ++ ys))
    words_on xs ys out out' end place before after =
        after
        ∙ ap (λ (o : List ℕ). sets o end (bytes_of order ys)) before
        ∙ ap (λ (e : ℕ). sets (sets l at (bytes_of order xs)) e (bytes_of order ys)) (place ∙ ap (λ (n : ℕ). at + n) (sym (length_bytes_of xs)))
        ∙ sets_append (bytes_of order xs) (bytes_of order ys) l at
        ∙ ap (sets l at) (sym (bytes_of_append xs ys))

    -- after the words `xs`, one word more
    pub word_on : (xs : List ℕ) (w : ℕ) (out out' : List ℕ) (end : ℕ)
        → end ≡ at + 4 * length xs → out ≡ sets l at (bytes_of order xs) → out' ≡ sets out end (word_bytes order w)
        → out' ≡ sets l at (bytes_of order (xs ++ (w ∷ [])))
    word_on xs w out out' end place before after = words_on xs (w ∷ []) out out' end place before (after ∙ ap (sets out end) (sym (one_word w)))
