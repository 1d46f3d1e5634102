-- The words of a line that is made of plain words: what is first, and what comes after.
-- Assumes nothing.
use Prim.Native.Nat.{ℕ, ◌+◌, ◌/◌, ◌%◌, ◌<◌}
use native.Mathlib.Nat.{mod-lt}
use native.Mathlib.Omega.{arith}
use mathlib.Core.Path.{◌≡◌, refl, ◌∙◌}
use mathlib.Core.Bool.{Bool, true, not, ◌&&◌}
use mathlib.Core.List.{List, [], ◌∷◌, ◌++◌, append-nil}
use lib.Dec.{eqb}
use lib.ListN.{length}
use lib.Seq.{take-length, take-append_seam, drop-append_seam}
use borrow.Author.Tests.{ne_eqb, not-true}
use Rattle.std.proofs.lemmas.Bool.{and_parts}
use Rattle.wording.specs.Letters.{space, line_feed}
use Rattle.wording.specs.Words.{is_blank, span, uncommented, begun, first, after}
pub use Rattle.wording.specs.Words.{every, is_plain, is_dark, is_text, Plain}
use Rattle.wording.specs.Decimal.{digit, decimal}
use Rattle.wording.proofs.Decimals.{decimal_small, decimal_more, by_digits}

-- both tests hold where their conjunction does
pub both : (t u : Bool) → (t && u) ≡ true → (t ≡ true) × (u ≡ true)
both = and_parts

pub every_append : (meant : ℕ → Bool) (s t : List ℕ) → every meant s ≡ true → every meant t ≡ true → every meant (s ++ t) ≡ true
every_append meant [] t h g = g
every_append meant (b ∷ s) t h g =
    let (one, others) = and_parts (meant b) (every meant s) h in
    rw (one, every_append meant s t others g)

-- a byte of one kind is of the other
pub every_so : (meant other : ℕ → Bool) → ((b : ℕ) → meant b ≡ true → other b ≡ true) → (s : List ℕ) → every meant s ≡ true → every other s ≡ true
every_so meant other so [] h = refl
every_so meant other so (b ∷ s) h =
    let (one, others) = and_parts (meant b) (every meant s) h in
    rw (so b one, every_so meant other so s others)

-- all are in front
pub span_every : (meant : ℕ → Bool) (s t : List ℕ) → every meant s ≡ true → span meant (s ++ t) ≡ length s + span meant t
unfolding span
span_every meant [] t h = omega arith
span_every meant (b ∷ s) t h =
    let (one, others) = and_parts (meant b) (every meant s) h in
    rw one (omega (arith, span_every meant s t others))

-- every digit is
digit_plain : (d : ℕ) → d < 10 → is_plain (digit d) ≡ true
digit_plain d h =
    rw (ne_eqb (48 + d) 32 (λ e. omega arith), ne_eqb (48 + d) 9 (λ e. omega arith), ne_eqb (48 + d) 13 (λ e. omega arith), ne_eqb (48 + d) 35 (λ e. omega arith), ne_eqb (48 + d) 10 (λ e. omega arith))

pub decimal_plain : (n : ℕ) → Plain (decimal n)
decimal_plain =
    by_digits _ (λ n h. rw (decimal_small n h, digit_plain n h))
    (λ n h g. rw (decimal_more n h) (every_append is_plain (decimal (n / 10)) (digit (n % 10) ∷ []) g (rw (digit_plain (n % 10) (mod-lt n (omega arith))))))

-- a plain byte is dark, is no `#`, and ends no line
plain_parts : (b : ℕ) → is_plain b ≡ true → (is_dark b ≡ true) × ((is_text b ≡ true) × (not (eqb b line_feed) ≡ true))
plain_parts b h =
    let (dark, others) = and_parts (not (is_blank b)) (not (eqb b 35) && not (eqb b line_feed)) h in
    (dark, and_parts (not (eqb b 35)) (not (eqb b line_feed)) others)

module _ (word : List ℕ) (plain : Plain word) where
  plain_dark : every is_dark word ≡ true
  plain_dark = every_so is_plain is_dark (λ b h. (plain_parts b h).0) word plain

  -- the line's comment starts in no plain word, and no plain word ends the line
  pub plain_text : every is_text word ≡ true
  plain_text = every_so is_plain is_text (λ b h. (plain_parts b h).1.0) word plain

  pub plain_inner : every (λ b. not (eqb b line_feed)) word ≡ true
  plain_inner = every_so is_plain (λ b. not (eqb b line_feed)) (λ b h. (plain_parts b h).1.1) word plain

-- a dark byte in front is begun with
dark_begun : (b : ℕ) (s : List ℕ) → is_dark b ≡ true → begun (b ∷ s) ≡ b ∷ s
unfolding begun span
dark_begun b s h = rw (not-true (is_blank b) h)

plain_begun : (word rest : List ℕ) → every is_dark word ≡ true → 0 < length word → begun (word ++ rest) ≡ word ++ rest
plain_begun [] rest h g = absurd (omega arith)
plain_begun (b ∷ s) rest h g = dark_begun b (s ++ rest) (and_parts (is_dark b) (every is_dark s) h).0

-- the first word is a plain word in front, up to white space or the end, and the rest comes after it
module _ (word rest : List ℕ) (plain : Plain word) (some : 0 < length word) (stops : span is_dark rest ≡ 0) where
  dark_length : span is_dark (begun (word ++ rest)) ≡ length word
  dark_length = rw (plain_begun word rest (plain_dark word plain) some) (omega (arith, span_every is_dark word rest (plain_dark word plain)))

  pub first_word : first (word ++ rest) ≡ word
  unfolding first
  first_word = rw (dark_length, plain_begun word rest (plain_dark word plain) some) (take-append_seam word rest)

  pub after_word : after (word ++ rest) ≡ rest
  unfolding after
  after_word = rw (dark_length, plain_begun word rest (plain_dark word plain) some) (drop-append_seam word rest)

-- where a space comes next
module _ (word rest : List ℕ) (plain : Plain word) (some : 0 < length word) where
  pub first_spaced : first (word ++ (space ∷ rest)) ≡ word
  unfolding span
  first_spaced = first_word word (space ∷ rest) plain some refl

  pub after_spaced : after (word ++ (space ∷ rest)) ≡ space ∷ rest
  unfolding span
  after_spaced = after_word word (space ∷ rest) plain some refl

-- where the text ends
module _ (word : List ℕ) (plain : Plain word) (some : 0 < length word) where
  pub first_last : first word ≡ word
  unfolding span
  first_last = rw (append-nil word) at (first_word word [] plain some refl)

  pub after_last : after word ≡ []
  unfolding span
  after_last = rw (append-nil word) at (after_word word [] plain some refl)

-- a space in front is passed
module _ (rest : List ℕ) where
  pub first_space : first (space ∷ rest) ≡ first rest
  unfolding first begun span
  first_space = refl

  pub after_space : after (space ∷ rest) ≡ after rest
  unfolding after begun span
  after_space = refl

-- no text has no word
pub first_none : first [] ≡ []
unfolding first begun span
first_none = refl

pub after_none : after [] ≡ []
unfolding after begun span
after_none = refl

-- a line in which no comment starts is all before its comment
pub uncommented_all : (line : List ℕ) → every is_text line ≡ true → uncommented line ≡ line
unfolding uncommented span
uncommented_all line h =
    let all : span is_text line ≡ length line = rw (append-nil line) at (span_every is_text line [] h) ∙ omega arith in
    rw all (take-length line)
