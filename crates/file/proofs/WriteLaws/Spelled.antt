-- What a file spells: the words from a place on are those of a list. The bytes of words spell them, and a file of bytes that spells as many words as it
-- holds is the bytes of those words.
-- Assumes nothing.
use Prim.Native.Nat.{ℕ, zero, suc, ◌+◌, ◌*◌, ◌/◌, ◌%◌, ◌^◌, ◌<◌}
use mathlib.Core.Path.{◌≡◌, refl, sym, ap, subst, subst₂, ◌∙◌}
use mathlib.Core.List.{List, [], ◌∷◌, ◌++◌, append_assoc}
use native.Mathlib.Nat.{add-zero, div-div-eq-div-mul, not-suc-le-zero, le_of_suc-le-suc, eq-or-lt_of_le, le_step, le_refl}
use mathlib.Core.Logic.{⊎_elim}
use native.Mathlib.Omega.{arith}
use borrow.Author.Tests.{eq-eqb, ne_eqb}
use lib.Dec.{lit<}
use lib.ListN.{length, get_or, length-append}
use lib.Seq.{get_or-append-add}
use Rattle.file.specs.declared.Order.{Order}
use Rattle.file.specs.declared.Order.TheVariants.{Big, Little}
use Rattle.file.specs.Format.{joined, word_at, mark, order_if, order_of}
use Rattle.file.specs.Writing.{word_bytes, bytes_of, numbered}
use Rattle.file.specs.Theorems.{AllBytes}
use Rattle.file.proofs.WriteLaws.Words.{length_word_lem}

-- every word of a list is below 2^32
abbrev pub AllWords : List ℕ → Type 0
AllWords [] = Unit {0}
AllWords (w ∷ ws) = (w < 2 ^ 32) × AllWords ws

-- from a place on, a file has these words in an order
abbrev pub Spells : Order → List ℕ → ℕ → List ℕ → Type 0
Spells order file at [] = Unit {0}
Spells order file at (w ∷ ws) = (word_at order file at ≡ w) × Spells order file (at + 4) ws

pub words_append : (xs ys : List ℕ) → AllWords xs → AllWords ys → AllWords (xs ++ ys)
words_append [] ys hx hy = hy
words_append (x ∷ xs) ys hx hy = (hx.0, words_append xs ys hx.1 hy)

pub words_numbered : (words : ℕ → List ℕ) (n : ℕ) → ((i : ℕ) → i < n → AllWords (words i)) → AllWords (numbered words n)
unfolding numbered
words_numbered words zero h = tt
words_numbered words (suc n) h = words_append (numbered words n) (words n) (words_numbered words n (λ i less. h i (le_step less))) (h n (le_refl (suc n)))

bytes_append : (xs ys : List ℕ) → AllBytes xs → AllBytes ys → AllBytes (xs ++ ys)
bytes_append [] ys hx hy = hy
bytes_append (x ∷ xs) ys hx hy = (hx.0, bytes_append xs ys hx.1 hy)

word_bytes_lem : (order : Order) (w : ℕ) → AllBytes (word_bytes order w)
unfolding word_bytes
word_bytes_lem Big w = (omega arith, (omega arith, (omega arith, (omega arith, tt))))
word_bytes_lem Little w = (omega arith, (omega arith, (omega arith, (omega arith, tt))))

-- what words are written as are bytes
pub bytes_of_lem : (order : Order) (ws : List ℕ) → AllBytes (bytes_of order ws)
unfolding bytes_of
bytes_of_lem order [] = tt
bytes_of_lem order (w ∷ ws) = bytes_append (word_bytes order w) (bytes_of order ws) (word_bytes_lem order w) (bytes_of_lem order ws)

-- the byte at a place, and 0 past the end
pub byte_below : (file : List ℕ) (k : ℕ) → AllBytes file → get_or file k 0 < 256
byte_below [] k h = lit< tt
byte_below (b ∷ bs) zero h = h.0
byte_below (b ∷ bs) (suc k) h = byte_below bs k h.1

-- four digits to the base 256 make up a number
digits : (w x y z r₁ r₂ r₃ : ℕ) → w ≡ 256 * x + r₁ → x ≡ 256 * y + r₂ → y ≡ 256 * z + r₃ → 16777216 * z + (65536 * r₃ + (256 * r₂ + r₁)) ≡ w
digits w x y z r₁ r₂ r₃ e₁ e₂ e₃ = omega arith

joined_parts : (w : ℕ) → w < 2 ^ 32 → joined (w / 16777216 % 256) (w / 65536 % 256) (w / 256 % 256) (w % 256) ≡ w
joined_parts w h =
    let last : w / 16777216 % 256 ≡ w / 16777216 = omega arith in
    let step : (n : ℕ) → n ≡ 256 * (n / 256) + n % 256 = λ n. omega arith in
    rw last
    (digits w (w / 256) (w / 65536) (w / 16777216) (w % 256) (w / 256 % 256) (w / 65536 % 256)
    (step w)
    (rw div-div-eq-div-mul at (step (w / 256)))
    (rw div-div-eq-div-mul at (step (w / 65536))))

parts : (a b c d : ℕ) → a < 256 → b < 256 → c < 256 → d < 256
    → (joined a b c d / 16777216 % 256 ≡ a) × (joined a b c d / 65536 % 256 ≡ b) × (joined a b c d / 256 % 256 ≡ c) × (joined a b c d % 256 ≡ d)
parts a b c d ha hb hc hd = (omega arith, omega arith, omega arith, omega arith)

-- "its first word shows": the mark in an order shows that order
pub marked_order : (order : Order) (file : List ℕ) → AllBytes file → word_at order file 0 ≡ mark → order_of file ≡ order
unfolding order_of word_at
marked_order Big file h e = ap order_if (eq-eqb _ mark e)
marked_order Little file h e =
    let b : (k : ℕ) → get_or file k 0 < 256 = λ k. byte_below file k h in
    ap order_if
    (ne_eqb _ mark λ other.
    let first = parts (get_or file 3 0) (get_or file 2 0) (get_or file 1 0) (get_or file 0 0) (b 3) (b 2) (b 1) (b 0) in
    let second = parts (get_or file 0 0) (get_or file 1 0) (get_or file 2 0) (get_or file 3 0) (b 0) (b 1) (b 2) (b 3) in
    let last : mark % 256 ≡ get_or file 0 0 = ap (λ (w : ℕ). w % 256) (sym e) ∙ first.3 in
    let lead : mark / 16777216 % 256 ≡ get_or file 0 0 = ap (λ (w : ℕ). w / 16777216 % 256) (sym other) ∙ second.0 in
    omega arith)

-- four bytes are those of the word that they make
parts_joined : (order : Order) (a b c d : ℕ) (rest : List ℕ) → a < 256 → b < 256 → c < 256 → d < 256
    → word_bytes order (word_at order (a ∷ b ∷ c ∷ d ∷ rest) 0) ≡ a ∷ b ∷ c ∷ d ∷ []
unfolding word_bytes word_at
parts_joined Big a b c d rest ha hb hc hd = let p = parts a b c d ha hb hc hd in rw (p.0, p.1, p.2, p.3)
parts_joined Little a b c d rest ha hb hc hd = let p = parts d c b a hd hc hb ha in rw (p.3, p.2, p.1, p.0)

module _ (order : Order) (file : List ℕ) where
  pub spells_append : (at : ℕ) (xs ys : List ℕ) → Spells order file at xs → Spells order file (at + 4 * length xs) ys → Spells order file at (xs ++ ys)
  spells_append at [] ys hx hy = subst (λ (n : ℕ). Spells order file n ys) (omega arith) hy
  spells_append at (x ∷ xs) ys hx hy = (hx.0, spells_append (at + 4) xs ys hx.1 (subst (λ (n : ℕ). Spells order file n ys) (omega arith) hy))

  pub spells_left : (at : ℕ) (xs ys : List ℕ) → Spells order file at (xs ++ ys) → Spells order file at xs
  spells_left at [] ys h = tt
  spells_left at (x ∷ xs) ys h = (h.0, spells_left (at + 4) xs ys h.1)

  pub spells_right : (at : ℕ) (xs ys : List ℕ) → Spells order file at (xs ++ ys) → Spells order file (at + 4 * length xs) ys
  spells_right at [] ys h = subst (λ (n : ℕ). Spells order file n ys) (omega arith) h
  spells_right at (x ∷ xs) ys h = subst (λ (n : ℕ). Spells order file n ys) (omega arith) (spells_right (at + 4) xs ys h.1)

  -- word j of the list
  pub spells_word : (at : ℕ) (ws : List ℕ) → Spells order file at ws → (j : ℕ) → j < length ws → word_at order file (at + 4 * j) ≡ get_or ws j 0
  spells_word at [] h j less = absurd (not-suc-le-zero less)
  spells_word at (w ∷ ws) h zero less = subst (λ (n : ℕ). word_at order file n ≡ w) (omega arith) h.0
  spells_word at (w ∷ ws) h (suc j) less =
      subst (λ (n : ℕ). word_at order file n ≡ get_or ws j 0) (omega arith) (spells_word (at + 4) ws h.1 j (le_of_suc-le-suc less))

  module _ (at : ℕ) (words : ℕ → List ℕ) where
    -- where the words of class i stand
    abbrev pub placed : ℕ → ℕ
    placed i = at + 4 * length (numbered words i)

    -- the words of each class, from those of all
    pub spells_each : (n : ℕ) → Spells order file at (numbered words n) → (i : ℕ) → i < n → Spells order file (placed i) (words i)
    unfolding numbered
    spells_each zero h i less = absurd (not-suc-le-zero less)
    spells_each (suc n) h i less =
        ⊎_elim
        (λ e. subst (λ (k : ℕ). Spells order file (placed k) (words k)) (sym e) (spells_right at (numbered words n) (words n) h))
        (λ l. spells_each n (spells_left at (numbered words n) (words n) h) i l)
        (eq-or-lt_of_le (le_of_suc-le-suc less))

    -- and the other way
    pub spells_all : (n : ℕ) → ((i : ℕ) → i < n → Spells order file (placed i) (words i)) → Spells order file at (numbered words n)
    unfolding numbered
    spells_all zero h = tt
    spells_all (suc n) h = spells_append at (numbered words n) (words n) (spells_all n (λ i less. h i (le_step less))) (h n (le_refl (suc n)))

first_behind : (p q : List ℕ) → get_or (p ++ q) (length p) 0 ≡ get_or q 0 0
first_behind p q = ap (λ (n : ℕ). get_or (p ++ q) n 0) (sym (add-zero (length p))) ∙ get_or-append-add p q 0 0

-- a word behind other bytes
word_behind : (order : Order) (p q : List ℕ) → word_at order (p ++ q) (length p) ≡ word_at order q 0
unfolding word_at
word_behind Big p q = rw (first_behind p q, get_or-append-add p q 1 0, get_or-append-add p q 2 0, get_or-append-add p q 3 0)
word_behind Little p q = rw (get_or-append-add p q 3 0, get_or-append-add p q 2 0, get_or-append-add p q 1 0, first_behind p q)

-- the bytes of a word make it
word_made : (order : Order) (w : ℕ) (q : List ℕ) → w < 2 ^ 32 → word_at order (word_bytes order w ++ q) 0 ≡ w
unfolding word_at word_bytes
word_made Big w q h = joined_parts w h
word_made Little w q h = joined_parts w h

-- the bytes of words spell them
pub spells_behind : (order : Order) (p ws : List ℕ) → AllWords ws → Spells order (p ++ bytes_of order ws) (length p) ws
unfolding bytes_of
spells_behind order p [] h = tt
spells_behind order p (w ∷ ws) h = (
  word_behind order p (word_bytes order w ++ bytes_of order ws) ∙ word_made order w (bytes_of order ws) h.0,
  subst₂ (λ (file : List ℕ) (n : ℕ). Spells order file n ws)
      (append_assoc p (word_bytes order w) (bytes_of order ws))
      (length-append p (word_bytes order w) ∙ ap (λ (n : ℕ). length p + n) (length_word_lem order w))
      (spells_behind order (p ++ word_bytes order w) ws h.1),
)

pub spells_bytes : (order : Order) (ws : List ℕ) → AllWords ws → Spells order (bytes_of order ws) 0 ws
spells_bytes order ws h = spells_behind order [] ws h

-- a file of bytes that spells as many words as it holds is the bytes of those words
pub bytes_behind : (order : Order) (p file ws : List ℕ) → AllBytes file → length file ≡ 4 * length ws → Spells order (p ++ file) (length p) ws → file ≡ bytes_of order ws
unfolding bytes_of
bytes_behind order p [] [] b e h = refl
bytes_behind order p (a₁ ∷ file) [] b e h = absurd (omega arith)
bytes_behind order p [] (w ∷ ws) b e h = absurd (omega arith)
bytes_behind order p (a₁ ∷ []) (w ∷ ws) b e h = absurd (omega arith)
bytes_behind order p (a₁ ∷ a₂ ∷ []) (w ∷ ws) b e h = absurd (omega arith)
bytes_behind order p (a₁ ∷ a₂ ∷ a₃ ∷ []) (w ∷ ws) b e h = absurd (omega arith)
bytes_behind order p (a₁ ∷ a₂ ∷ a₃ ∷ a₄ ∷ file) (w ∷ ws) b e h =
    let four = a₁ ∷ a₂ ∷ a₃ ∷ a₄ ∷ [] in
    let first : word_at order (a₁ ∷ a₂ ∷ a₃ ∷ a₄ ∷ file) 0 ≡ w = sym (word_behind order p (a₁ ∷ a₂ ∷ a₃ ∷ a₄ ∷ file)) ∙ h.0 in
    let bytes : word_bytes order w ≡ four = ap (word_bytes order) (sym first) ∙ parts_joined order a₁ a₂ a₃ a₄ file b.0 b.1.0 b.1.1.0 b.1.1.1.0 in
    let rest : file ≡ bytes_of order ws =
    bytes_behind order (p ++ four) file ws b.1.1.1.1 (omega arith)
    (subst₂ (λ (f : List ℕ) (n : ℕ). Spells order f n ws) (sym (append_assoc p four file)) (sym (length-append p four)) h.1) in
    rw (bytes, ← rest)

pub bytes_spelled : (order : Order) (file ws : List ℕ) → AllBytes file → length file ≡ 4 * length ws → Spells order file 0 ws → file ≡ bytes_of order ws
bytes_spelled order file ws b e h = bytes_behind order [] file ws b e h
