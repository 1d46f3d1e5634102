-- What is asked of all classes below a number: one that is meant is found, and the smallest and the largest value bound those that are meant.
-- Assumes nothing.
use Rattle.std.proofs.Common.{◌≡◌, ℕ, zero, suc, ◌<◌, ◌≤◌, Bool, true, false, ◌||◌, ◌⊎◌, sym, refl, ap, ◌∙◌, subst, ap₂, inl, inr, ⊎_elim, le_antisymm, arith}
use Rattle.curve.proofs.Laws.Order.{le_or_lt}
use Rattle.rules.specs.Over.{any_of, largest_of, smallest_of}
use Rattle.rules.proofs.Tests.{never, is_false, or_either, or_left, or_right, by_cond}

-- a number below suc n is n or below n
pub last_or_below : (n k : ℕ) → k < suc n → (k ≡ n) ⊎ (k < n)
last_or_below n k l = ⊎_elim (λ h. inl (omega arith)) (λ h. inr h) (le_or_lt n k)

pub any_of_lem : (n : ℕ) (p : ℕ → Bool) (k : ℕ) → k < n → p k ≡ true → any_of n p ≡ true
unfolding any_of
any_of_lem zero p k l e = absurd (omega arith)
any_of_lem (suc n) p k l e =
    ⊎_elim
    (λ (q : k ≡ n). or_left (p n) (any_of n p) (subst (λ (m : ℕ). p m ≡ true) q e))
    (λ (q : k < n). or_right (p n) (any_of n p) (any_of_lem n p k q e)) (last_or_below n k l)

pub any_which : (n : ℕ) (p : ℕ → Bool) → any_of n p ≡ true → (k : ℕ) × (k < n) × (p k ≡ true)
unfolding any_of
any_which zero p e = never e refl
any_which (suc n) p e =
    ⊎_elim
    (λ (q : p n ≡ true). (n, omega arith, q))
    (λ (q : any_of n p ≡ true). let r = any_which n p q in (r.0, omega (arith, r.1), r.2)) (or_either (p n) (any_of n p) e)

pub any_none : (n : ℕ) (p : ℕ → Bool) → any_of n p ≡ false → (k : ℕ) → k < n → p k ≡ false
any_none n p e k l = is_false (p k) (λ q. never (any_of_lem n p k l q) e)

pub none_any : (n : ℕ) (p : ℕ → Bool) → ((k : ℕ) → k < n → p k ≡ false) → any_of n p ≡ false
none_any n p h = is_false (any_of n p) (λ e. let r = any_which n p e in never r.2 (h r.0 r.1))

pub any_same : (n : ℕ) (p q : ℕ → Bool) → ((k : ℕ) → k < n → p k ≡ q k) → any_of n p ≡ any_of n q
unfolding any_of
any_same zero p q h = refl
any_same (suc n) p q h = ap₂ ◌||◌ (h n (omega arith)) (any_same n p q (λ k l. h k (omega arith)))

-- the largest is at least each value that is meant, and at most any bound of them
pub largest_least : (n : ℕ) (p : ℕ → Bool) (f : ℕ → ℕ) (k : ℕ) → k < n → p k ≡ true → f k ≤ largest_of n p f
unfolding largest_of
largest_least zero p f k l e = absurd (omega arith)
largest_least (suc n) p f k l e =
    by_cond (λ (x : ℕ). f k ≤ x) (p n)
    (λ q.
    ⊎_elim
    (λ (r : k ≡ n). omega (arith, ap f r))
    (λ (r : k < n). omega (arith, largest_least n p f k r e)) (last_or_below n k l))
    (λ q.
    ⊎_elim
    (λ (r : k ≡ n). never e (ap p r ∙ q))
    (λ (r : k < n). largest_least n p f k r e) (last_or_below n k l))

pub largest_most : (n : ℕ) (p : ℕ → Bool) (f : ℕ → ℕ) (b : ℕ) → ((k : ℕ) → k < n → p k ≡ true → f k ≤ b) → largest_of n p f ≤ b
unfolding largest_of
largest_most zero p f b h = omega arith
largest_most (suc n) p f b h =
    by_cond (λ (x : ℕ). x ≤ b) (p n)
    (λ q. omega (arith, h n (omega arith) q, largest_most n p f b (λ k l. h k (omega arith))))
    (λ q. largest_most n p f b (λ k l. h k (omega arith)))

-- where only k is meant the largest is its value; where none is meant it is 0
pub largest_only : (n : ℕ) (p : ℕ → Bool) (f : ℕ → ℕ) (k : ℕ) → k < n → p k ≡ true → ((m : ℕ) → m < n → p m ≡ true → m ≡ k) → largest_of n p f ≡ f k
largest_only n p f k l e only =
    le_antisymm
    (largest_most n p f (f k) (λ m h q. omega (arith, ap f (only m h q))))
    (largest_least n p f k l e)

pub largest_none : (n : ℕ) (p : ℕ → Bool) (f : ℕ → ℕ) → any_of n p ≡ false → largest_of n p f ≡ 0
largest_none n p f e =
    le_antisymm (largest_most n p f 0 (λ m h q. never q (any_none n p e m h))) (omega arith)

pub largest_same : (n : ℕ) (p q : ℕ → Bool) (f g : ℕ → ℕ) → ((k : ℕ) → k < n → p k ≡ q k) → ((k : ℕ) → k < n → p k ≡ true → f k ≡ g k)
    → largest_of n p f ≡ largest_of n q g
largest_same n p q f g same values =
    le_antisymm
    (largest_most n p f _ (λ k l e. omega (arith, values k l e, largest_least n q g k l (sym (same k l) ∙ e))))
    (largest_most n q g _ (λ k l e. omega (arith, values k l (same k l ∙ e), largest_least n p f k l (same k l ∙ e))))

-- the smallest is at most each value that is meant, and is one of them
pub smallest_most : (n : ℕ) (p : ℕ → Bool) (f : ℕ → ℕ) (k : ℕ) → k < n → p k ≡ true → smallest_of n p f ≤ f k
unfolding smallest_of
smallest_most zero p f k l e = absurd (omega arith)
smallest_most (suc n) p f k l e =
    by_cond (λ (x : ℕ). x ≤ f k) (p n)
    (λ q.
    by_cond (λ (x : ℕ). x ≤ f k) (any_of n p)
    (λ a.
    ⊎_elim
    (λ (r : k ≡ n). omega (arith, ap f r))
    (λ (r : k < n). omega (arith, smallest_most n p f k r e)) (last_or_below n k l))
    (λ a.
    ⊎_elim
    (λ (r : k ≡ n). omega (arith, ap f r))
    (λ (r : k < n). never (any_of_lem n p k r e) a) (last_or_below n k l)))
    (λ q.
    ⊎_elim
    (λ (r : k ≡ n). never e (ap p r ∙ q))
    (λ (r : k < n). smallest_most n p f k r e) (last_or_below n k l))

pub smallest_which : (n : ℕ) (p : ℕ → Bool) (f : ℕ → ℕ) → any_of n p ≡ true → (k : ℕ) × (k < n) × (p k ≡ true) × (smallest_of n p f ≡ f k)
unfolding any_of smallest_of
smallest_which zero p f e = never e refl
smallest_which (suc n) p f e =
    by_cond (λ (x : ℕ). (k : ℕ) × (k < suc n) × (p k ≡ true) × (x ≡ f k)) (p n)
    (λ q.
    by_cond (λ (x : ℕ). (k : ℕ) × (k < suc n) × (p k ≡ true) × (x ≡ f k)) (any_of n p)
    (λ a.
    let r = smallest_which n p f a in
    ⊎_elim
    (λ (h : f n ≤ smallest_of n p f). (n, omega arith, q, omega arith))
    (λ (h : smallest_of n p f < f n). (r.0, omega (arith, r.1), r.2, omega (arith, r.3)))
    (le_or_lt (f n) (smallest_of n p f)))
    (λ a. (n, omega arith, q, refl)))
    (λ q.
    let a : any_of n p ≡ true = ⊎_elim (λ (r : p n ≡ true). never r q) (λ (r : any_of n p ≡ true). r) (or_either (p n) (any_of n p) e) in
    let r = smallest_which n p f a in
    (r.0, omega (arith, r.1), r.2, r.3))
