-- Lists of pieces: what is kept of a list answers for the whole of it.
-- Assumes nothing.
use Prim.Native.Nat.{ℕ, ◌+◌, ◌-◌, ◌*◌, ◌≤◌, ◌<◌, min}
use mathlib.Core.Path.{◌≡◌, refl, ap}
use mathlib.Core.List.{List, [], ◌∷◌}
use mathlib.Core.Logic.{◌⊎◌, inl, inr, ⊎_elim}
use native.Mathlib.Nat.{le_trans, le_refl, le_of_lt, mul-le-mul_left, mul-le-mul_right}
use native.Mathlib.Omega.{arith}
use lib.Dec.{leb}
use borrow.Author.Tests.{le-leb, lt-leb}
use Rattle.curve.specs.Answers.{Least}
use Rattle.curve.specs.Curves.{amount, in_parts, Rising, RightRate, first_slope, last_slope}
use Rattle.curve.specs.Pieces.{standing, EveryPiece, latest, Due, Ripe, Deadline, Eligible, VirtualTime, lead}
use Rattle.curve.specs.Keeping.{Follows, Orderly, choose, lower_of, lowest, kept_of, kept_with, Stands, BothStand, early}
use Rattle.curve.specs.declared.Curve.{Curve}
use Rattle.curve.specs.declared.Curve.TheVariants.{None, Straight, FrontLoaded, Delayed}
use Rattle.curve.specs.declared.Piece.{Piece}
use Rattle.curve.proofs.Laws.Order.{le_or_lt}
use Rattle.curve.proofs.Laws.Answers.{least_iff}
use Rattle.curve.proofs.Laws.Amount.{front_before, front_past}

-- a property of every piece of a list
unfoldable pub Every : (Piece → Type 0) → List Piece → Type 0
Every P [] = Unit {0}
Every P (p ∷ ps) = P p × Every P ps

pub every_map : {P Q : Piece → Type 0} → ((p : Piece) → P p → Q p) → (ps : List Piece) → Every P ps → Every Q ps
unfolding Every
every_map f [] h = tt
every_map f (p ∷ ps) h = (f p h.0, every_map f ps h.1)

pub every_both : {P Q R : Piece → Type 0} → ((p : Piece) → P p → Q p → R p) → (ps : List Piece) → Every P ps → Every Q ps → Every R ps
unfolding Every
every_both f [] h k = tt
every_both f (p ∷ ps) h k = (f p h.0 k.0, every_both f ps h.1 k.1)

pub every_piece : (S : Curve) (ps : List Piece) (t y : ℕ) → Every (λ p. y ≤ standing S p t) ps → EveryPiece S ps t y
unfolding Every EveryPiece
every_piece S [] t y h = tt
every_piece S (p ∷ ps) t y h = (h.0, every_piece S ps t y h.1)

pub piece_every : (S : Curve) (ps : List Piece) (t y : ℕ) → EveryPiece S ps t y → Every (λ p. y ≤ standing S p t) ps
unfolding Every EveryPiece
piece_every S [] t y h = tt
piece_every S (p ∷ ps) t y h = (h.0, piece_every S ps t y h.1)

-- no piece starts later, or with more sent, than the first of the list
pub orderly_first : (p : Piece) (ps : List Piece) → Orderly (p ∷ ps) → Every (λ q. (q.start ≤ p.start) × (q.sent ≤ p.sent)) (p ∷ ps)
unfolding Every Orderly Follows
orderly_first p [] o = ((le_refl p.start, le_refl p.sent), tt)
orderly_first p (q ∷ qs) o = (
  (le_refl p.start, le_refl p.sent),
  every_map (λ r h. (le_trans h.0 o.0.0, le_trans h.1 o.0.1)) (q ∷ qs) (orderly_first q qs o.1),
)

-- p's line of slope m is nowhere above q's
Under : ℕ → Piece → Piece → Type 0
Under m p q = in_parts p.sent + m * q.start ≤ in_parts q.sent + m * p.start

under_trans : (m : ℕ) (p q r : Piece) → Under m p q → Under m q r → Under m p r
unfolding Under
under_trans m p q r h k = omega arith

-- the lower of two is under both
lower_under : (m : ℕ) (old new : Piece) → old.start ≤ new.start → old.sent ≤ new.sent → Under m (lower_of m old new) old × Under m (lower_of m old new) new
unfolding Under lower_of
lower_under m old new s c = go (le_or_lt (in_parts (new.sent - old.sent)) (m * (new.start - old.start)))
  where
    rise : m * (new.start - old.start) + m * old.start ≡ m * new.start
    rise = let q : new.start - old.start + old.start ≡ new.start = omega arith in omega (arith, ap (λ z. m * z) q)

    go : (in_parts (new.sent - old.sent) ≤ m * (new.start - old.start)) ⊎ (m * (new.start - old.start) < in_parts (new.sent - old.sent))
        → Under m (choose (leb (in_parts (new.sent - old.sent)) (m * (new.start - old.start))) new old) old
        × Under m (choose (leb (in_parts (new.sent - old.sent)) (m * (new.start - old.start))) new old) new
    go (inl l) = rw (le-leb (in_parts (new.sent - old.sent)) (m * (new.start - old.start)) l) (omega (arith, rise), omega arith)
    go (inr l) = rw (lt-leb (in_parts (new.sent - old.sent)) (m * (new.start - old.start)) l) (omega arith, omega (arith, rise))

-- it is one of the two
pub lower_either : (P : Piece → Type 0) (m : ℕ) (old new : Piece) → P old → P new → P (lower_of m old new)
unfolding lower_of
lower_either P m old new h k = go (leb (in_parts (new.sent - old.sent)) (m * (new.start - old.start)))
  where
    go : (b : mathlib.Core.Bool.Bool) → P (choose b new old)
    go mathlib.Core.Bool.Bool.true = k
    go mathlib.Core.Bool.Bool.false = h

-- the lowest piece is a piece of the list
pub lowest_one : (P : Piece → Type 0) (m : ℕ) (p : Piece) (ps : List Piece) → Every P (p ∷ ps) → P (lowest m (p ∷ ps))
unfolding lowest Every
lowest_one P m p [] h = h.0
lowest_one P m p (q ∷ qs) h = lower_either P m (lowest m (q ∷ qs)) p (lowest_one P m q qs h.1) h.0

-- and it is under every piece
lowest_under : (m : ℕ) (p : Piece) (ps : List Piece) → Orderly (p ∷ ps) → Every (λ q. Under m (lowest m (p ∷ ps)) q) (p ∷ ps)
unfolding lowest Every Orderly Follows Under
lowest_under m p [] o = (le_refl (in_parts p.sent + m * p.start), tt)
lowest_under m p (q ∷ qs) o =
    let before = lowest_one (λ r. (r.start ≤ q.start) × (r.sent ≤ q.sent)) m q qs (orderly_first q qs o.1) in
    let under = lower_under m (lowest m (q ∷ qs)) p (le_trans before.0 o.0.0) (le_trans before.1 o.0.1) in
    (under.1, every_map (λ r h. under_trans m (lower_of m (lowest m (q ∷ qs)) p) (lowest m (q ∷ qs)) r under.0 h) (q ∷ qs) (lowest_under m q qs o.1))

-- where the lowest piece's line has come to Y (less what it is raised by), so has the line of each piece that has begun
line_on : (m t Y raise : ℕ) (k q : Piece) → Under m k q → k.start ≤ t → Y ≤ in_parts k.sent + (m * (t - k.start) + raise)
    → q.start ≤ t → Y ≤ in_parts q.sent + (m * (t - q.start) + raise)
unfolding Under
line_on m t Y raise k q u b h b' =
    let e : t - k.start + k.start ≡ t = omega arith in
    let e' : t - q.start + q.start ≡ t = omega arith in
    omega (arith, ap (λ z. m * z) e, ap (λ z. m * z) e')

-- and a piece that had no more than Y sent before it has begun
line_begun : (m t Y : ℕ) (k q : Piece) → 1 ≤ m → Under m k q → k.start ≤ t → Y ≤ in_parts k.sent + m * (t - k.start) → in_parts q.sent ≤ Y → q.start ≤ t
unfolding Under
line_begun m t Y k q pos u b h c = ⊎_elim (λ l. l) (λ l. absurd (late l)) (le_or_lt q.start t)
  where
    late : t < q.start → ⊥
    late l =
        let e : t - k.start + k.start ≡ t = omega arith in
        let (x, e') = native.Mathlib.Nat.le_dest l in
        omega (arith, ap (λ z. m * z) e, ap (λ z. m * z) e', mul-le-mul_right x pos)

-- on a line: where the lowest piece stands at the bytes, all have begun and stand there
line_every : (m t bytes : ℕ) (p : Piece) (ps : List Piece) → 1 ≤ m → Orderly (p ∷ ps) → p.sent ≤ bytes
    → Stands (Straight m) (lowest m (p ∷ ps)) bytes t → Every (λ q. (q.start ≤ t) × (in_parts bytes ≤ in_parts q.sent + m * (t - q.start))) (p ∷ ps)
unfolding standing amount
line_every m t bytes p ps pos o c s =
    every_both
    (λ q u b.
    let begun = line_begun m t (in_parts bytes) (lowest m (p ∷ ps)) q pos u s.begun s.high (omega (arith, b.1)) in
    (begun, omega (arith, line_on m t (in_parts bytes) 0 (lowest m (p ∷ ps)) q u s.begun (omega (arith, s.high)) begun)))
    (p ∷ ps) (lowest_under m p ps o) (orderly_first p ps o)

first_latest : (t : ℕ) (P : Piece → Type 0) (p : Piece) (ps : List Piece) → Every (λ q. (q.start ≤ t) × P q) (p ∷ ps) → latest (p ∷ ps) ≤ t
unfolding Every
first_latest t P p ps h = h.0.0

-- a front-loaded curve is the lower of two lines
front_steep : (m₁ d m₂ x : ℕ) → m₂ < m₁ → amount (FrontLoaded m₁ d m₂) x ≤ m₁ * x
unfolding amount
front_steep m₁ d m₂ x f =
    let e : min x d + (x - d) ≡ x = omega arith in
    omega (arith, ap (λ z. m₁ * z) e, mul-le-mul_right (x - d) (le_of_lt f))

front_flat : (m₁ d m₂ x : ℕ) → m₂ < m₁ → amount (FrontLoaded m₁ d m₂) x ≤ m₂ * x + (m₁ - m₂) * d
unfolding amount
front_flat m₁ d m₂ x f =
    let e : min x d + (x - d) ≡ x = omega arith in
    let (k, g) = native.Mathlib.Nat.le_dest (le_of_lt f) in
    let g' : m₁ - m₂ ≡ k = omega arith in
    omega (arith, ap (λ z. m₂ * z) e, ap (λ z. z * min x d) g, ap (λ z. z * d) g', mul-le-mul_left {m = min x d} {n = d} k (omega arith))

front_lower : (m₁ d m₂ x y : ℕ) → m₂ < m₁ → y ≤ m₁ * x → y ≤ m₂ * x + (m₁ - m₂) * d → y ≤ amount (FrontLoaded m₁ d m₂) x
front_lower m₁ d m₂ x y f h k = ⊎_elim before past (le_or_lt x d)
  where
    before : x ≤ d → y ≤ amount (FrontLoaded m₁ d m₂) x
    before l = omega (arith, front_before m₁ d m₂ x l)

    past : d < x → y ≤ amount (FrontLoaded m₁ d m₂) x
    past l =
        let (z, e) = native.Mathlib.Nat.le_dest (le_of_lt l) in
        let (j, g) = native.Mathlib.Nat.le_dest (le_of_lt f) in
        let g' : m₁ - m₂ ≡ j = omega arith in
        let e' : x - d ≡ z = omega arith in
        omega (arith, front_past m₁ d m₂ x l, ap (λ w. m₂ * w) e, ap (λ w. m₂ * w) e', ap (λ w. w * d) g, ap (λ w. w * d) g')

-- a piece that every piece of the list is no later than, and that stands where every piece does
kept_stands : (S : Curve) (m t bytes : ℕ) (p : Piece) (ps : List Piece) → Orderly (p ∷ ps) → p.start ≤ t → EveryPiece S (p ∷ ps) t (in_parts bytes)
    → Stands S (lowest m (p ∷ ps)) bytes t
kept_stands S m t bytes p ps o b h =
    let at = lowest_one (λ q. (q.start ≤ t) × (in_parts bytes ≤ standing S q t)) m p ps
    (every_both (λ q e s. (le_trans e.0 b, s)) (p ∷ ps) (orderly_first p ps o) (piece_every S (p ∷ ps) t (in_parts bytes) h)) in
    record { begun = at.0; high = at.1 }

-- where every piece is due, both kept pieces stand
pub due_kept : (S : Curve) (bytes t : ℕ) (p : Piece) (ps : List Piece) → Orderly (p ∷ ps) → Due S (p ∷ ps) bytes t → BothStand S (kept_of S (p ∷ ps)) bytes t
unfolding kept_of
due_kept S bytes t p ps o h =
    record {
      steep = kept_stands S (first_slope S) t bytes p ps o h.after h.every;
      flat = kept_stands S (last_slope S) t bytes p ps o h.after h.every;
    }

-- on a straight curve the lowest piece answers for all
straight_due : (m bytes t : ℕ) (p : Piece) (ps : List Piece) → 1 ≤ m → Orderly (p ∷ ps) → p.sent ≤ bytes
    → Stands (Straight m) (lowest m (p ∷ ps)) bytes t → Due (Straight m) (p ∷ ps) bytes t
unfolding standing amount
straight_due m bytes t p ps pos o c s =
    let all = line_every m t bytes p ps pos o c s in
    record {
      after = first_latest t (λ q. in_parts bytes ≤ in_parts q.sent + m * (t - q.start)) p ps all;
      every = every_piece (Straight m) (p ∷ ps) t (in_parts bytes) (every_map (λ q h. h.1) (p ∷ ps) all);
    }

-- a curve that is lower than a line stands where the line does
stands_under : (S R : Curve) (p : Piece) (bytes t : ℕ) → amount S (t - p.start) ≤ amount R (t - p.start) → Stands S p bytes t → Stands R p bytes t
unfolding standing
stands_under S R p bytes t l s = record { begun = s.begun; high = omega (arith, s.high) }

-- on a front-loaded curve the two lowest pieces do
front_due : (m₁ d m₂ bytes t : ℕ) (p : Piece) (ps : List Piece) → 1 ≤ m₁ → m₂ < m₁ → Orderly (p ∷ ps) → p.sent ≤ bytes
    → Stands (FrontLoaded m₁ d m₂) (lowest m₁ (p ∷ ps)) bytes t → Stands (FrontLoaded m₁ d m₂) (lowest m₂ (p ∷ ps)) bytes t
    → Due (FrontLoaded m₁ d m₂) (p ∷ ps) bytes t
front_due m₁ d m₂ bytes t p ps pos f o c steep flat =
    record {
      after = first_latest t (λ q. in_parts bytes ≤ in_parts q.sent + m₁ * (t - q.start)) p ps all;
      every = every_piece S (p ∷ ps) t (in_parts bytes) (every_both stands (p ∷ ps) all (lowest_under m₂ p ps o));
    }
  where
    S : Curve
    S = FrontLoaded m₁ d m₂

    k : Piece
    k = lowest m₂ (p ∷ ps)

    on_line : Stands (Straight m₁) (lowest m₁ (p ∷ ps)) bytes t
    on_line = stands_under S (Straight m₁) (lowest m₁ (p ∷ ps)) bytes t (line (t - (lowest m₁ (p ∷ ps)).start)) steep
      where
        line : (x : ℕ) → amount S x ≤ amount (Straight m₁) x
        line x = unfold amount in front_steep m₁ d m₂ x f

    all : Every (λ q. (q.start ≤ t) × (in_parts bytes ≤ in_parts q.sent + m₁ * (t - q.start))) (p ∷ ps)
    all = line_every m₁ t bytes p ps pos o c on_line

    at_k : in_parts bytes ≤ in_parts k.sent + (m₂ * (t - k.start) + (m₁ - m₂) * d)
    at_k = unfold standing in omega (arith, flat.high, front_flat m₁ d m₂ (t - k.start) f)

    stands : (q : Piece) → (q.start ≤ t) × (in_parts bytes ≤ in_parts q.sent + m₁ * (t - q.start)) → Under m₂ k q → in_parts bytes ≤ standing S q t
    stands q h u = unfold standing in
        omega (
          arith,
          front_lower m₁ d m₂ (t - q.start) (in_parts bytes - in_parts q.sent) f (omega (arith, h.1))
              (omega (arith, line_on m₂ t (in_parts bytes) ((m₁ - m₂) * d) k q u flat.begun at_k h.0)),
        )

-- a delayed curve read d ticks later is the straight one
delayed_later : (d m t : ℕ) (q : Piece) → standing (Delayed d m) q (t + d) ≡ standing (Straight m) q t
unfolding standing amount
delayed_later d m t q = let e : t + d - q.start - d ≡ t - q.start = omega arith in omega (arith, ap (λ z. m * z) e)

-- on a delayed curve the lowest piece answers for all, once more is asked than was sent before any of them
delayed_due : (d m bytes t : ℕ) (p : Piece) (ps : List Piece) → 1 ≤ m → Orderly (p ∷ ps) → p.sent < bytes
    → Stands (Delayed d m) (lowest m (p ∷ ps)) bytes t → Due (Delayed d m) (p ∷ ps) bytes t
delayed_due d m bytes t p ps pos o c s =
    record {
      after = le_trans early_due.after (omega arith);
      every = every_piece (Delayed d m) (p ∷ ps) t (in_parts bytes)
          (every_map (λ q h. rw again at (rw (← delayed_later d m (t - d) q) at h)) (p ∷ ps) (piece_every (Straight m) (p ∷ ps) (t - d) (in_parts bytes) early_due.every));
    }
  where
    k : Piece
    k = lowest m (p ∷ ps)

    before : (k.start ≤ p.start) × (k.sent ≤ p.sent)
    before = lowest_one (λ q. (q.start ≤ p.start) × (q.sent ≤ p.sent)) m p ps (orderly_first p ps o)

    past : k.start + d ≤ t
    past = ⊎_elim (λ l. l) (λ l. absurd (short l)) (le_or_lt (k.start + d) t)
      where
        short : t < k.start + d → ⊥
        short l = unfold standing amount in
            let e : t - k.start - d ≡ 0 = omega (arith, s.begun) in
            omega (arith, s.high, before.1, ap (λ z. m * z) e)

    again : t - d + d ≡ t
    again = omega (arith, past)

    sooner : Stands (Straight m) k bytes (t - d)
    sooner = record { begun = omega (arith, past); high = rw (delayed_later d m (t - d) k) at (rw (← again) at s.high) }

    early_due : Due (Straight m) (p ∷ ps) bytes (t - d)
    early_due = straight_due m bytes (t - d) p ps pos o (le_of_lt c) sooner

-- both kept pieces answer the deadline's question for the whole list
pub kept_due : (S : Curve) → Rising S → (bytes t : ℕ) (p : Piece) (ps : List Piece) → Orderly (p ∷ ps) → p.sent < bytes
    → BothStand S (kept_of S (p ∷ ps)) bytes t → Due S (p ∷ ps) bytes t
unfolding Rising kept_of
kept_due (Straight m) r bytes t p ps o c b = straight_due m bytes t p ps r.above o (le_of_lt c) b.steep
kept_due (FrontLoaded m₁ d m₂) r bytes t p ps o c b = front_due m₁ d m₂ bytes t p ps r.first.above r.falls o (le_of_lt c) b.steep b.flat
kept_due (Delayed d m) r bytes t p ps o c b = delayed_due d m bytes t p ps r.rate.above o c b.steep
kept_due None r bytes t p ps o c b = elim r [ ]

-- read as the eligible time reads it, a piece of a curve is one of that curve without its delay
ripe_standing : (S : Curve) (q : Piece) (t : ℕ) → standing S q (t + lead S) ≡ standing (early S) q t
ripe_standing None q t = rw native.Mathlib.Nat.add-zero refl
ripe_standing (Straight m) q t = rw native.Mathlib.Nat.add-zero refl
ripe_standing (FrontLoaded m₁ d m₂) q t = rw native.Mathlib.Nat.add-zero refl
ripe_standing (Delayed d m) q t = delayed_later d m t q

pub ripe_due : (S : Curve) (ps : List Piece) (bytes t : ℕ) → Ripe S ps bytes t → Due (early S) ps bytes t
ripe_due S ps bytes t h =
    record {
      after = h.after;
      every = every_piece (early S) ps t (in_parts bytes)
          (every_map (λ q s. rw (ripe_standing S q t) at s) ps (piece_every S ps (t + lead S) (in_parts bytes) h.every));
    }

pub due_ripe : (S : Curve) (ps : List Piece) (bytes t : ℕ) → Due (early S) ps bytes t → Ripe S ps bytes t
due_ripe S ps bytes t h =
    record {
      after = h.after;
      every = every_piece S ps (t + lead S) (in_parts bytes)
          (every_map (λ q s. rw (ripe_standing S q t) s) ps (piece_every (early S) ps t (in_parts bytes) h.every));
    }

-- what is kept does not depend on the delay
kept_early : (S : Curve) (ps : List Piece) → kept_of S ps ≡ kept_of (early S) ps
unfolding kept_of
kept_early None ps = refl
kept_early (Straight m) ps = refl
kept_early (FrontLoaded m₁ d m₂) ps = refl
kept_early (Delayed d m) ps = refl

kept_early_due : (S : Curve) → Rising S → (bytes t : ℕ) (p : Piece) (ps : List Piece) → Orderly (p ∷ ps) → p.sent ≤ bytes
    → BothStand (early S) (kept_of S (p ∷ ps)) bytes t → Due (early S) (p ∷ ps) bytes t
unfolding Rising kept_of
kept_early_due (Straight m) r bytes t p ps o c b = straight_due m bytes t p ps r.above o c b.steep
kept_early_due (FrontLoaded m₁ d m₂) r bytes t p ps o c b = front_due m₁ d m₂ bytes t p ps r.first.above r.falls o c b.steep b.flat
kept_early_due (Delayed d m) r bytes t p ps o c b = straight_due m bytes t p ps r.rate.above o c b.steep
kept_early_due None r bytes t p ps o c b = elim r [ ]

-- and the eligible time's, where no more was sent before a piece than is asked for
pub kept_ripe : (S : Curve) → Rising S → (bytes t : ℕ) (p : Piece) (ps : List Piece) → Orderly (p ∷ ps) → p.sent ≤ bytes
    → BothStand (early S) (kept_of S (p ∷ ps)) bytes t → Ripe S (p ∷ ps) bytes t
kept_ripe S r bytes t p ps o c b = due_ripe S (p ∷ ps) bytes t (kept_early_due S r bytes t p ps o c b)

-- The three answers over a whole list of pieces, from what is kept of it; and the deadline back.
module _ (S : Curve) (rising : Rising S) (p : Piece) (ps : List Piece) (orderly : Orderly (p ∷ ps)) where
  pub deadline_kept : {bytes t : ℕ} → p.sent < bytes → Least (BothStand S (kept_of S (p ∷ ps)) bytes) t → Deadline S (p ∷ ps) bytes t
  deadline_kept {bytes} c = least_iff (λ u. kept_due S rising bytes u p ps orderly c) (λ u. due_kept S bytes u p ps orderly)

  pub kept_deadline : {bytes t : ℕ} → p.sent < bytes → Deadline S (p ∷ ps) bytes t → Least (BothStand S (kept_of S (p ∷ ps)) bytes) t
  kept_deadline {bytes} c = least_iff (λ u. due_kept S bytes u p ps orderly) (λ u. kept_due S rising bytes u p ps orderly c)

  pub eligible_kept : {bytes t : ℕ} → p.sent ≤ bytes → Least (BothStand (early S) (kept_of S (p ∷ ps)) bytes) t → Eligible S (p ∷ ps) bytes t
  eligible_kept {bytes} c =
      least_iff (λ u. kept_ripe S rising bytes u p ps orderly c)
      (λ u h. rw (kept_early S (p ∷ ps)) (due_kept (early S) bytes u p ps orderly (ripe_due S (p ∷ ps) bytes u h)))

pub virtual_kept : (share : ℕ) → RightRate share → (p : Piece) (ps : List Piece) → Orderly (p ∷ ps) → {w v : ℕ} → p.sent ≤ w
    → Least (Stands (Straight share) (lowest share (p ∷ ps)) w) v → VirtualTime share (p ∷ ps) w v
virtual_kept share r p ps o {w} c =
    least_iff (λ u. straight_due share w u p ps r.above o c) (λ u h. kept_stands (Straight share) share u w p ps o h.after h.every)

-- the lowest piece of none, as a state has it before the first; and one piece more
pub lowest_none : (m : ℕ) → lowest m [] ≡ record { start = 0; sent = 0 }
unfolding lowest
lowest_none m = refl

pub lowest_more : (m : ℕ) (p q : Piece) (qs : List Piece) → lower_of m (lowest m (q ∷ qs)) p ≡ lowest m (p ∷ q ∷ qs)
unfolding lowest
lowest_more m p q qs = refl

-- from none the first piece is kept where nothing was sent before it
pub lowest_start : (m : ℕ) (p : Piece) → p.sent ≡ 0 → lower_of m (lowest m []) p ≡ lowest m (p ∷ [])
unfolding lowest lower_of
lowest_start m p e = rw (le-leb (in_parts (p.sent - 0)) (m * (p.start - 0)) (omega (arith, e))) refl

-- the lowest piece starts no later than the latest
pub lowest_latest : (m : ℕ) (ps : List Piece) → Orderly ps → (lowest m ps).start ≤ latest ps
unfolding lowest
lowest_latest m [] o = omega arith
lowest_latest m (p ∷ ps) o = (lowest_one (λ q. (q.start ≤ p.start) × (q.sent ≤ p.sent)) m p ps (orderly_first p ps o)).0

-- the same of what is kept
module _ (S : Curve) where
  pub kept_none : kept_of S [] ≡ record { steep = record { start = 0; sent = 0 }; flat = record { start = 0; sent = 0 } }
  unfolding kept_of
  kept_none = λ i. record { steep = lowest_none (first_slope S) i; flat = lowest_none (last_slope S) i }

  pub kept_more : (p q : Piece) (qs : List Piece) → kept_with S (kept_of S (q ∷ qs)) p ≡ kept_of S (p ∷ q ∷ qs)
  unfolding kept_of kept_with
  kept_more p q qs = λ i. record { steep = lowest_more (first_slope S) p q qs i; flat = lowest_more (last_slope S) p q qs i }

  pub kept_start : (p : Piece) → p.sent ≡ 0 → kept_with S (kept_of S []) p ≡ kept_of S (p ∷ [])
  unfolding kept_of kept_with
  kept_start p e = λ i. record { steep = lowest_start (first_slope S) p e i; flat = lowest_start (last_slope S) p e i }

  pub kept_latest : (ps : List Piece) → Orderly ps → ((kept_of S ps).steep.start ≤ latest ps) × ((kept_of S ps).flat.start ≤ latest ps)
  unfolding kept_of
  kept_latest ps o = (lowest_latest (first_slope S) ps o, lowest_latest (last_slope S) ps o)
