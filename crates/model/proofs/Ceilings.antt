-- R-5: the least whole number not below a float, beside the floor of it. Assumes nothing.
use mathlib.Core.Path.{◌≡◌, refl, sym, ap, ◌∙◌}
use mathlib.Core.Bool.{true, false}
use mathlib.Core.Logic.{◌⊎◌, inl, inr, ⊎_elim}
use Prim.Native.Nat.{ℕ, suc, ◌+◌, ◌-◌, ◌*◌, ◌/◌, ◌^◌, ◌≤◌, ◌<◌}
use native.Mathlib.Nat.{add-mul, one-mul, mul-one, mul_right_comm, div-add-mod', mod-lt, eq-or-lt_of_le, lt_of_mul-lt-mul_right, le_of_mul-le-mul_right, div-lt_iff_lt-mul, le-div_iff_mul-le}
use native.Mathlib.Omega.{arith}
use lib.Dec.{leb}
use lib.IntN.{ℤ, pos}
use lib.Ieee.{Float, nan, inf, fin, up, down, binary64, neg, lt, le, eq, of_int, of_bits}
use lib.Ieee.Fits.{down_pos}
use lib.Ieee.Exact.{HasValue}
use lib.Ieee.Back.{round_whole}
use borrow.Author.Tests.{ltb-true, ltb-false, eq-eqb, leb-true, leb-false}
use Rattle.laws.proofs.Tests.{clash, by-test}
use Rattle.model.specs.Numbers.{f0}
use Rattle.model.specs.Ring.{floor_held}
use Rattle.model.specs.Ladder.{ceil_held}
use Rattle.model.proofs.Bins.{nonneg, minus-zero}

-- ---- u / d rounded upward, in whole numbers

-- one more of d
more : (t d : ℕ) → (t + 1) * d ≡ t * d + d
more t d = add-mul t 1 d ∙ ap (λ (x : ℕ). t * d + x) (one-mul d)

-- t is within one of u / d, from below and from above
pub whole_below : (u d : ℕ) → u / d * d ≤ u
whole_below u d = omega (arith, div-add-mod' u d)

pub whole_above : (u d : ℕ) → 0 < d → u < (u / d + 1) * d
whole_above u d p = omega (arith, div-add-mod' u d, mod-lt u p, more (u / d) d)

pub ceil-is : (u d t : ℕ) → 0 < d → u ≤ t * d → t * d < u + d → (u + (d - 1)) / d ≡ t
ceil-is u d t p a b =
    let l : t ≤ (u + (d - 1)) / d = (le-div_iff_mul-le p).1 (omega arith) in
    let h : (u + (d - 1)) / d < t + 1 = (div-lt_iff_lt-mul p).1 (omega (arith, more t d)) in
    omega arith

pub ceil-bounds : (u d : ℕ) → 0 < d → (u ≤ (u + (d - 1)) / d * d) × ((u + (d - 1)) / d * d < u + d)
ceil-bounds u d p =
    let v = u + (d - 1) in (omega (arith, whole_above v d p, more (v / d) d), omega (arith, whole_below v d))

-- nothing is cut off, or something is
pub ceil-whole : (u d : ℕ) → 0 < d → u ≤ u / d * d → (u + (d - 1)) / d ≡ u / d
ceil-whole u d p h = ceil-is u d (u / d) p h (omega (arith, whole_below u d))

pub ceil-cut : (u d : ℕ) → 0 < d → u / d * d < u → (u + (d - 1)) / d ≡ u / d + 1
ceil-cut u d p h = ceil-is u d (u / d + 1) p (omega (arith, whole_above u d p)) (omega (arith, more (u / d) d))

pub ceil-or : (u d : ℕ) → 0 < d → ((u + (d - 1)) / d ≡ u / d) ⊎ ((u + (d - 1)) / d ≡ u / d + 1)
ceil-or u d p = ⊎_elim (λ e. inl (ceil-whole u d p (omega arith))) (λ l. inr (ceil-cut u d p l)) (eq-or-lt_of_le (whole_below u d))

-- ---- of floats

pub ceil-le : (top : ℕ) (x : Float) → ceil_held top x ≤ top
unfolding ceil_held
ceil-le top nan = omega arith
ceil-le top (inf true) = omega arith
ceil-le top (inf false) = omega arith
ceil-le top (fin true m e) = omega arith
ceil-le top (fin false m e) = omega arith

-- of a negative number, and of a NaN, it is 0
pub ceil-none : (top : ℕ) (z : Float) → le f0 z ≡ false → ceil_held top z ≡ 0
unfolding of_bits le lt eq ceil_held
ceil-none top nan h = refl
ceil-none top (inf true) h = refl
ceil-none top (inf false) h = clash h
ceil-none top (fin true m e) h = refl
ceil-none top (fin false m e) h = clash (sym (nonneg (m * up e) (down e)) ∙ h)

-- the floor of -z is 0 where z is not negative
pub floor-none : (top : ℕ) (z : Float) → le f0 z ≡ true → floor_held top (neg z) ≡ 0
unfolding of_bits le lt eq neg floor_held
floor-none top nan h = clash (sym h)
floor-none top (inf true) h = clash (sym h)
floor-none top (inf false) h = refl
floor-none top (fin true m e) h =
    let z : m * up e ≡ 0 = minus-zero (m * up e) (down e) h in
    let q : m * up e / down e < 1 = (div-lt_iff_lt-mul (down_pos e)).1 (omega (arith, one-mul (down e), down_pos e)) in
    omega arith
floor-none top (fin false m e) h = refl

-- a float w that is the whole number t, against m * 2^e
above-whole : (w : Float) (t m : ℕ) (e : ℤ) → HasValue w false t 1 → lt w (fin false m e) ≡ true → t * down e < m * up e
unfolding lt
above-whole nan t m e v h = absurd v
above-whole (inf s) t m e v h = absurd v
above-whole (fin true n d) t m e v h = clash v.0
above-whole (fin false n d) t m e v h =
    let a : n * up d * down e < m * up e * down d = ltb-true (n * up d * down e) (m * up e * down d) h in
    let b : n * up d * down e ≡ t * down e * down d = ap (λ (x : ℕ). x * down e) (sym (mul-one (n * up d)) ∙ v.1) ∙ mul_right_comm t (down d) (down e) in
    lt_of_mul-lt-mul_right (down d) (omega arith)

not-above : (w : Float) (t m : ℕ) (e : ℤ) → HasValue w false t 1 → lt w (fin false m e) ≡ false → m * up e ≤ t * down e
unfolding lt
not-above nan t m e v h = absurd v
not-above (inf s) t m e v h = absurd v
not-above (fin true n d) t m e v h = clash v.0
not-above (fin false n d) t m e v h =
    let a : m * up e * down d ≤ n * up d * down e = ltb-false (n * up d * down e) (m * up e * down d) h in
    let b : n * up d * down e ≡ t * down e * down d = ap (λ (x : ℕ). x * down e) (sym (mul-one (n * up d)) ∙ v.1) ∙ mul_right_comm t (down d) (down e) in
    le_of_mul-le-mul_right (omega arith) (down_pos d)

-- such a w is below nothing that is not above 0
below_none : (w : Float) (t : ℕ) → HasValue w false t 1 → (lt w nan ≡ false) × (lt w (inf true) ≡ false) × ((m : ℕ) (e : ℤ) → lt w (fin true m e) ≡ false)
unfolding lt
below_none nan t v = absurd v
below_none (inf s) t v = absurd v
below_none (fin true n d) t v = clash v.0
below_none (fin false n d) t v = (refl, refl, λ m e. refl)

pub same_whole : (w : Float) (t m : ℕ) (e : ℤ) → HasValue w false t 1 → m * up e ≡ t * down e → eq w (fin false m e) ≡ true
unfolding eq
same_whole nan t m e v h = absurd v
same_whole (inf s) t m e v h = absurd v
same_whole (fin true n d) t m e v h = clash v.0
same_whole (fin false n d) t m e v h =
    let b : n * up d * down e ≡ t * down e * down d = ap (λ (x : ℕ). x * down e) (sym (mul-one (n * up d)) ∙ v.1) ∙ mul_right_comm t (down d) (down e) in
    rw (eq-eqb (n * up d * down e) (m * up e * down d) (b ∙ ap (λ (x : ℕ). x * down d) (sym h)))

-- the floor, or the next
pub ceil-near : (top : ℕ) (x : Float) → (ceil_held top x ≡ floor_held top x) ⊎ (ceil_held top x ≡ suc (floor_held top x))
unfolding ceil_held floor_held
ceil-near top nan = inl refl
ceil-near top (inf true) = inl refl
ceil-near top (inf false) = inl refl
ceil-near top (fin true m e) = inl refl
ceil-near top (fin false m e) =
    let u = m * up e in
    let d = down e in
    ⊎_elim (λ (q : (u + (d - 1)) / d ≡ u / d). inl (rw q))
    (λ (q : (u + (d - 1)) / d ≡ u / d + 1).
    by-test (leb top (u / d)) (λ t. inl (omega (arith, leb-true top (u / d) t))) (λ f. inr (omega (arith, leb-false top (u / d) f))))
    (ceil-or u d (down_pos e))

-- ---- from the whole part t of x, held to top: up where that cuts something off
module _ (top : ℕ) (fine : top ≤ 2 ^ 53) where
  pub at_top : (x : Float) → top ≤ floor_held top x → top ≡ ceil_held top x
  unfolding floor_held ceil_held
  at_top nan h = omega arith
  at_top (inf true) h = omega arith
  at_top (inf false) h = refl
  at_top (fin true m e) h = omega arith
  at_top (fin false m e) h = ⊎_elim (λ q. omega arith) (λ q. omega arith) (ceil-or (m * up e) (down e) (down_pos e))

  pub steps_up : (x : Float) (t : ℕ) → t ≡ floor_held top x → t < top → lt (of_int binary64 (pos t)) x ≡ true → t + 1 ≡ ceil_held top x
  unfolding of_int floor_held ceil_held
  steps_up x t g l h = go x g h (round_whole binary64 false t (omega arith))
    where
      go : (x : Float) → t ≡ floor_held top x → lt (of_int binary64 (pos t)) x ≡ true → HasValue (of_int binary64 (pos t)) false t 1 → t + 1 ≡ ceil_held top x
      go nan g h v = clash (sym h ∙ (below_none (of_int binary64 (pos t)) t v).0)
      go (inf true) g h v = clash (sym h ∙ (below_none (of_int binary64 (pos t)) t v).1)
      go (inf false) g h v = omega arith
      go (fin true m e) g h v = clash (sym h ∙ (below_none (of_int binary64 (pos t)) t v).2 m e)
      go (fin false m e) g h v =
          let q : t * down e < m * up e = above-whole (of_int binary64 (pos t)) t m e v h in
          let s : t ≡ m * up e / down e = omega arith in
          let c = ceil-cut (m * up e) (down e) (down_pos e) (rw s at q) in
          omega arith

  pub stays : (x : Float) (t : ℕ) → t ≡ floor_held top x → t < top → lt (of_int binary64 (pos t)) x ≡ false → t ≡ ceil_held top x
  unfolding of_int floor_held ceil_held
  stays nan t g l h = g
  stays (inf true) t g l h = g
  stays (inf false) t g l h = g
  stays (fin true m e) t g l h = g
  stays (fin false m e) t g l h =
      let q : m * up e ≤ t * down e = not-above (of_int binary64 (pos t)) t m e (round_whole binary64 false t (omega arith)) h in
      let s : t ≡ m * up e / down e = omega arith in
      let c = ceil-whole (m * up e) (down e) (down_pos e) (rw s at q) in
      omega arith
