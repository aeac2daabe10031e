-- R-5, proved: the rung is the least one not below 8s, what stands on a rung stays there, and no value is below what it was before.
-- Assumes nothing.
use mathlib.Core.Path.{◌≡◌, refl, sym, ap, subst, ◌∙◌}
use mathlib.Core.Bool.{Bool, true, false, cond, ◌&&◌, ◌||◌, beq}
use mathlib.Core.Logic.{◌⊎◌, inl, inr, ⊎_elim}
use Prim.Native.Nat.{ℕ, zero, suc, ◌+◌, ◌-◌, ◌*◌, ◌/◌, ◌≤◌, ◌<◌, min}
use native.Mathlib.Nat.{zero-mul, suc-mul, div-lt_iff_lt-mul, mul-div_cancel, lt_of_mul-lt-mul_right, eq-or-lt_of_le}
use native.Mathlib.Omega.{arith}
use lib.Dec.{leb, ltb, eqb}
use lib.IntN.{ℤ, pos, negsuc}
use lib.Ieee.{Float, nan, inf, fin, up, down, binary64, neg, lt, le, eq, of_int, of_bits, minus}
use lib.Ieee.Fits.{down_pos}
use lib.Ieee.Back.{round_whole}
use lib.Ieee.Bits.{is_true}
use borrow.Author.Tests.{lt-ltb, le-ltb, le-leb, lt-leb, eq-eqb, eqb-true, leb-true, leb-false}
use Rattle.laws.proofs.Tests.{clash, by-test, and_l}
use Rattle.model.specs.Numbers.{f0}
use Rattle.model.specs.Layout.{rungs_below, rungs_above}
use Rattle.model.specs.Ring.{floor_held}
use Rattle.model.specs.Ladder.{ceil_held, rung, rung_value, ladder}
use Rattle.model.specs.LadderBefore.{rung_before, ladder_before}
use Rattle.model.specs.Upward.{whole, eighths, LeastAt, Least, OnARung, NeverBelow}
use Rattle.model.proofs.Bins.{nonneg}
use Rattle.model.proofs.Ceilings.{ceil-le, ceil-whole, ceil-near, ceil-bounds, ceil-none, floor-none, same_whole, whole_below, whole_above}
use Rattle.model.proofs.Eighths.{In, eighths-in}
use Rattle.model.proofs.RungValues.{value-self, value-next}

-- ---- differences of whole numbers

minus_pos : (a b k : ℕ) → a ≡ b + k → minus a b ≡ pos k
minus_pos a b k h = let d : a - b ≡ k = omega arith in rw (le-leb b a (omega arith), d)

minus-neg : (a b k : ℕ) → b ≡ a + suc k → minus a b ≡ negsuc k
minus-neg a b k h = let d : b - suc a ≡ k = omega arith in rw (lt-leb b a (omega arith), d)

-- ---- the least rung

-- comparisons that hold
le_of : (a b : ℕ) → a ≤ b → (ltb a b || (eqb a b && true)) ≡ true
le_of a b h = ⊎_elim (λ (e : a ≡ b). rw (le-ltb a b (omega arith), eq-eqb a b e)) (λ (l : a < b). rw (lt-ltb a b l)) (eq-or-lt_of_le h)

ge-of : (a b : ℕ) → b ≤ a → (ltb b a || (eqb a b && true)) ≡ true
ge-of a b h = ⊎_elim (λ (e : b ≡ a). rw (le-ltb b a (omega arith), eq-eqb a b (sym e))) (λ (l : b < a). rw (lt-ltb b a l)) (eq-or-lt_of_le h)

zero_of : (a b : ℕ) → b ≡ 0 → (ltb 0 (a + b) || (eqb a b && eqb a 0)) ≡ true
zero_of zero b h = rw h
zero_of (suc a) b h = rw (lt-ltb 0 (suc a + b) (omega arith))

-- k is the least whole number not below m * 2^e
upward : (m : ℕ) (e : ℤ) (k : ℕ) → m * up e ≤ k * down e → k * down e < m * up e + down e → k ≤ rungs_above → LeastAt (fin false m e) (rungs_below + k)
unfolding lt le eq
upward m e k a b c =
    record {
      on_the_ladder = omega arith;
      is_not_below = rw (minus_pos (rungs_below + k) rungs_below k refl) (le_of (m * up e * 1) (k * 1 * down e) (omega arith));
      no_less = go k b;
    }
  where
    go : (k : ℕ) → k * down e < m * up e + down e → lt (whole (minus (rungs_below + k) (suc rungs_below))) (fin false m e) ≡ true
    go zero b = lt-ltb 0 (1 * down e + m * up e * 1) (omega (arith, down_pos e))
    go (suc k) b = rw (minus_pos (rungs_below + suc k) (suc rungs_below) k (omega arith)) (lt-ltb (k * 1 * down e) (m * up e * 1) (omega (arith, suc-mul k (down e))))

-- t is the whole part of m * 2^e, and so -t the least whole number not below what is as far below 0
downward : (m : ℕ) (e : ℤ) (t : ℕ) → t * down e ≤ m * up e → m * up e < t * down e + down e → t ≤ rungs_below → LeastAt (fin true m e) (rungs_below - t)
unfolding lt le eq
downward m e t a b c =
    record {
      on_the_ladder = omega arith;
      is_not_below = go t a c;
      no_less = rw (minus-neg (rungs_below - t) (suc rungs_below) t (omega arith)) (lt-ltb (m * up e * 1) (suc t * 1 * down e) (omega (arith, suc-mul t (down e))));
    }
  where
    go : (t : ℕ) → t * down e ≤ m * up e → t ≤ rungs_below → le (fin true m e) (whole (minus (rungs_below - t) rungs_below)) ≡ true
    go zero a c = zero_of (m * up e * 1) (0 * down e) (zero-mul (down e))
    go (suc t) a c = rw (minus-neg (rungs_below - suc t) rungs_below t (omega arith)) (ge-of (m * up e * 1) (suc t * 1 * down e) (omega arith))

least-in : (z : Float) → In rungs_below rungs_above z → LeastAt z (rung z)
unfolding rung ceil_held floor_held neg
least-in nan h = absurd h
least-in (inf t) h = absurd h
least-in (fin false m e) h =
    let k = (m * up e + (down e - 1)) / down e in
    let b = ceil-bounds (m * up e) (down e) (down_pos e) in
    let l : k < suc rungs_above = lt_of_mul-lt-mul_right (down e) (omega (arith, b.1)) in
    let r : rungs_below + k ≡ rungs_below + min k rungs_above - 0 = omega arith in
    subst (LeastAt (fin false m e)) r (upward m e k b.0 b.1 (omega arith))
least-in (fin true m e) h =
    let t = m * up e / down e in
    let d = down_pos e in
    let l : t < suc rungs_below = (div-lt_iff_lt-mul d).1 (omega (arith, d)) in
    let r : rungs_below - t ≡ rungs_below - min t rungs_below = omega arith in
    subst (LeastAt (fin true m e)) r
    (downward m e t (whole_below (m * up e) (down e)) (omega (arith, whole_above (m * up e) (down e) d, suc-mul t (down e))) (omega arith))

pub least : Least
least s f n = least-in (eighths s) (eighths-in s f n)

-- ---- beside the ladder before

-- what stands on a rung has no fraction
no_fraction : (s t : Bool) (m n : ℕ) (e : ℤ) → eq (fin s m e) (fin t n (pos 0)) ≡ true → m * up e ≡ n * down e
unfolding eq
no_fraction s t m n e h = omega (arith, eqb-true (m * up e * 1) (n * 1 * down e) (and_l (eqb (m * up e * 1) (n * 1 * down e)) (beq s t || eqb (m * up e * 1) 0) h))

quotient : (m n : ℕ) (e : ℤ) → m * up e ≡ n * down e → m * up e / down e ≡ n
quotient m n e h = ap (λ (x : ℕ). x / down e) h ∙ mul-div_cancel n (down_pos e)

-- above 0 its ceiling is its floor ..
no_step : (top : ℕ) (t : Bool) (m n : ℕ) (e : ℤ) → m * up e ≡ n * down e → ceil_held top (fin t m e) ≡ floor_held top (fin t m e)
unfolding ceil_held floor_held
no_step top true m n e h = refl
no_step top false m n e h = rw (ceil-whole (m * up e) (down e) (down_pos e) (omega (arith, ap (λ (x : ℕ). x * down e) (quotient m n e h))))

-- .. and below 0 the whole part of what is as far above it is all of it, if it is on the ladder
all-of-it : (m n : ℕ) (e : ℤ) → m * up e ≡ n * down e → floor_held rungs_below (fin false m e) < rungs_below
    → eq (of_int binary64 (pos (floor_held rungs_below (fin false m e)))) (fin false m e) ≡ true
unfolding floor_held of_int
all-of-it m n e h l =
    let t : min (m * up e / down e) rungs_below ≡ n = omega (arith, quotient m n e h) in
    rw t (same_whole (of_int binary64 (pos n)) n m e (round_whole binary64 false n (omega arith)) h)

stays_up : (z : Float) → le f0 z ≡ true → ceil_held rungs_above z ≡ floor_held rungs_above z → rung z ≡ rung_before z
unfolding rung rung_before
stays_up z t h = rw (t, floor-none rungs_below z t, h) (omega arith)

stays-down : (z : Float) → le f0 z ≡ false
    → (floor_held rungs_below (neg z) < rungs_below → eq (of_int binary64 (pos (floor_held rungs_below (neg z)))) (neg z) ≡ true)
    → rung z ≡ rung_before z
unfolding rung rung_before
stays-down z f h =
    let t = floor_held rungs_below (neg z) in
    by-test (leb rungs_below t)
    (λ b. rw (f, ceil-none rungs_above z f) (below_end t (eq (of_int binary64 (pos t)) (neg z)) (leb-true rungs_below t b)))
    (λ b. rw (f, ceil-none rungs_above z f, h (leb-false rungs_below t b)))
  where
    below_end : (t : ℕ) (b : Bool) → rungs_below ≤ t → rungs_below - t ≡ cond b (rungs_below - t) (rungs_below - (t + 1))
    below_end t true l = refl
    below_end t false l = omega arith

stays-fin : (t : Bool) (m n : ℕ) (e : ℤ) → m * up e ≡ n * down e → rung (fin t m e) ≡ rung_before (fin t m e)
unfolding neg of_bits le lt eq
stays-fin t m n e h = by-test (le f0 (fin t m e)) (λ b. stays_up (fin t m e) b (no_step rungs_above t m n e h)) (λ b. below t b)
  where
    below : (t : Bool) → le f0 (fin t m e) ≡ false → rung (fin t m e) ≡ rung_before (fin t m e)
    below true b = stays-down (fin true m e) b (all-of-it m n e h)
    below false b = clash (sym (nonneg (m * up e) (down e)) ∙ b)

stays : (z : Float) (i : ℤ) → eq z (whole i) ≡ true → rung z ≡ rung_before z
unfolding eq
stays nan i h = clash (sym h)
stays (inf t) (pos n) h = clash (sym h)
stays (inf t) (negsuc n) h = clash (sym h)
stays (fin t m e) (pos n) h = stays-fin t m n e (no_fraction t false m n e h)
stays (fin t m e) (negsuc n) h = stays-fin t m (suc n) e (no_fraction t true m (suc n) e h)

pub on-a-rung : OnARung
unfolding ladder ladder_before
on-a-rung s i h = rw (stays (eighths s) i h)

-- the rung is the one before, or the next
below_one : (t : ℕ) (b : Bool) → (rungs_below - t ≡ cond b (rungs_below - t) (rungs_below - (t + 1))) ⊎ (rungs_below - t ≡ suc (cond b (rungs_below - t) (rungs_below - (t + 1))))
below_one t true = inl refl
below_one t false = by-test (leb rungs_below t) (λ h. inl (omega (arith, leb-true rungs_below t h))) (λ h. inr (omega (arith, leb-false rungs_below t h)))

up_one : (z : Float) → (rung z ≡ rung_before z) ⊎ (rung z ≡ suc (rung_before z))
unfolding rung rung_before
up_one z =
    by-test (le f0 z)
    (λ t. rw (t, floor-none rungs_below z t) (⊎_elim (λ e. inl (omega arith)) (λ e. inr (omega arith)) (ceil-near rungs_above z)))
    (λ f. rw (f, ceil-none rungs_above z f) (below_one (floor_held rungs_below (neg z)) (eq (of_int binary64 (pos (floor_held rungs_below (neg z)))) (neg z))))

-- both are on the ladder, and the values do not fall from rung to rung
pub rung-le : (z : Float) → rung z ≤ rungs_below + rungs_above
unfolding rung
rung-le z = omega (arith, ceil-le rungs_above z)

pub never-below : NeverBelow
unfolding ladder ladder_before
never-below s n =
    let z = eighths s in
    rw n
    (⊎_elim (λ (e : rung z ≡ rung_before z). rw e (is_true (le (rung_value (rung_before z)) (rung_value (rung_before z))) (value-self (rung_before z) (omega (arith, rung-le z)))))
    (λ (e : rung z ≡ suc (rung_before z)). rw e (is_true (le (rung_value (rung_before z)) (rung_value (suc (rung_before z)))) (value-next (rung_before z) (omega (arith, rung-le z)))))
    (up_one z))
