-- R-5: s as held lies on the ladder, and 8 × s is exact there. Assumes nothing.
use mathlib.Core.Path.{◌≡◌, refl, sym, ap, subst, ◌∙◌}
use mathlib.Core.Bool.{Bool, true, false, cond, ◌&&◌}
use Prim.Native.Nat.{ℕ, zero, suc, ◌+◌, ◌-◌, ◌*◌, ◌%◌, ◌^◌, ◌≤◌, ◌<◌}
use native.Mathlib.Nat.{one-mul, mul-one, mul_assoc, mul_right_comm, mul_left_comm, zero-mul, mul-le-mul_right, le_of_mul-le-mul_right, lt_of_le_of_lt}
use native.Mathlib.Omega.{arith}
use lib.Dec.{T, leb, ltb, eqb, lit≤, lit<, ltb→lt, leb→le}
use lib.Pow.{pow-add, pow-lt}
use lib.IntN.{ℤ, pos, negsuc}
use lib.Ieee.{Float, nan, inf, fin, up, down, binary64, neg, mul, lt, eq, is_nan, fits, round, of_bits}
use lib.Ieee.Fits.{down_pos, cond-fits, and_l, and_r}
use lib.Ieee.Bits.{of_bits-fits}
use lib.Ieee.Exact.{HasValue, round_exact}
use borrow.Author.Tests.{ltb-false, leb-true, leb-false, eq-eqb}
use Rattle.laws.proofs.Tests.{clash, by-test}
use Rattle.model.specs.Layout.{ladder_depth, ladder_min_bits, ladder_min, ladder_top, ladder_max_bits, ladder_max, rungs_below, rungs_above}
use Rattle.model.specs.Ladder.{f8, held}
use Rattle.model.specs.Upward.{eight_times, eighths, Exact}

-- a number from -lo to hi
abbrev pub In : ℕ → ℕ → Float → Type 0
In lo hi nan = ⊥
In lo hi (inf t) = ⊥
In lo hi (fin true m e) = m * up e ≤ lo * down e
In lo hi (fin false m e) = m * up e ≤ hi * down e

-- ---- s as held is such a number, and an f64

inside : (s : Float) → is_nan s ≡ false → lt s ladder_min ≡ false → lt ladder_max s ≡ false → In ladder_depth ladder_top s
unfolding is_nan neg lt of_bits
inside nan n a b = clash n
inside (inf true) n a b = clash a
inside (inf false) n a b = clash b
inside (fin true m e) n a b = omega (arith, ltb-false (ladder_depth * down e) (m * up e * 1) a)
inside (fin false m e) n a b = omega (arith, ltb-false (ladder_top * down e) (m * up e * 1) b)

pub held_in : (s : Float) → is_nan s ≡ false → In ladder_depth ladder_top (held s)
unfolding neg of_bits
held_in s n = go (lt s ladder_min) (lt ladder_max s) refl refl
  where
    go : (b c : Bool) → lt s ladder_min ≡ b → lt ladder_max s ≡ c → In ladder_depth ladder_top (cond b ladder_min (cond c ladder_max s))
    go true c p q = lit≤ tt
    go false true p q = lit≤ tt
    go false false p q = inside s n p q

pub held_fits : (s : Float) → T (fits binary64 s) → T (fits binary64 (held s))
held_fits s h =
    cond-fits binary64 (lt s ladder_min) ladder_min (cond (lt ladder_max s) ladder_max s) (of_bits-fits binary64 ladder_min_bits)
    (cond-fits binary64 (lt ladder_max s) ladder_max s (of_bits-fits binary64 ladder_max_bits) h)

-- ---- 8 × s

-- 8 × 2^e is a power of two times the smallest f64, 2^-l
shift : (l : ℕ) (e : ℤ) → down e ≤ 2 ^ l → (j : ℕ) × (2 ^ j * down e ≡ 8 * up e * 2 ^ l)
shift l (pos k) h = (3 + k + l, mul-one (2 ^ (3 + k + l)) ∙ pow-add 2 (3 + k) l ∙ ap (λ (x : ℕ). x * 2 ^ l) (pow-add 2 3 k))
shift l (negsuc k) h =
    let few : suc k ≤ l = by-test (leb (suc k) l) (λ t. leb-true (suc k) l t) (λ f. omega (arith, pow-lt (leb-false (suc k) l f))) in
    let all : 3 + (l - suc k) + suc k ≡ 3 + l = omega arith in
    (3 + (l - suc k), sym (pow-add 2 (3 + (l - suc k)) (suc k)) ∙ ap (λ (x : ℕ). 2 ^ x) all ∙ pow-add 2 3 l)

-- such a product is far from the largest f64
far : (q u d p hi : ℕ) → 0 < d → q * d ≡ 8 * u * p → u ≤ hi * d → q ≤ 8 * hi * p
far q u d p hi D h b =
    let c : 8 * u * p ≤ 8 * (hi * d) * p = mul-le-mul_right p (omega arith) in
    let s : 8 * (hi * d) * p ≡ 8 * hi * p * d = ap (λ (x : ℕ). x * p) (sym (mul_assoc 8 hi d)) ∙ mul_right_comm (8 * hi) d p in
    le_of_mul-le-mul_right (omega arith) D

-- what an f64's digits and exponent keep to
digits : (t : Bool) (m : ℕ) (e : ℤ) → T (fits binary64 (fin t (suc m) e)) → (suc m < 2 ^ 53) × (down e ≤ 2 ^ 1074)
unfolding fits
digits t m e h =
    let a = eqb (suc m % 2) 1 in
    let b = ltb (suc m) (2 ^ 53) in
    let c = leb (down e) (2 ^ 1074) in
    let abc = and_l (a && b && c) (ltb (suc m * up e) (2 ^ 1024 * down e)) h in
    (ltb→lt (suc m) (2 ^ 53) (and_r a b (and_l (a && b) c abc)), leb→le (down e) (2 ^ 1074) (and_r (a && b) c abc))

-- m × 2^e, eight times
weigh : (m a d u p : ℕ) → a * d ≡ 8 * u * p → m * a * d ≡ 8 * (m * u) * p
weigh m a d u p h = mul_assoc m a d ∙ ap (λ (x : ℕ). m * x) h ∙ simp (mul_assoc, mul_left_comm)

-- by its sign, its numerator and its denominator as `mul` writes them
rounds : (t : Bool) (m : ℕ) (e : ℤ) (num den : ℕ) → num ≡ 8 * (m * up e) → den ≡ down e → T (fits binary64 (fin t m e)) → m * up e ≤ ladder_top * down e
    → HasValue (round binary64 t num den) t (8 * (m * up e)) (down e)
rounds t zero e num den n d h b =
    let z : num ≡ 0 = n ∙ ap (λ (x : ℕ). 8 * x) (zero-mul (up e)) in
    rw (← n, ← d) (round_exact binary64 t num den 0 0 (omega (arith, down_pos e)) (lit< tt) (lit< tt) (rw z (sym (zero-mul den))))
rounds t (suc m) e num den n d h b =
    let k = digits t m e h in
    let j = shift 1074 e k.1 in
    let w = weigh (suc m) (2 ^ j.0) (down e) (up e) (2 ^ 1074) j.1 in
    let dp : 0 < den = subst (λ (x : ℕ). 0 < x) (sym d) (down_pos e) in
    let room : 8 * ladder_top * 2 ^ 1074 < 2 ^ 2098 = lit< tt in
    let small = lt_of_le_of_lt (far (suc m * 2 ^ j.0) (suc m * up e) (down e) (2 ^ 1074) ladder_top (down_pos e) w b) room in
    rw (← n, ← d) (round_exact binary64 t num den (suc m) j.0 dp k.0 small (rw (n, d) (sym w)))

pub product : (t : Bool) (m : ℕ) (e : ℤ) → T (fits binary64 (fin t m e)) → m * up e ≤ ladder_top * down e → HasValue (mul binary64 f8 (fin t m e)) t (8 * (m * up e)) (down e)
unfolding of_bits mul
product true m e h b = rounds true m e (8 * (m * up e)) (1 * down e) refl (one-mul (down e)) h b
product false m e h b = rounds false m e (8 * (m * up e)) (1 * down e) refl (one-mul (down e)) h b

-- ---- what has that value

same : (x : Float) (t : Bool) (m : ℕ) (e : ℤ) → HasValue x t (8 * (m * up e)) (down e) → eq x (fin t (8 * m) e) ≡ true
unfolding eq
same nan t m e v = absurd v
same (inf s) t m e v = absurd v
same (fin true n d) true m e v = rw (eq-eqb (n * up d * down e) (8 * m * up e * down d) (v.1 ∙ ap (λ (x : ℕ). x * down d) (sym (mul_assoc 8 m (up e)))))
same (fin true n d) false m e v = clash v.0
same (fin false n d) true m e v = clash (sym v.0)
same (fin false n d) false m e v = rw (eq-eqb (n * up d * down e) (8 * m * up e * down d) (v.1 ∙ ap (λ (x : ℕ). x * down d) (sym (mul_assoc 8 m (up e)))))

-- eight times the range
wide : (x : Float) (lo hi : ℕ) (t : Bool) (m : ℕ) (e : ℤ) → HasValue x t (8 * (m * up e)) (down e) → In lo hi (fin t m e) → In (8 * lo) (8 * hi) x
wide nan lo hi t m e v h = absurd v
wide (inf s) lo hi t m e v h = absurd v
wide (fin true n d) lo hi true m e v h = far (n * up d) (m * up e) (down e) (down d) lo (down_pos e) v.1 h
wide (fin true n d) lo hi false m e v h = clash v.0
wide (fin false n d) lo hi true m e v h = clash (sym v.0)
wide (fin false n d) lo hi false m e v h = far (n * up d) (m * up e) (down e) (down d) hi (down_pos e) v.1 h

-- a number of the range is at most as large as the ladder_top
size_of : (t : Bool) (m : ℕ) (e : ℤ) → In ladder_depth ladder_top (fin t m e) → m * up e ≤ ladder_top * down e
size_of true m e h = omega arith
size_of false m e h = h

pub exact : Exact
exact s f n = go (held s) (held_fits s f) (held_in s n)
  where
    go : (h : Float) → T (fits binary64 h) → In ladder_depth ladder_top h → eq (mul binary64 f8 h) (eight_times h) ≡ true
    go nan f i = absurd i
    go (inf t) f i = absurd i
    go (fin t m e) f i = same (mul binary64 f8 (fin t m e)) t m e (product t m e f (size_of t m e i))

pub eighths-in : (s : Float) → T (fits binary64 s) → is_nan s ≡ false → In rungs_below rungs_above (eighths s)
eighths-in s f n = go (held s) (held_fits s f) (held_in s n)
  where
    go : (h : Float) → T (fits binary64 h) → In ladder_depth ladder_top h → In rungs_below rungs_above (mul binary64 f8 h)
    go nan f i = absurd i
    go (inf t) f i = absurd i
    go (fin t m e) f i = wide (mul binary64 f8 (fin t m e)) ladder_depth ladder_top t m e (product t m e f (size_of t m e i)) i
