-- Rounding keeps the order: of two numbers the larger rounds to a value that is no smaller, whatever their signs. So do adding a finite
-- constant, and multiplying or dividing by a constant above zero, in either format. Assumes nothing.
use mathlib.Core.Path.{◌≡◌, refl, sym, ap, ◌∙◌}
use mathlib.Core.Bool.{Bool, true, false, not, cond, ◌||◌, beq}
use Prim.Native.Nat.{ℕ, zero, suc, ◌+◌, ◌-◌, ◌*◌, ◌^◌, ◌≤◌, ◌<◌}
use native.Mathlib.Nat.{mul_comm, mul_assoc, mul_left_comm, mul-mul-mul_comm, add-mul, zero-mul, add_comm, mul-le-mul_right, le_of_mul-le-mul_right, mul-pos}
use native.Mathlib.Omega.{arith}
use lib.Dec.{T, ltb, eqb}
use lib.IntN.{ℤ, pos}
use lib.Ieee.{Float, nan, inf, fin, Format, binary32, binary64, prec, emax, low, up, down, size, span, climb, odd, units, round, neg, sum, add, mul, div, below, level, lt, eq, le, is_nan, of_int}
use lib.Ieee.Fits.{round_is, up_pos, down_pos}
use lib.Ieee.Order.{drop, kept, round_mono}
use lib.Ieee.Scale.{round_same, finite}
use lib.Ieee.Positive.{positive}
use borrow.Author.Tests.{ltb-true, ltb-false, le-ltb, eqb-true, eq-eqb, ne_eqb}
use Rattle.laws.proofs.Tests.{clash, by-test, and_l, and_r}

passes : (b : Bool) → T b → b ≡ true
passes true h = refl
passes false h = absurd h

-- ---- a number with a sign: the part of it above zero and the part below, one of which is 0

abbrev pub plus : Bool → ℕ → ℕ
plus false a = a
plus true a = 0

abbrev pub minus : Bool → ℕ → ℕ
minus false a = 0
minus true a = a

-- ±a ≤ ±b
abbrev pub AtMost : Bool → ℕ → Bool → ℕ → Type 0
AtMost s a t b = plus s a + minus t b ≤ plus t b + minus s a

plus-mul : (s : Bool) (a k : ℕ) → plus s (a * k) ≡ plus s a * k
plus-mul false a k = refl
plus-mul true a k = sym (zero-mul k)

minus-mul : (s : Bool) (a k : ℕ) → minus s (a * k) ≡ minus s a * k
minus-mul false a k = sym (zero-mul k)
minus-mul true a k = refl

-- ---- `le` between finite values says just that

at_most : (s : Bool) (a : ℕ) (t : Bool) (b : ℕ) → (below s a t b || level s a t b) ≡ true → AtMost s a t b
at_most false a false b h =
    by-test (ltb a b) (λ u. omega (arith, ltb-true a b u)) (λ u. omega (arith, eqb-true a b (and_l (eqb a b) true (simp u at h))))
at_most false a true b h =
    let e = eqb-true a b (and_l (eqb a b) (eqb a 0) h) in
    omega (arith, eqb-true a 0 (and_r (eqb a b) (eqb a 0) h))
at_most true a false b h = omega arith
at_most true a true b h =
    by-test (ltb b a) (λ u. omega (arith, ltb-true b a u)) (λ u. omega (arith, eqb-true a b (and_l (eqb a b) true (simp u at h))))

of-at-most : (s : Bool) (a : ℕ) (t : Bool) (b : ℕ) → AtMost s a t b → (below s a t b || level s a t b) ≡ true
of-at-most false a false b h =
    by-test (ltb a b) (λ u. simp u) (λ u. simp (u, eq-eqb a b (omega (arith, ltb-false a b u))))
of-at-most false a true b h = simp (eq-eqb a b (omega arith), eq-eqb a 0 (omega arith))
of-at-most true a false b h =
    by-test (ltb 0 (a + b)) (λ u. simp u)
    (λ u. let z = ltb-false 0 (a + b) u in simp (u, eq-eqb a b (omega arith), eq-eqb a 0 (omega arith)))
of-at-most true a true b h =
    by-test (ltb b a) (λ u. simp u) (λ u. simp (u, eq-eqb a b (omega (arith, ltb-false b a u))))

finite-le : (s t : Bool) (m n : ℕ) (e d : ℤ) → AtMost s (m * up e * down d) t (n * up d * down e) → le (fin s m e) (fin t n d) ≡ true
unfolding le lt eq
finite-le s t m n e d h = of-at-most s (m * up e * down d) t (n * up d * down e) h

-- the ends: an infinity is at most, or at least, whatever is a number
least : (x : Float) → is_nan x ≡ false → le (inf true) x ≡ true
unfolding le lt eq is_nan
least nan h = clash h
least (inf true) h = refl
least (inf false) h = refl
least (fin s m e) h = refl

most : (x : Float) → is_nan x ≡ false → le x (inf false) ≡ true
unfolding le lt eq is_nan
most nan h = clash h
most (inf true) h = refl
most (inf false) h = refl
most (fin s m e) h = refl

-- the three ways for x to be at most y
pub data Ordered : Float → Float → Type 0 where
  lowest : {y : Float} → is_nan y ≡ false → Ordered (inf true) y
  highest : {x : Float} → is_nan x ≡ false → Ordered x (inf false)
  finites : {s t : Bool} {m n : ℕ} {e d : ℤ} → AtMost s (m * up e * down d) t (n * up d * down e) → Ordered (fin s m e) (fin t n d)

pub ordered : (x y : Float) → le x y ≡ true → Ordered x y
unfolding le lt eq is_nan
ordered nan y h = clash (sym h)
ordered (inf true) nan h = clash (sym h)
ordered (inf true) (inf t) h = lowest refl
ordered (inf true) (fin t n d) h = lowest refl
ordered (inf false) nan h = clash (sym h)
ordered (inf false) (inf true) h = clash (sym h)
ordered (inf false) (inf false) h = highest refl
ordered (inf false) (fin t n d) h = clash (sym h)
ordered (fin s m e) nan h = clash (sym h)
ordered (fin s m e) (inf true) h = clash (sym h)
ordered (fin s m e) (inf false) h = highest refl
ordered (fin s m e) (fin t n d) h = finites (at_most s (m * up e * down d) t (n * up d * down e) h)

-- so neither is a NaN
pub le-numbers : (x y : Float) → le x y ≡ true → (is_nan x ≡ false) × (is_nan y ≡ false)
le-numbers x y h = go (ordered x y h)
  where
    go : {x y : Float} → Ordered x y → (is_nan x ≡ false) × (is_nan y ≡ false)
    go (lowest k) = ((unfold is_nan in refl), k)
    go (highest k) = (k, (unfold is_nan in refl))
    go (finites k) = ((unfold is_nan in refl), (unfold is_nan in refl))

-- ---- the negative of a value

neg-number : (x : Float) → is_nan x ≡ false → is_nan (neg x) ≡ false
unfolding neg is_nan
neg-number nan h = h
neg-number (inf s) h = refl
neg-number (fin s m e) h = refl

turned : (s t : Bool) (a b : ℕ) → AtMost s a t b → AtMost (not t) b (not s) a
turned false false a b h = omega arith
turned false true a b h = omega arith
turned true false a b h = omega arith
turned true true a b h = omega arith

le-neg : {x y : Float} → Ordered x y → le (neg y) (neg x) ≡ true
unfolding neg
le-neg (lowest {y} h) = most (neg y) (neg-number y h)
le-neg (highest {x} h) = least (neg x) (neg-number x h)
le-neg (finites {s} {t} {m} {n} {e} {d} h) = finite-le (not t) (not s) n m d e (turned s t (m * up e * down d) (n * up d * down e) h)

neg-odd : (d q k l : ℕ) → odd d true q k l ≡ neg (odd d false q k l)
unfolding odd neg
neg-odd d zero k l = refl
neg-odd d (suc q) k l = refl

neg-units : (f : Format) (q k : ℕ) → units f true q k ≡ neg (units f false q k)
unfolding units
neg-units f q k = go (ltb (q * 2 ^ k) (2 ^ (low f + suc (emax f))))
  where
    go : (b : Bool) → cond b (odd (suc (prec f)) true q k (low f)) (inf true) ≡ neg (cond b (odd (suc (prec f)) false q k (low f)) (inf false))
    go true = neg-odd (suc (prec f)) q k (low f)
    go false = (unfold neg in refl)

neg-round : (f : Format) (a c : ℕ) → round f true a c ≡ neg (round f false a c)
neg-round f a c =
    round_is f true a c
    ∙ neg-units f (kept (prec f) (a * 2 ^ low f) c) (drop (prec f) (a * 2 ^ low f) c)
    ∙ ap neg (sym (round_is f false a c))

-- ---- a number's sign: not below zero, an infinity included

abbrev not_below : Float → Bool
not_below nan = false
not_below (inf s) = not s
not_below (fin s m e) = not s

units-above : (f : Format) (q k : ℕ) → not_below (units f false q k) ≡ true
unfolding units
units-above f q k = go (ltb (q * 2 ^ k) (2 ^ (low f + suc (emax f)))) q
  where
    go : (b : Bool) (q : ℕ) → not_below (cond b (odd (suc (prec f)) false q k (low f)) (inf false)) ≡ true
    go true zero = (unfold odd in refl)
    go true (suc q) = (unfold odd in refl)
    go false q = refl

round-above : (f : Format) (a c : ℕ) → not_below (round f false a c) ≡ true
round-above f a c = ap not_below (round_is f false a c) ∙ units-above f (kept (prec f) (a * 2 ^ low f) c) (drop (prec f) (a * 2 ^ low f) c)

across : (x y : Float) → not_below x ≡ true → not_below y ≡ true → le (neg x) y ≡ true
unfolding neg
across nan y h k = clash (sym h)
across (inf true) y h k = clash (sym h)
across (inf false) nan h k = clash (sym k)
across (inf false) (inf t) h k = least (inf t) (unfold is_nan in refl)
across (inf false) (fin t n d) h k = least (fin t n d) (unfold is_nan in refl)
across (fin true m e) y h k = clash (sym h)
across (fin false m e) nan h k = clash (sym k)
across (fin false m e) (inf true) h k = clash (sym k)
across (fin false m e) (inf false) h k = most (fin true m e) (unfold is_nan in refl)
across (fin false m e) (fin true n d) h k = clash (sym k)
across (fin false m e) (fin false n d) h k = finite-le true false m n e d (omega arith)

zero-over-one : (f : Format) (s : Bool) → round f s 0 1 ≡ fin s 0 (pos 0)
unfolding round units odd size span climb
zero-over-one binary32 s = refl
zero-over-one binary64 s = refl

zero-round : (f : Format) (s : Bool) (c : ℕ) → 0 < c → round f s 0 c ≡ fin s 0 (pos 0)
zero-round f s c p = round_same f s 0 c 0 1 p (omega arith) (simp zero-mul) ∙ zero-over-one f s

-- ---- rounding keeps the order: ±a / c ≤ ±b / d

pub vanish : (a c b d : ℕ) → 0 < c → a * c + b * d ≤ 0 → a ≡ 0
vanish a c b d p h =
    let z : a ≤ 0 = le_of_mul-le-mul_right (let w : a * c ≤ 0 * c = omega (arith, zero-mul c) in w) p in
    omega arith

pub round-rises : (f : Format) (s : Bool) (a c : ℕ) (t : Bool) (b d : ℕ) → 0 < c → 0 < d → AtMost s (a * d) t (b * c)
    → le (round f s a c) (round f t b d) ≡ true
round-rises f false a c false b d p q h = passes (le (round f false a c) (round f false b d)) (round_mono f a c b d p q (omega arith))
round-rises f true a c true b d p q h =
    rw (neg-round f a c, neg-round f b d)
    (le-neg (ordered (round f false b d) (round f false a c) (passes (le (round f false b d) (round f false a c)) (round_mono f b d a c q p (omega arith)))))
round-rises f true a c false b d p q h = rw (neg-round f a c) (across (round f false a c) (round f false b d) (round-above f a c) (round-above f b d))
round-rises f false a c true b d p q h =
    rw (vanish a d b c q (omega arith), vanish b c a d p (omega arith), zero-round f false c p, zero-round f true d q)
    (finite-le false true 0 0 (pos 0) (pos 0) (omega arith))

-- ---- adding a finite constant

number-above : (x : Float) → not_below x ≡ true → is_nan x ≡ false
unfolding is_nan
number-above nan h = clash (sym h)
number-above (inf s) h = refl
number-above (fin s m e) h = refl

number-round : (f : Format) (s : Bool) (a c : ℕ) → is_nan (round f s a c) ≡ false
number-round f false a c = number-above (round f false a c) (round-above f a c)
number-round f true a c = ap is_nan (neg-round f a c) ∙ neg-number (round f false a c) (number-above (round f false a c) (round-above f a c))

-- a sum is its exact value, rounded: ±x / c, where ±x = ±a + ±b
record Sum (f : Format) (z : Float) (s : Bool) (a : ℕ) (t : Bool) (b c : ℕ) : Type 0 where
  sign : Bool
  magnitude : ℕ
  is : z ≡ round f sign magnitude c
  exact : plus sign magnitude + (minus s a + minus t b) ≡ minus sign magnitude + (plus s a + plus t b)

sum_is : (f : Format) (s : Bool) (a : ℕ) (t : Bool) (b c : ℕ) → Sum f (sum f s a t b c) s a t b c
unfolding sum
sum_is f false a false b c = record { sign = false; magnitude = a + b; is = refl; exact = omega arith }
sum_is f true a true b c = record { sign = true; magnitude = a + b; is = refl; exact = omega arith }
sum_is f false a true b c =
    by-test (ltb a b)
    (λ u. let l = ltb-true a b u in record { sign = true; magnitude = b - a; is = rw u; exact = omega arith })
    (λ u. let l = ltb-false a b u in record { sign = false; magnitude = a - b; is = rw u; exact = omega arith })
sum_is f true a false b c =
    by-test (ltb a b)
    (λ u. let l = ltb-true a b u in record { sign = false; magnitude = b - a; is = rw u; exact = omega arith })
    (λ u.
    let l = ltb-false a b u in
    by-test (ltb b a)
    (λ v. record { sign = true; magnitude = a - b; is = rw (u, v); exact = omega arith })
    (λ v. let l' = ltb-false b a v in record { sign = false; magnitude = a - b; is = rw (u, v); exact = omega arith }))

-- with p - q over D for each: x ≤ y, and their exact sums with k
sums-rise : (p q D p' q' D' kp kq K X⁺ X⁻ Y⁺ Y⁻ : ℕ) → p * D' + q' * D ≤ p' * D + q * D'
    → X⁺ + (q * K + kq * D) ≡ X⁻ + (p * K + kp * D) → Y⁺ + (q' * K + kq * D') ≡ Y⁻ + (p' * K + kp * D')
    → X⁺ * (D' * K) + Y⁻ * (D * K) ≤ Y⁺ * (D * K) + X⁻ * (D' * K)
sums-rise p q D p' q' D' kp kq K X⁺ X⁻ Y⁺ Y⁻ h x y =
    let h' = simp (add-mul, mul_assoc, mul_comm) at (mul-le-mul_right (K * K) h) in
    let x' = simp (add-mul, mul_assoc, mul_comm, mul_left_comm) at (ap (λ (z : ℕ). z * (D' * K)) x) in
    let y' = simp (add-mul, mul_assoc, mul_comm, mul_left_comm) at (ap (λ (z : ℕ). z * (D * K)) y) in
    simp (mul_comm, mul_left_comm) (omega (arith, h', x', y'))

add-number : (f : Format) (x : Float) (t : Bool) (n : ℕ) (d : ℤ) → is_nan x ≡ false → is_nan (add f x (fin t n d)) ≡ false
unfolding add
add-number f nan t n d h = h
add-number f (inf s) t n d h = (unfold is_nan in refl)
add-number f (fin s m e) t n d h =
    let z = sum_is f s (m * up e * down d) t (n * up d * down e) (down e * down d) in
    ap is_nan z.is ∙ number-round f z.sign z.magnitude (down e * down d)

add-finite : (f : Format) (s t r : Bool) (m n l : ℕ) (e d g : ℤ) → AtMost s (m * up e * down d) t (n * up d * down e)
    → le (add f (fin s m e) (fin r l g)) (add f (fin t n d) (fin r l g)) ≡ true
unfolding add
add-finite f s t r m n l e d g h =
    let x = sum_is f s (m * up e * down g) r (l * up g * down e) (down e * down g) in
    let y = sum_is f t (n * up d * down g) r (l * up g * down d) (down d * down g) in
    let w =
    sums-rise (plus s (m * up e)) (minus s (m * up e)) (down e) (plus t (n * up d)) (minus t (n * up d)) (down d) (plus r (l * up g)) (minus r (l * up g)) (down g)
    (plus x.sign x.magnitude) (minus x.sign x.magnitude) (plus y.sign y.magnitude) (minus y.sign y.magnitude)
    (omega (arith, plus-mul s (m * up e) (down d), minus-mul s (m * up e) (down d), plus-mul t (n * up d) (down e), minus-mul t (n * up d) (down e)))
    (omega (arith, x.exact, plus-mul s (m * up e) (down g), minus-mul s (m * up e) (down g), plus-mul r (l * up g) (down e), minus-mul r (l * up g) (down e)))
    (omega (arith, y.exact, plus-mul t (n * up d) (down g), minus-mul t (n * up d) (down g), plus-mul r (l * up g) (down d), minus-mul r (l * up g) (down d))) in
    rw (x.is, y.is)
    (round-rises f x.sign x.magnitude (down e * down g) y.sign y.magnitude (down d * down g) (mul-pos (down_pos e) (down_pos g)) (mul-pos (down_pos d) (down_pos g))
    (omega (
      arith,
      w,
      plus-mul x.sign x.magnitude (down d * down g),
      minus-mul x.sign x.magnitude (down d * down g),
      plus-mul y.sign y.magnitude (down e * down g),
      minus-mul y.sign y.magnitude (down e * down g),
    )))

-- a constant that is no infinity
pub add-rises : (f : Format) (c : Float) → T (finite c) → (x y : Float) → le x y ≡ true → le (add f x c) (add f y c) ≡ true
add-rises f nan k x y h = absurd k
add-rises f (inf s) k x y h = absurd k
add-rises f (fin r l g) k x y h = go (ordered x y h)
  where
    go : {x y : Float} → Ordered x y → le (add f x (fin r l g)) (add f y (fin r l g)) ≡ true
    go (lowest {y} h) = (unfold add in least (add f y (fin r l g)) (add-number f y r l g h))
    go (highest {x} h) = (unfold add in most (add f x (fin r l g)) (add-number f x r l g h))
    go (finites {s} {t} {m} {n} {e} {d} h) = add-finite f s t r m n l e d g h

-- ---- a sum is the same the other way round

apart : (f : Format) (a b c : ℕ) → sum f false a true b c ≡ sum f true b false a c
unfolding sum
apart f a b c =
    by-test (ltb a b) (λ u. rw (u, le-ltb b a (omega (arith, ltb-true a b u))))
    (λ u.
    by-test (ltb b a) (λ v. rw (u, v))
    (λ v. let e : a - b ≡ b - a = omega (arith, ltb-false a b u, ltb-false b a v) in rw (u, v, e)))

sum_comm : (f : Format) (s : Bool) (a : ℕ) (t : Bool) (b c : ℕ) → sum f s a t b c ≡ sum f t b s a c
sum_comm f false a false b c = (unfold sum in ap (λ (n : ℕ). round f false n c) (add_comm a b))
sum_comm f true a true b c = (unfold sum in ap (λ (n : ℕ). round f true n c) (add_comm a b))
sum_comm f false a true b c = apart f a b c
sum_comm f true a false b c = sym (apart f b a c)

pub add_swaps : (f : Format) (x y : Float) → add f x y ≡ add f y x
unfolding add
add_swaps f nan nan = refl
add_swaps f nan (inf t) = refl
add_swaps f nan (fin t n d) = refl
add_swaps f (inf s) nan = refl
add_swaps f (inf true) (inf true) = refl
add_swaps f (inf true) (inf false) = refl
add_swaps f (inf false) (inf true) = refl
add_swaps f (inf false) (inf false) = refl
add_swaps f (inf s) (fin t n d) = refl
add_swaps f (fin s m e) nan = refl
add_swaps f (fin s m e) (inf t) = refl
add_swaps f (fin s m e) (fin t n d) =
    sum_comm f s (m * up e * down d) t (n * up d * down e) (down e * down d)
    ∙ ap (sum f t (n * up d * down e) s (m * up e * down d)) (mul_comm (down e) (down d))

-- ---- multiplying or dividing by a constant above zero: by N / D

scale : (s : Bool) (a : ℕ) (t : Bool) (b k : ℕ) → AtMost s a t b → AtMost s (a * k) t (b * k)
scale s a t b k h =
    omega (arith, simp add-mul at (mul-le-mul_right k h), plus-mul s a k, minus-mul s a k, plus-mul t b k, minus-mul t b k)

module _ (f : Format) (op : Float → Float) (N D : ℕ) (D-pos : 0 < D) (at-nan : op nan ≡ nan) (at-inf : (s : Bool) → op (inf s) ≡ inf s)
    (at-fin : (s : Bool) (m : ℕ) (e : ℤ) → op (fin s m e) ≡ round f s (m * up e * N) (down e * D))
  where
    op-number : (x : Float) → is_nan x ≡ false → is_nan (op x) ≡ false
    op-number nan h = ap is_nan at-nan ∙ h
    op-number (inf s) h = ap is_nan (at-inf s) ∙ h
    op-number (fin s m e) h = ap is_nan (at-fin s m e) ∙ number-round f s (m * up e * N) (down e * D)

    op-rises : {x y : Float} → Ordered x y → le (op x) (op y) ≡ true
    op-rises (lowest {y} h) = rw (at-inf true) (least (op y) (op-number y h))
    op-rises (highest {x} h) = rw (at-inf false) (most (op x) (op-number x h))
    op-rises (finites {s} {t} {m} {n} {e} {d} h) =
        rw (at-fin s m e, at-fin t n d)
        (round-rises f s (m * up e * N) (down e * D) t (n * up d * N) (down d * D) (mul-pos (down_pos e) D-pos) (mul-pos (down_pos d) D-pos)
        (rw (mul-mul-mul_comm (m * up e) N (down d) D, mul-mul-mul_comm (n * up d) N (down e) D)
        (scale s (m * up e * down d) t (n * up d * down e) (N * D) h)))

not_none : (n : ℕ) → T (ltb 0 n) → eqb n 0 ≡ false
not_none n h = let p = ltb-true 0 n (passes (ltb 0 n) h) in ne_eqb n 0 (λ e. omega arith)

like : (s : Bool) → not (beq s false) ≡ s
like true = refl
like false = refl

-- a constant that is finite and above zero
pub mul-rises : (f : Format) (c : Float) → T (positive c) → (x y : Float) → le x y ≡ true → le (mul f x c) (mul f y c) ≡ true
mul-rises f nan k x y h = absurd k
mul-rises f (inf s) k x y h = absurd k
mul-rises f (fin true n d) k x y h = absurd k
mul-rises f (fin false n d) k x y h =
    op-rises f (λ z. mul f z (fin false n d)) (n * up d) (down d) (down_pos d) (unfold mul in refl)
    (λ s. (unfold mul in simp (not_none n k, like)))
    (λ s m e. (unfold mul in simp like))
    (ordered x y h)

pub div-rises : (f : Format) (c : Float) → T (positive c) → (x y : Float) → le x y ≡ true → le (div f x c) (div f y c) ≡ true
div-rises f nan k x y h = absurd k
div-rises f (inf s) k x y h = absurd k
div-rises f (fin true n d) k x y h = absurd k
div-rises f (fin false n d) k x y h =
    op-rises f (λ z. div f z (fin false n d)) (down d) (n * up d) (mul-pos (ltb-true 0 n (passes (ltb 0 n) k)) (up_pos d)) (unfold div in refl)
    (λ s. (unfold div in simp like))
    (λ s m e. (unfold div in simp (not_none n k, like, mul_comm (down e) (n * up d))))
    (ordered x y h)

-- ---- a whole number made a float
pub of_int-rises : (f : Format) (a b : ℕ) → a ≤ b → le (of_int f (pos a)) (of_int f (pos b)) ≡ true
unfolding of_int
of_int-rises f a b h = round-rises f false a 1 false b 1 (omega arith) (omega arith) (omega arith)
