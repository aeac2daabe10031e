-- Sums with floats that compare equal are equal, but for the sign of a zero: a float may be written in several ways, and zeros of either
-- sign compare equal. Assumes nothing.
use mathlib.Core.Path.{◌≡◌, refl, sym, ap, ap₂, ◌∙◌}
use mathlib.Core.Bool.{Bool, true, false, beq, cond, ◌&&◌, ◌||◌}
use Prim.Native.Nat.{ℕ, ◌+◌, ◌-◌, ◌*◌, ◌<◌}
use native.Mathlib.Nat.{zero-add, sub-zero, zero-mul, add-mul, mul_comm, mul-mul-mul_comm, mul-sub, mul-pos, mul-lt-mul_of_pos_right, lt_of_mul-lt-mul_right, eq_of_mul-eq-mul_right}
use native.Mathlib.Omega.{arith}
use lib.Dec.{ltb, eqb}
use lib.IntN.{ℤ, pos}
use lib.Count.{count_trailing_zeros}
use lib.Ieee.{Float, nan, inf, fin, Format, binary32, binary64, up, down, level, span, climb, size, odd, units, round, sum, add, eq}
use lib.Ieee.Fits.{down_pos}
use lib.Ieee.Scale.{round_same}
use borrow.Author.Tests.{eqb-true, eqb-false, ltb-true, ltb-false, lt-ltb}
use Rattle.laws.proofs.Tests.{by-test, clash, and_l, and_r}

-- equal, or zeros of whatever signs
pub data Alike (x y : Float) : Type 0 where
  same : x ≡ y → Alike x y
  zeros : (s t : Bool) → x ≡ fin s 0 (pos 0) → y ≡ fin t 0 (pos 0) → Alike x y

-- ---- sums of fractions a / c and b / c, and of equal ones a' / c' and b' / c'

module _ (a b c a' b' c' : ℕ) (C : 0 < c) (C' : 0 < c') (ea : a * c' ≡ a' * c) (eb : b * c' ≡ b' * c) where
  added : (a + b) * c' ≡ (a' + b') * c
  added = add-mul a b c' ∙ ap₂ ◌+◌ ea eb ∙ sym (add-mul a' b' c)

  taken : (x y x' y' : ℕ) → x * c' ≡ x' * c → y * c' ≡ y' * c → (x - y) * c' ≡ (x' - y') * c
  taken x y x' y' e h =
      mul_comm (x - y) c'
      ∙ mul-sub c' x y
      ∙ ap₂ ◌-◌ (mul_comm c' x ∙ e ∙ mul_comm x' c) (mul_comm c' y ∙ h ∙ mul_comm y' c)
      ∙ sym (mul-sub c x' y')
      ∙ mul_comm c (x' - y')

  less : (x y x' y' : ℕ) → x * c' ≡ x' * c → y * c' ≡ y' * c → ltb x y ≡ ltb x' y'
  less x y x' y' e h =
      by-test (ltb x y)
      (λ t.
      t ∙ sym (lt-ltb x' y' (lt_of_mul-lt-mul_right c (rw (← e, ← h) (mul-lt-mul_of_pos_right (ltb-true x y t) C')))))
      (λ t.
      by-test (ltb x' y')
      (λ v.
      absurd
      (let z : x < y = lt_of_mul-lt-mul_right c' (rw (e, h) (mul-lt-mul_of_pos_right (ltb-true x' y' v) C)) in
      let w = ltb-false x y t in
      omega arith))
      (λ v. t ∙ sym v))

  sum_same : (f : Format) (s t : Bool) → sum f s a t b c ≡ sum f s a' t b' c'
  unfolding sum
  sum_same f s t =
      by-test (beq s t) (λ q. rw q (round_same f s (a + b) c (a' + b') c' C C' added))
      (λ q.
      rw (q, less a b a' b' ea eb, less b a b' a' eb ea)
      (ap₂ (λ (x y : Float). cond (ltb a' b') x y) (round_same f t (b - a) c (b' - a') c' C C' (taken b a b' a' eb ea))
      (round_same f (s && ltb b' a') (a - b) c (a' - b') c' C C' (taken a b a' b' ea eb))))

-- ---- a sum with a zero of the sign s

with-zero : (f : Format) (s t : Bool) (b c : ℕ) → 0 < b → sum f s 0 t b c ≡ round f t b c
unfolding sum
with-zero f true true b c h = ap (λ (x : ℕ). round f true x c) (zero-add b)
with-zero f false false b c h = ap (λ (x : ℕ). round f false x c) (zero-add b)
with-zero f true false b c h = rw (lt-ltb 0 b h) (ap (λ (x : ℕ). round f false x c) (sub-zero b))
with-zero f false true b c h = rw (lt-ltb 0 b h) (ap (λ (x : ℕ). round f true x c) (sub-zero b))

zero-of-one : (f : Format) (s : Bool) → round f s 0 1 ≡ fin s 0 (pos 0)
unfolding round units odd size span climb count_trailing_zeros
zero-of-one binary32 s = refl
zero-of-one binary64 s = refl

round-zero : (f : Format) (s : Bool) (c : ℕ) → 0 < c → round f s 0 c ≡ fin s 0 (pos 0)
round-zero f s c h = round_same f s 0 c 0 1 h (omega arith) (zero-mul 1 ∙ sym (zero-mul c)) ∙ zero-of-one f s

-- two zeros give a zero
both_zero : (f : Format) (s t : Bool) (c : ℕ) → 0 < c → (r : Bool) × (sum f s 0 t 0 c ≡ fin r 0 (pos 0))
unfolding sum
both_zero f true true c h = (true, round-zero f true c h)
both_zero f false false c h = (false, round-zero f false c h)
both_zero f true false c h = (false, round-zero f false c h)
both_zero f false true c h = (false, round-zero f false c h)

-- ---- sums of floats

-- 0 is a product's first factor where the other is above 0
none : (x y : ℕ) → 0 < y → x * y ≡ 0 → x ≡ 0
none x y h e = eq_of_mul-eq-mul_right y h x 0 (e ∙ sym (zero-mul y))

-- equal fractions are both above 0
some : (b b' c c' : ℕ) → 0 < c → 0 < c' → b * c' ≡ b' * c → 0 < b → 0 < b'
some b b' c c' C C' e h = lt_of_mul-lt-mul_right c (rw (zero-mul c, ← e) (mul-pos h C'))

-- zeros of the signs s and t, with b / c and an equal b' / c'
zeros-added : (f : Format) (s t u : Bool) (b c b' c' : ℕ) → 0 < c → 0 < c' → b * c' ≡ b' * c → Alike (sum f s 0 u b c) (sum f t 0 u b' c')
zeros-added f s t u b c b' c' C C' e =
    by-test (eqb b 0)
    (λ q.
    let z : b ≡ 0 = eqb-true b 0 q in
    let z' : b' ≡ 0 = none b' c C (sym e ∙ ap (λ (x : ℕ). x * c') z ∙ zero-mul c') in
    let l = both_zero f s u c C in
    let r = both_zero f t u c' C' in
    zeros l.0 r.0 (ap (λ (x : ℕ). sum f s 0 u x c) z ∙ l.1) (ap (λ (x : ℕ). sum f t 0 u x c') z' ∙ r.1))
    (λ q.
    let h : 0 < b = let z = eqb-false b 0 q in omega arith in
    let h' : 0 < b' = some b b' c c' C C' e h in
    same (with-zero f s u b c h ∙ round_same f u b c b' c' C C' e ∙ sym (with-zero f t u b' c' h')))

-- x = ±m * up e / down e and y = ±n * up d / down d, and p * up g / down g added to each
module _ (M E N D P G : ℕ) (h : M * D ≡ N * E) where
  first-cross : (M * G) * (D * G) ≡ (N * G) * (E * G)
  first-cross = mul-mul-mul_comm M G D G ∙ ap (λ (x : ℕ). x * (G * G)) h ∙ sym (mul-mul-mul_comm N G E G)

  second-cross : (P * E) * (D * G) ≡ (P * D) * (E * G)
  second-cross = mul-mul-mul_comm P E D G

-- a fraction whose float is a zero of one sign or the other
none_of : (M D G : ℕ) → 0 < D → M * D ≡ 0 → M * G ≡ 0
none_of M D G h e = ap (λ (x : ℕ). x * G) (none M D h e) ∙ zero-mul G

module _ (f : Format) (u : Bool) (M N P : ℕ) (e d g : ℤ) (q : M * down d ≡ N * down e) where
  x-above : 0 < down e * down g
  x-above = mul-pos (down_pos e) (down_pos g)

  y-above : 0 < down d * down g
  y-above = mul-pos (down_pos d) (down_pos g)

  like-signs : (s : Bool)
      → sum f s (M * down g) u (P * down e) (down e * down g) ≡ sum f s (N * down g) u (P * down d) (down d * down g)
  like-signs s =
      sum_same (M * down g) (P * down e) (down e * down g) (N * down g) (P * down d) (down d * down g) x-above y-above
      (first-cross M (down e) N (down d) P (down g) q) (second-cross M (down e) N (down d) P (down g) q) f s u

  zero-signs : (s t : Bool) → eqb (M * down d) 0 ≡ true
      → Alike (sum f s (M * down g) u (P * down e) (down e * down g)) (sum f t (N * down g) u (P * down d) (down d * down g))
  zero-signs s t z =
      let e₀ : M * down d ≡ 0 = eqb-true (M * down d) 0 z in
      rw (none_of M (down d) (down g) (down_pos d) e₀, none_of N (down e) (down g) (down_pos e) (sym q ∙ e₀))
      (zeros-added f s t u (P * down e) (down e * down g) (P * down d) (down d * down g) x-above y-above
      (second-cross M (down e) N (down d) P (down g) q))

  by-signs : (s t : Bool) → (beq s t || eqb (M * down d) 0) ≡ true
      → Alike (sum f s (M * down g) u (P * down e) (down e * down g)) (sum f t (N * down g) u (P * down d) (down d * down g))
  by-signs true true h = same (like-signs true)
  by-signs false false h = same (like-signs false)
  by-signs true false h = zero-signs true false h
  by-signs false true h = zero-signs false true h

finite : (f : Format) (s t u : Bool) (M N P : ℕ) (e d g : ℤ) → level s (M * down d) t (N * down e) ≡ true
    → Alike (sum f s (M * down g) u (P * down e) (down e * down g)) (sum f t (N * down g) u (P * down d) (down d * down g))
finite f s t u M N P e d g h =
    let A = eqb (M * down d) (N * down e) in
    let B = beq s t || eqb (M * down d) 0 in
    by-signs f u M N P e d g (eqb-true (M * down d) (N * down e) (and_l A B h)) s t (and_r A B h)

pub add-alike : (f : Format) (x y l : Float) → eq x y ≡ true → Alike (add f x l) (add f y l)
unfolding add eq
add-alike f nan y l h = clash (sym h)
add-alike f (inf s) nan l h = clash (sym h)
add-alike f (inf true) (inf true) l h = same refl
add-alike f (inf false) (inf false) l h = same refl
add-alike f (inf true) (inf false) l h = clash (sym h)
add-alike f (inf false) (inf true) l h = clash (sym h)
add-alike f (inf s) (fin t n d) l h = clash (sym h)
add-alike f (fin s m e) nan l h = clash (sym h)
add-alike f (fin s m e) (inf t) l h = clash (sym h)
add-alike f (fin s m e) (fin t n d) nan h = same refl
add-alike f (fin s m e) (fin t n d) (inf u) h = same refl
add-alike f (fin s m e) (fin t n d) (fin u p g) h = finite f s t u (m * up e) (n * up d) (p * up g) e d g h
