-- What each operation does to each bit of a map, and that it leaves a map sound. Assumes nothing.
use mathlib.Core.Path.{◌≡◌, refl, sym, ap, ap₂, ◌∙◌}
use mathlib.Core.Bool.{Bool, true, false, not, cond, ◌&&◌, ◌||◌}
use mathlib.Core.List.{List, ◌++◌}
use Prim.Native.Nat.{ℕ, zero, suc, ◌+◌, ◌-◌, ◌*◌, ◌/◌, ◌%◌, ◌<◌, ◌≤◌}
use native.Mathlib.Omega.{arith}
use lib.Dec.{eqb, ltb}
use lib.ListN.{length, get_or, set, replicate, length-append, length-set, length-replicate, get_or-replicate, get_or-eq_default}
use borrow.Author.Tests.{eqb-true, eqb-false, lt-ltb, le-ltb, ltb-true, ltb-false}
use Rattle.laws.specs.Lists.{part}
use Rattle.laws.specs.Tests.{any_below}
use Rattle.laws.proofs.Tests.{by-test, clash, any_at}
use Rattle.laws.proofs.Lists.{length_part}
use Rattle.laws.specs.Bits.{bit_at, width, bit_of}
use Rattle.laws.proofs.Bits.{bits-number, bit-at, bits_of, bits-part, bits-front, bits-behind, long}
use Rattle.bits.proofs.Operators.{bits-zero, bits-set, bits-other}
use Rattle.model.specs.Map.{map_long, rise_flag, drop_flag, mask_bit, wire, sound_map, fresh_map, marked, flags_set, marks_set, cleared, replaced, written}
use Rattle.model.proofs.MapSound.{no-rise-past, no-drop-past, no-mask-past, sound-by}

-- ---- where a bit is read: bit k % 8 of the byte at k / 8, w + k / 8, 2w + k / 8

pub rise-read : (n : ℕ) (m : List ℕ) (k : ℕ) → rise_flag n m k ≡ bit_at (get_or m (k / 8) 0) (k % 8)
unfolding rise_flag bit_of
rise-read n m k = refl

pub drop-read : (n : ℕ) (m : List ℕ) (k : ℕ) → drop_flag n m k ≡ bit_at (get_or m (width n + k / 8) 0) (k % 8)
unfolding drop_flag bit_of
drop-read n m k = ap₂ (λ (i j : ℕ). bit_at (get_or m i 0) j) (omega arith) (omega arith)

pub mask-read : (n : ℕ) (m : List ℕ) (k : ℕ) → mask_bit n m k ≡ bit_at (get_or m (width n + width n + k / 8) 0) (k % 8)
unfolding mask_bit bit_of
mask-read n m k = ap₂ (λ (i j : ℕ). bit_at (get_or m i 0) j) (omega arith) (omega arith)

-- ---- the marks

pub long-flags : (l marks : List ℕ) → length (flags_set l marks) ≡ length l
unfolding flags_set
long-flags l marks = long (length l) (λ k. bit_of l k || marked marks k)

flags-bit : (l r : List ℕ) (k : ℕ) → k < 8 * length l → bit_of (flags_set l r) k ≡ (bit_of l k || marked r k)
unfolding flags_set
flags-bit l r k h = bits_of (length l) (λ k. bit_of l k || marked r k) k h

module _ (n : ℕ) (m rise fall : List ℕ) (e : length m ≡ map_long n) where
  long-group : (a : ℕ) → a + width n ≤ length m → (r : List ℕ) → length (flags_set (part a (width n) m) r) ≡ width n
  long-group a h r = long-flags (part a (width n) m) r ∙ length_part a (width n) m h

  group-bit : (a : ℕ) → a + width n ≤ length m → (r : List ℕ) (k : ℕ) → k < 8 * width n
      → bit_of (flags_set (part a (width n) m) r) k ≡ (bit_of m (8 * a + k) || marked r k)
  group-bit a h r k l =
      flags-bit (part a (width n) m) r k (omega (arith, length_part a (width n) m h))
      ∙ ap (λ (b : Bool). b || marked r k) (bits-part a (width n) m k l)

  -- a rise flag is set by a mark that is 1, and stays as it was otherwise; so does a drop flag; the mask stays
  pub rise-set : (k : ℕ) → k < 8 * width n → rise_flag n (marks_set n m rise fall) k ≡ (rise_flag n m k || marked rise k)
  unfolding marks_set rise_flag
  rise-set k l =
      bits-front (flags_set (part 0 (width n) m) rise) (flags_set (part (width n) (width n) m) fall ++ part (width n + width n) (width n) m) k
      (omega (arith, long-group 0 (omega arith) rise))
      ∙ group-bit 0 (omega arith) rise k l
      ∙ ap (λ (i : ℕ). bit_of m i || marked rise k) (let z : 8 * 0 + k ≡ k = omega arith in z)

  pub drop-set : (k : ℕ) → k < 8 * width n → drop_flag n (marks_set n m rise fall) k ≡ (drop_flag n m k || marked fall k)
  unfolding marks_set drop_flag
  drop-set k l =
      bits-behind (flags_set (part 0 (width n) m) rise) (flags_set (part (width n) (width n) m) fall ++ part (width n + width n) (width n) m) (width n) k
      (long-group 0 (omega arith) rise)
      ∙ bits-front (flags_set (part (width n) (width n) m) fall) (part (width n + width n) (width n) m) k (omega (arith, long-group (width n) (omega arith) fall))
      ∙ group-bit (width n) (omega arith) fall k l

  pub mask-kept : (k : ℕ) → k < 8 * width n → mask_bit n (marks_set n m rise fall) k ≡ mask_bit n m k
  unfolding marks_set mask_bit
  mask-kept k l =
      ap (bit_of (F ++ (G ++ part (width n + width n) (width n) m))) (let z : 8 * (width n + width n) + k ≡ 8 * width n + (8 * width n + k) = omega arith in z)
      ∙ bits-behind F (G ++ part (width n + width n) (width n) m) (width n) (8 * width n + k) (long-group 0 (omega arith) rise)
      ∙ bits-behind G (part (width n + width n) (width n) m) (width n) k (long-group (width n) (omega arith) fall)
      ∙ bits-part (width n + width n) (width n) m k l
    where
      F : List ℕ
      F = flags_set (part 0 (width n) m) rise

      G : List ℕ
      G = flags_set (part (width n) (width n) m) fall

  pub long-marks : length (marks_set n m rise fall) ≡ map_long n
  unfolding marks_set
  long-marks =
      omega (
        arith,
        length-append (flags_set (part 0 (width n) m) rise) (flags_set (part (width n) (width n) m) fall ++ part (width n + width n) (width n) m),
        length-append (flags_set (part (width n) (width n) m) fall) (part (width n + width n) (width n) m),
        long-group 0 (omega arith) rise,
        long-group (width n) (omega arith) fall,
        length_part (width n + width n) (width n) m (omega arith),
      )

  -- bits past n stay 0
  unmarked : (r : List ℕ) → length r ≡ n → (k : ℕ) → n ≤ k → marked r k ≡ false
  unmarked r q k h = ap (λ (x : ℕ). eqb x 1) (get_or-eq_default r 0 {n = k} (omega arith))

  neither-is : (a b : Bool) → a ≡ false → b ≡ false → (a || b) ≡ false
  neither-is a b h k = rw (h, k)

  pub marks-sound : length rise ≡ n → length fall ≡ n → sound_map n m ≡ true → sound_map n (marks_set n m rise fall) ≡ true
  marks-sound p q s =
      sound-by n (marks_set n m rise fall)
      (λ k g l. rise-set k l ∙ neither-is (rise_flag n m k) (marked rise k) (no-rise-past n m s k g l) (unmarked rise p k g))
      (λ k g l. drop-set k l ∙ neither-is (drop_flag n m k) (marked fall k) (no-drop-past n m s k g l) (unmarked fall q k g))
      (λ k g l. mask-kept k l ∙ no-mask-past n m s k g l)

-- ---- a write

and-always : (b : Bool) → b ≡ (b && not false)
and-always true = refl
and-always false = refl

module _ (n : ℕ) (m : List ℕ) (a v : ℕ) (e : length m ≡ map_long n) (h : a < map_long n) where
  at_flag : a < width n + width n → (j : ℕ) → j < 8
      → bit_at (cond (ltb a (width n + width n)) (cleared (get_or m a 0) v) (replaced n (a - (width n + width n)) v)) j ≡ (bit_at (get_or m a 0) j && not (bit_at v j))
  unfolding cleared
  at_flag l j g = rw (lt-ltb a (width n + width n) l) (bits-number 8 (λ j. bit_at (get_or m a 0) j && not (bit_at v j)) j g)

  at-mask : width n + width n ≤ a → (j : ℕ) → j < 8
      → bit_at (cond (ltb a (width n + width n)) (cleared (get_or m a 0) v) (replaced n (a - (width n + width n)) v)) j ≡ (ltb (8 * (a - (width n + width n)) + j) n && bit_at v j)
  unfolding replaced
  at-mask l j g = rw (le-ltb a (width n + width n) l) (bits-number 8 (λ j. ltb (8 * (a - (width n + width n)) + j) n && bit_at v j) j g)

  -- a bit of the flags: cleared exactly where it is written as 1
  flag-written : (b : ℕ) → b < 8 * (width n + width n) → bit_of (written n m a v) b ≡ (bit_of m b && not (eqb a (b / 8) && bit_at v (b % 8)))
  unfolding written
  flag-written b l =
      by-test (eqb a (b / 8))
      (λ t.
      let q : a ≡ b / 8 = eqb-true a (b / 8) t in
      let z : b ≡ 8 * a + b % 8 = omega arith in
      ap (bit_of (set m a x)) z
      ∙ bits-set m a x (b % 8) (omega arith) (omega arith)
      ∙ at_flag (omega arith) (b % 8) (omega arith)
      ∙ ap (λ (y : Bool). y && not (bit_at v (b % 8))) (sym (ap (bit_of m) z ∙ bit-at m a (b % 8) (omega arith)))
      ∙ ap (λ (s : Bool). bit_of m b && not (s && bit_at v (b % 8))) (sym t))
      (λ t.
      bits-other m a x b (λ q. eqb-false a (b / 8) t (sym q))
      ∙ and-always (bit_of m b)
      ∙ ap (λ (s : Bool). bit_of m b && not (s && bit_at v (b % 8))) (sym t))
    where
      x : ℕ
      x = cond (ltb a (width n + width n)) (cleared (get_or m a 0) v) (replaced n (a - (width n + width n)) v)

  pub rise-written : (k : ℕ) → k < 8 * width n → rise_flag n (written n m a v) k ≡ (rise_flag n m k && not (eqb a (k / 8) && bit_at v (k % 8)))
  unfolding rise_flag
  rise-written k l = flag-written k (omega arith)

  pub drop-written : (k : ℕ) → k < 8 * width n → drop_flag n (written n m a v) k ≡ (drop_flag n m k && not (eqb a (width n + k / 8) && bit_at v (k % 8)))
  unfolding drop_flag
  drop-written k l =
      flag-written (8 * width n + k) (omega arith)
      ∙ ap₂ (λ (i j : ℕ). bit_of m (8 * width n + k) && not (eqb a i && bit_at v j)) (omega arith) (omega arith)

  -- a mask bit: as it is written, but for those past n
  pub mask-written : (k : ℕ) → k < 8 * width n
      → mask_bit n (written n m a v) k ≡ cond (eqb a (width n + width n + k / 8)) (ltb k n && bit_at v (k % 8)) (mask_bit n m k)
  unfolding written mask_bit
  mask-written k l =
      by-test (eqb a (width n + width n + k / 8))
      (λ t.
      let q : a ≡ width n + width n + k / 8 = eqb-true a (width n + width n + k / 8) t in
      ap (bit_of (set m a x)) (let z : 8 * (width n + width n) + k ≡ 8 * a + k % 8 = omega arith in z)
      ∙ bits-set m a x (k % 8) (omega arith) (omega arith)
      ∙ at-mask (omega arith) (k % 8) (omega arith)
      ∙ ap (λ (i : ℕ). ltb i n && bit_at v (k % 8)) (let z : 8 * (a - (width n + width n)) + k % 8 ≡ k = omega arith in z)
      ∙ ap (λ (s : Bool). cond s (ltb k n && bit_at v (k % 8)) (bit_of m (8 * (width n + width n) + k))) (sym t))
      (λ t.
      bits-other m a x (8 * (width n + width n) + k)
      (λ q. eqb-false a (width n + width n + k / 8) t (let z : a ≡ width n + width n + k / 8 = omega arith in z))
      ∙ ap (λ (s : Bool). cond s (ltb k n && bit_at v (k % 8)) (bit_of m (8 * (width n + width n) + k))) (sym t))
    where
      x : ℕ
      x = cond (ltb a (width n + width n)) (cleared (get_or m a 0) v) (replaced n (a - (width n + width n)) v)

  pub long-written : length (written n m a v) ≡ map_long n
  unfolding written
  long-written = length-set m a _ ∙ e

  -- bits past n stay 0
  still-down : (b c : Bool) → b ≡ false → (b && c) ≡ false
  still-down b c q = rw q

  mask-down : (b c d : Bool) → c ≡ false → d ≡ false → cond b c d ≡ false
  mask-down true c d q r = q
  mask-down false c d q r = r

  pub write-sound : sound_map n m ≡ true → sound_map n (written n m a v) ≡ true
  write-sound s =
      sound-by n (written n m a v)
      (λ k g l. rise-written k l ∙ still-down (rise_flag n m k) _ (no-rise-past n m s k g l))
      (λ k g l. drop-written k l ∙ still-down (drop_flag n m k) _ (no-drop-past n m s k g l))
      (λ k g l.
      mask-written k l
      ∙ mask-down (eqb a (width n + width n + k / 8)) (ltb k n && bit_at v (k % 8)) (mask_bit n m k) (still-down (ltb k n) _ (le-ltb k n g)) (no-mask-past n m s k g l))

-- ---- a fresh map

zeros : (c i : ℕ) → ◌≡◌ {A = ℕ} (get_or (replicate c 0) i 0) 0
zeros c i =
    by-test (ltb i c) (λ t. get_or-replicate c i 0 0 (ltb-true i c t))
    (λ t. get_or-eq_default (replicate c 0) 0 {n = i} (omega (arith, ltb-false i c t, length-replicate {A = ℕ} c 0)))

fresh-bit : (c b : ℕ) → bit_of (replicate c 0) b ≡ false
unfolding bit_of
fresh-bit c b = ap (λ (x : ℕ). bit_at x (b % 8)) (zeros c (b / 8)) ∙ bits-zero (b % 8)

pub long-fresh : (n : ℕ) → length (fresh_map n) ≡ map_long n
unfolding fresh_map
long-fresh n = length-replicate (map_long n) 0

pub fresh-rise : (n k : ℕ) → rise_flag n (fresh_map n) k ≡ false
unfolding fresh_map rise_flag
fresh-rise n k = fresh-bit (map_long n) k

pub fresh-drop : (n k : ℕ) → drop_flag n (fresh_map n) k ≡ false
unfolding fresh_map drop_flag
fresh-drop n k = fresh-bit (map_long n) (8 * width n + k)

pub fresh-mask : (n k : ℕ) → mask_bit n (fresh_map n) k ≡ false
unfolding fresh_map mask_bit
fresh-mask n k = fresh-bit (map_long n) (8 * (width n + width n) + k)

pub fresh-sound : (n : ℕ) → sound_map n (fresh_map n) ≡ true
fresh-sound n = sound-by n (fresh_map n) (λ k g l. fresh-rise n k) (λ k g l. fresh-drop n k) (λ k g l. fresh-mask n k)

-- ---- the wire

-- up exactly when some flag and its channel's mask bit are both 1
pub wire-up : (n : ℕ) (m : List ℕ) (k : ℕ) → k < n → (rise_flag n m k || drop_flag n m k) ≡ true → mask_bit n m k ≡ true → wire n m ≡ true
unfolding wire
wire-up n m k l f q =
    any_at (λ k. (rise_flag n m k || drop_flag n m k) && mask_bit n m k) n k l (rw (f, q))

-- what a test that holds of some number below n holds of
some : (n : ℕ) (p : ℕ → Bool) → any_below n p ≡ true → (k : ℕ) × (k < n) × (p k ≡ true)
unfolding any_below
some zero p h = clash (sym h)
some (suc n) p h =
    by-test (p n) (λ t. (n, omega arith, t))
    (λ t. (let s = some n p (or_left (any_below n p) (p n) t h) in (s.0, (let l = s.1 in omega arith), s.2)))
  where
    or_left : (a b : Bool) → b ≡ false → (a || b) ≡ true → a ≡ true
    or_left true b q r = refl
    or_left false b q r = clash (sym r ∙ q)

pub wire-by : (n : ℕ) (m : List ℕ) → wire n m ≡ true → (k : ℕ) × (k < n) × (((rise_flag n m k || drop_flag n m k) && mask_bit n m k) ≡ true)
unfolding wire
wire-by n m h = some n (λ k. (rise_flag n m k || drop_flag n m k) && mask_bit n m k) h
