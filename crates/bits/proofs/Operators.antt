-- What `|`, `&` and `!` do bit by bit, bytes that are written, and the marks as the code gathers them. Assumes nothing.
use mathlib.Core.Path.{◌≡◌, refl, sym, ap, ◌∙◌}
use mathlib.Core.Bool.{Bool, false, not, ◌&&◌, ◌||◌}
use mathlib.Core.List.{List, [], ◌∷◌}
use Prim.Native.Nat.{ℕ, zero, suc, ◌+◌, ◌-◌, ◌*◌, ◌/◌, ◌%◌, ◌^◌, ◌<◌, ◌≤◌, min, max}
use native.Mathlib.Nat.{pow-suc}
use native.Mathlib.Omega.{arith}
use lib.Dec.{eqb, ltb}
use lib.ListN.{length, get_or, set, length-append, get_or-append}
use lib.Pow.{pow_pos}
use lib.Seq.{get_or-set_same, get_or-set_other}
use lib.Bits.{bit_and, bit_or, and_step, or_step}
use Rattle.std.specs.List.{push}
use Rattle.std.proofs.lemmas.List.{get_or_push}
use Rattle.laws.specs.Lists.{one}
use Rattle.laws.specs.Bits.{bit_at, number, byte, bit_of}
use Rattle.laws.proofs.Bits.{gather-turn, low_of, rest_of, number-bits, number_same, bit-at}

-- ---- one digit

digit_or : (a b : ℕ) → a < 2 → b < 2 → eqb (max a b) 1 ≡ (eqb a 1 || eqb b 1)
digit_or zero zero h k = refl
digit_or zero (suc zero) h k = refl
digit_or (suc zero) zero h k = refl
digit_or (suc zero) (suc zero) h k = refl
digit_or (suc (suc a)) b h k = absurd (omega arith)
digit_or zero (suc (suc b)) h k = absurd (omega arith)
digit_or (suc zero) (suc (suc b)) h k = absurd (omega arith)

digit_and : (a b : ℕ) → a < 2 → b < 2 → eqb (min a b) 1 ≡ (eqb a 1 && eqb b 1)
digit_and zero zero h k = refl
digit_and zero (suc zero) h k = refl
digit_and (suc zero) zero h k = refl
digit_and (suc zero) (suc zero) h k = refl
digit_and (suc (suc a)) b h k = absurd (omega arith)
digit_and zero (suc (suc b)) h k = absurd (omega arith)
digit_and (suc zero) (suc (suc b)) h k = absurd (omega arith)

digit_not : (a : ℕ) → a < 2 → eqb (1 - a) 1 ≡ not (eqb a 1)
digit_not zero h = refl
digit_not (suc zero) h = refl
digit_not (suc (suc a)) h = absurd (omega arith)

-- ---- numbers by their bits

-- two numbers of c bits with the same bits
pub same_bits : (c x y : ℕ) → x < 2 ^ c → y < 2 ^ c → ((j : ℕ) → j < c → bit_at x j ≡ bit_at y j) → x ≡ y
same_bits c x y h k e = sym (number-bits c x h) ∙ number_same c (bit_at x) (bit_at y) e ∙ number-bits c y k

-- a number with these bits is made of them
pub made_of : (c x : ℕ) (p : ℕ → Bool) → x < 2 ^ c → ((j : ℕ) → j < c → bit_at x j ≡ p j) → x ≡ number c p
made_of c x p h e = sym (number-bits c x h) ∙ number_same c (bit_at x) p e

pub bits-zero : (j : ℕ) → bit_at 0 j ≡ false
unfolding bit_at
bits-zero zero = refl
bits-zero (suc j) = bits-zero j

-- a number of c bits has none past them
pub bits-past : (c x j : ℕ) → x < 2 ^ c → c ≤ j → bit_at x j ≡ false
unfolding bit_at
bits-past zero x j h k = ap (λ (y : ℕ). bit_at y j) (let z : x ≡ 0 = omega arith in z) ∙ bits-zero j
bits-past (suc c) x zero h k = absurd (omega arith)
bits-past (suc c) x (suc j) h k = bits-past c (x / 2) j (omega (arith, pow-suc 2 c)) (omega arith)

-- no bit set: the number is 0
pub none-set : (c x : ℕ) → x < 2 ^ c → ((j : ℕ) → j < c → bit_at x j ≡ false) → x ≡ 0
none-set c x h e = same_bits c x 0 h (pow_pos c) (λ j l. e j l ∙ sym (bits-zero j))

-- ---- the operators, bit by bit

pub bits-or : (x y j : ℕ) → bit_at (bit_or x y) j ≡ (bit_at x j || bit_at y j)
unfolding bit_at
bits-or x y zero =
    ap (λ (d : ℕ). eqb d 1) (low_of (bit_or x y) (bit_or (x / 2) (y / 2)) (max (x % 2) (y % 2)) (or_step x y) (omega arith))
    ∙ digit_or (x % 2) (y % 2) (omega arith) (omega arith)
bits-or x y (suc j) =
    ap (λ (r : ℕ). bit_at r j) (rest_of (bit_or x y) (bit_or (x / 2) (y / 2)) (max (x % 2) (y % 2)) (or_step x y) (omega arith))
    ∙ bits-or (x / 2) (y / 2) j

pub bits-and : (x y j : ℕ) → bit_at (bit_and x y) j ≡ (bit_at x j && bit_at y j)
unfolding bit_at
bits-and x y zero =
    ap (λ (d : ℕ). eqb d 1) (low_of (bit_and x y) (bit_and (x / 2) (y / 2)) (min (x % 2) (y % 2)) (and_step x y) (omega arith))
    ∙ digit_and (x % 2) (y % 2) (omega arith) (omega arith)
bits-and x y (suc j) =
    ap (λ (r : ℕ). bit_at r j) (rest_of (bit_and x y) (bit_and (x / 2) (y / 2)) (min (x % 2) (y % 2)) (and_step x y) (omega arith))
    ∙ bits-and (x / 2) (y / 2) j

-- what `!x` gives at c bits
pub bits-not : (c x j : ℕ) → x < 2 ^ c → j < c → bit_at (2 ^ c - 1 - x) j ≡ not (bit_at x j)
unfolding bit_at
bits-not zero x j h k = absurd (omega arith)
bits-not (suc c) x zero h k =
    ap (λ (d : ℕ). eqb d 1) (low_of (2 ^ suc c - 1 - x) (2 ^ c - 1 - x / 2) (1 - x % 2) (omega (arith, pow-suc 2 c)) (omega arith))
    ∙ digit_not (x % 2) (omega arith)
bits-not (suc c) x (suc j) h k =
    ap (λ (r : ℕ). bit_at r j) (rest_of (2 ^ suc c - 1 - x) (2 ^ c - 1 - x / 2) (1 - x % 2) (omega (arith, pow-suc 2 c)) (omega arith))
    ∙ bits-not c (x / 2) j (omega (arith, pow-suc 2 c)) (omega arith)

-- ---- lists of bytes

-- bits after a byte was written: those of that byte, and the others
pub bits-set : (l : List ℕ) (a x j : ℕ) → a < length l → j < 8 → bit_of (set l a x) (8 * a + j) ≡ bit_at x j
bits-set l a x j h g = bit-at (set l a x) a j g ∙ ap (λ (b : ℕ). bit_at b j) (get_or-set_same l a x 0 h)

pub bits-other : (l : List ℕ) (a x k : ℕ) → (k / 8 ≡ a → ⊥) → bit_of (set l a x) k ≡ bit_of l k
unfolding bit_of
bits-other l a x k h = ap (λ (b : ℕ). bit_at b (k % 8)) (get_or-set_other l a (k / 8) x 0 h)

-- ---- marks

-- mark k of a list is up
abbrev pub mark : List ℕ → ℕ → Bool
mark l k = eqb (get_or l k 0) 1

-- one more of the marks of a list l is gathered, x, the last of those that were left
module _ (l left rest : List ℕ) (x : ℕ) (e : left ≡ push rest x) (f : (i : ℕ) → i < length left → get_or left i 0 ≡ get_or l i 0) where
  pub one_less : length left ≡ length rest + 1
  one_less = omega (arith, ap length e, length-append rest (x ∷ []))

  pub still_first : (i : ℕ) → i < length rest → get_or rest i 0 ≡ get_or l i 0
  still_first i h = sym (get_or-append rest (x ∷ []) 0 i h) ∙ ap (λ (m : List ℕ). get_or m i 0) (sym e) ∙ f i (omega (arith, one_less))

  last : x ≡ get_or l (length rest) 0
  last = sym (get_or_push rest x 0 (length rest) refl) ∙ ap (λ (m : List ℕ). get_or m (length rest) 0) (sym e) ∙ f (length rest) (omega (arith, one_less))

  pub joined : (b d : ℕ) → length left ≤ length l → b ≡ number (length l - length left) (λ j. mark l (length left + j)) → d ≡ one (eqb x 1)
      → b * 2 + d ≡ number (length l - length rest) (λ j. mark l (length rest + j))
  joined b d h s t =
      gather-turn (mark l) (length l) (length rest + 1) b d (omega arith) (omega (arith, one_less))
      (s ∙ ap (λ (k : ℕ). number (length l - k) (λ j. mark l (k + j))) one_less)
      (t ∙ ap (λ (y : ℕ). one (eqb y 1)) (last ∙ ap (λ (k : ℕ). get_or l k 0) (let z : length rest ≡ length rest + 1 - 1 = omega arith in z)))
      ∙ ap (λ (k : ℕ). number (length l - k) (λ j. mark l (k + j))) (let z : length rest + 1 - 1 ≡ length rest = omega arith in z)

-- ---- the lowest bits

pub low_is : (u : ℕ) → 1 ≤ u → u ≤ 8 → 255 / 2 ^ (8 - u) ≡ byte (λ j. ltb j u)
unfolding number
low_is zero h k = absurd (omega arith)
low_is (suc zero) h k = refl
low_is (suc (suc zero)) h k = refl
low_is (suc (suc (suc zero))) h k = refl
low_is (suc (suc (suc (suc zero)))) h k = refl
low_is (suc (suc (suc (suc (suc zero))))) h k = refl
low_is (suc (suc (suc (suc (suc (suc zero)))))) h k = refl
low_is (suc (suc (suc (suc (suc (suc (suc zero))))))) h k = refl
low_is (suc (suc (suc (suc (suc (suc (suc (suc zero)))))))) h k = refl
low_is (suc (suc (suc (suc (suc (suc (suc (suc (suc u))))))))) h k = absurd (omega arith)
