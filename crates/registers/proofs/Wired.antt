-- The wire, from the bytes of the three groups. Assumes nothing.
use mathlib.Core.Path.{◌≡◌, sym, ap, ap₂, ◌∙◌}
use mathlib.Core.Bool.{Bool, true, false, not, ◌&&◌, ◌||◌, and_comm}
use mathlib.Core.List.{List}
use Prim.Native.Nat.{ℕ, ◌+◌, ◌*◌, ◌/◌, ◌%◌, ◌<◌}
use native.Mathlib.Omega.{arith}
use lib.Dec.{eqb, ltb}
use lib.ListN.{get_or}
use lib.Bits.{bit_and, bit_or, and_lt, or_lt}
use borrow.Author.Tests.{eq-eqb, eqb-true, not-false, ltb-true, ltb-false}
use Rattle.laws.specs.Tests.{any_below}
use Rattle.laws.proofs.Tests.{by-test, clash, both_ways, any_none, none_any}
use Rattle.laws.specs.Bits.{bit_at, width, bit_of}
use Rattle.laws.proofs.Bits.{bit-at}
use Rattle.bits.proofs.Operators.{bits-zero, none-set, bits-or, bits-and}
use Rattle.model.specs.Map.{rise_flag, drop_flag, mask_bit, wire, sound_map}
use Rattle.model.proofs.MapSound.{no-mask-past}

-- a flag of channel k and its mask bit
abbrev pub calls : ℕ → List ℕ → ℕ → Bool
calls n m k = (rise_flag n m k || drop_flag n m k) && mask_bit n m k

-- byte i of the flags of both groups, where their mask bits are 1
abbrev pub called : ℕ → List ℕ → ℕ → ℕ
called n m i = bit_and (bit_or (get_or m i 0) (get_or m (width n + i) 0)) (get_or m (width n + width n + i) 0)

bit-called : (n : ℕ) (m : List ℕ) (i j : ℕ) → j < 8 → bit_at (called n m i) j ≡ calls n m (8 * i + j)
unfolding rise_flag drop_flag mask_bit
bit-called n m i j l =
    bits-and (bit_or (get_or m i 0) (get_or m (w + i) 0)) (get_or m (w + w + i) 0) j
    ∙ ap₂ (λ (a b : Bool). a && b)
    (bits-or (get_or m i 0) (get_or m (w + i) 0) j
    ∙ ap₂ (λ (a b : Bool). a || b) (sym (bit-at m i j l))
    (sym (bit-at m (w + i) j l) ∙ ap (bit_of m) (let q : 8 * (w + i) + j ≡ 8 * w + (8 * i + j) = omega arith in q)))
    (sym (bit-at m (w + w + i) j l) ∙ ap (bit_of m) (let q : 8 * (w + w + i) + j ≡ 8 * (w + w) + (8 * i + j) = omega arith in q))
  where
    w : ℕ
    w = width n

module _ (n : ℕ) (m : List ℕ) (lt : (k : ℕ) → get_or m k 0 < 256) where
  called-lt : (i : ℕ) → called n m i < 256
  called-lt i =
      and_lt 8 (bit_or (get_or m i 0) (get_or m (width n + i) 0)) (get_or m (width n + width n + i) 0)
      (or_lt 8 (get_or m i 0) (get_or m (width n + i) 0) (lt i) (lt (width n + i))) (lt (width n + width n + i))

  -- the bytes have a bit where a channel calls
  pub wire_is : sound_map n m ≡ true → any_below (width n) (λ i. not (eqb (called n m i) 0)) ≡ wire n m
  unfolding wire
  wire_is s =
      both_ways (any_below (width n) byte_up) (any_below n (calls n m))
      (λ b. by-test (any_below n (calls n m)) (λ t. t) (λ t. clash (sym b ∙ none_any byte_up (width n) (down t))))
      (λ b. by-test (any_below (width n) byte_up) (λ t. t) (λ t. clash (sym b ∙ none_any (calls n m) n (quiet t))))
    where
      byte_up : ℕ → Bool
      byte_up i = not (eqb (called n m i) 0)

      -- no byte has a bit: no channel calls
      quiet : any_below (width n) byte_up ≡ false → (k : ℕ) → k < n → calls n m k ≡ false
      quiet t k l =
          ap (calls n m) (let q : k ≡ 8 * (k / 8) + k % 8 = omega arith in q)
          ∙ sym (bit-called n m (k / 8) (k % 8) (omega arith))
          ∙ ap (λ (x : ℕ). bit_at x (k % 8)) (eqb-true (called n m (k / 8)) 0 (not-false _ (any_none byte_up (width n) (k / 8) t (omega arith))))
          ∙ bits-zero (k % 8)

      -- no channel calls: nor does a bit past them
      silent : any_below n (calls n m) ≡ false → (k : ℕ) → k < 8 * width n → calls n m k ≡ false
      silent t k l =
          by-test (ltb k n) (λ g. any_none (calls n m) n k t (ltb-true k n g))
          (λ g. (let z : mask_bit n m k ≡ false = no-mask-past n m s k (ltb-false k n g) l in
          ap (λ (b : Bool). (rise_flag n m k || drop_flag n m k) && b) z ∙ and_comm (rise_flag n m k || drop_flag n m k) false))

      down : any_below n (calls n m) ≡ false → (i : ℕ) → i < width n → byte_up i ≡ false
      down t i l =
          ap not (eq-eqb (called n m i) 0 (none-set 8 (called n m i) (called-lt i) (λ j g. bit-called n m i j g ∙ silent t (8 * i + j) (omega arith))))
