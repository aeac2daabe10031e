-- The test of a map looks at the last byte of each group. Assumes nothing.
use mathlib.Core.Path.{◌≡◌, sym, ap, ap₂, ◌∙◌, fun_ext}
use mathlib.Core.Bool.{Bool, true, false, ◌&&◌, and_comm}
use mathlib.Core.List.{List}
use Prim.Native.Nat.{ℕ, ◌+◌, ◌-◌, ◌*◌, ◌<◌, ◌≤◌}
use native.Mathlib.Omega.{arith}
use lib.Dec.{eqb, ltb}
use lib.ListN.{length, get_or, replicate, length-replicate, get_or-replicate}
use lib.Seq.{ext_get_or}
use lib.Bits.{bit_and, and_lt}
use borrow.Author.Tests.{eq-eqb, eqb-true, le-ltb, ltb-false}
use Rattle.laws.specs.Lists.{tab}
use Rattle.laws.proofs.Tests.{by-test, both_ways}
use Rattle.laws.proofs.Tabs.{length-tab, get_d-tab}
use Rattle.laws.specs.Bits.{bit_at, byte, width, bit_of}
use Rattle.laws.proofs.Bits.{number_lt, bits-number, bit-at}
use Rattle.bits.proofs.Operators.{same_bits, bits-and}
use Rattle.model.specs.Map.{rise_flag, drop_flag, mask_bit, none_past, sound_map}
use Rattle.model.proofs.MapSound.{past-none, none_is_past}

-- the last byte of the group that begins at byte a: last is that byte
module _ (n : ℕ) (m : List ℕ) (a last low : ℕ) (h : 1 ≤ n) (x : last ≡ get_or m (a + (width n - 1)) 0) (lt : last < 256)
    (e : low ≡ byte (λ j. ltb j (n + 8 - 8 * width n))) where
  bit-low : (j : ℕ) → j < 8 → bit_at low j ≡ ltb j (n + 8 - 8 * width n)
  bit-low j l = ap (λ (x : ℕ). bit_at x j) e ∙ bits-number 8 (λ j. ltb j (n + 8 - 8 * width n)) j l

  -- its bit j is a bit of the group
  bit-last : (j : ℕ) → j < 8 → bit_at last j ≡ bit_of m (8 * a + (8 * (width n - 1) + j))
  bit-last j l =
      ap (λ (b : ℕ). bit_at b j) x
      ∙ sym (bit-at m (a + (width n - 1)) j l)
      ∙ ap (bit_of m) (let z : 8 * (a + (width n - 1)) + j ≡ 8 * a + (8 * (width n - 1) + j) = omega arith in z)

  clean-none : eqb (bit_and last low) last ≡ true → (k : ℕ) → n ≤ k → k < 8 * width n → bit_of m (8 * a + k) ≡ false
  clean-none c k g l =
      let j : ℕ = k - 8 * (width n - 1) in
      ap (λ (i : ℕ). bit_of m (8 * a + i)) (let z : k ≡ 8 * (width n - 1) + j = omega arith in z)
      ∙ sym (bit-last j (omega arith))
      ∙ ap (λ (x : ℕ). bit_at x j) (sym (eqb-true (bit_and last low) last c))
      ∙ bits-and last low j
      ∙ ap (λ (s : Bool). bit_at last j && s) (bit-low j (omega arith) ∙ le-ltb j (n + 8 - 8 * width n) (omega arith))
      ∙ and_comm (bit_at last j) false

  none-clean : ((k : ℕ) → n ≤ k → k < 8 * width n → bit_of m (8 * a + k) ≡ false) → eqb (bit_and last low) last ≡ true
  none-clean c =
      eq-eqb (bit_and last low) last
      (same_bits 8 (bit_and last low) last (and_lt 8 last low lt (omega (arith, e, number_lt 8 (λ j. ltb j (n + 8 - 8 * width n))))) lt
      (λ j l.
      bits-and last low j
      ∙ by-test (ltb j (n + 8 - 8 * width n))
      (λ t. ap (λ (s : Bool). bit_at last j && s) (bit-low j l ∙ t) ∙ and_comm (bit_at last j) true)
      (λ t.
      let z : bit_at last j ≡ false =
      bit-last j l ∙ c (8 * (width n - 1) + j) (omega (arith, ltb-false j (n + 8 - 8 * width n) t)) (omega arith) in
      rw z)))

  pub last-clean : eqb (bit_and last low) last ≡ none_past n (λ k. bit_of m (8 * a + k))
  last-clean =
      both_ways (eqb (bit_and last low) last) (none_past n (λ k. bit_of m (8 * a + k)))
      (λ c. none_is_past n (λ k. bit_of m (8 * a + k)) (clean-none c))
      (λ c. none-clean (λ k g l. past-none n (λ k. bit_of m (8 * a + k)) k c g l))

-- the test of the three last bytes
pub sound_is : (n : ℕ) (m : List ℕ) (x y z low : ℕ) → 1 ≤ n → low ≡ byte (λ j. ltb j (n + 8 - 8 * width n))
    → x ≡ get_or m (width n - 1) 0 → y ≡ get_or m (width n + width n - 1) 0 → z ≡ get_or m (width n + width n + width n - 1) 0
    → x < 256 → y < 256 → z < 256
    → (eqb (bit_and x low) x && eqb (bit_and y low) y && eqb (bit_and z low) z) ≡ sound_map n m
unfolding sound_map rise_flag drop_flag mask_bit
sound_is n m x y z low h e f g k lx ly lz =
    ap₂ (λ (s t : Bool). s && t)
    (ap₂ (λ (s t : Bool). s && t)
    (last-clean n m 0 x low h (f ∙ ap (λ (i : ℕ). get_or m i 0) (omega arith)) lx e
    ∙ ap (none_past n) (fun_ext (λ k. ap (bit_of m) (let q : 8 * 0 + k ≡ k = omega arith in q))))
    (last-clean n m w y low h (g ∙ ap (λ (i : ℕ). get_or m i 0) (omega arith)) ly e))
    (last-clean n m (w + w) z low h (k ∙ ap (λ (i : ℕ). get_or m i 0) (omega arith)) lz e)
  where
    w : ℕ
    w = width n

-- the same, of the bytes as the code finds them
module _ (n : ℕ) (m : List ℕ) (w low : ℕ) where
  abbrev pub clean_at : ℕ → Bool
  clean_at i = let x = get_or m i 0 in
      eqb (bit_and x low) x

  pub whole : 1 ≤ n → w ≡ width n → low ≡ byte (λ j. ltb j (n - 8 * (w - 1))) → ((i : ℕ) → get_or m i 0 < 256)
      → (clean_at (w - 1) && clean_at (w + w - 1) && clean_at (w + w + w - 1)) ≡ sound_map n m
  whole h d e lt =
      sound_is n m (get_or m (w - 1) 0) (get_or m (w + w - 1) 0) (get_or m (w + w + w - 1) 0) low h
      (e ∙ ap (λ (v : ℕ). byte (λ j. ltb j v)) (let z : n - 8 * (w - 1) ≡ n + 8 - 8 * width n = omega (arith, d) in z))
      (ap (λ (v : ℕ). get_or m (v - 1) 0) d)
      (ap (λ (v : ℕ). get_or m (v + v - 1) 0) d)
      (ap (λ (v : ℕ). get_or m (v + v + v - 1) 0) d)
      (lt (w - 1))
      (lt (w + w - 1))
      (lt (w + w + w - 1))

-- ---- making

pub all-zero : (l : List ℕ) (n : ℕ) → l ≡ tab n (λ k. 0) → l ≡ replicate n 0
all-zero l n e =
    e
    ∙ ext_get_or 0 (tab n (λ k. 0)) (replicate n 0) (length-tab n (λ k. 0) ∙ sym (length-replicate n 0))
    (λ i h. (let lt : i < n = omega (arith, length-tab {A = ℕ} n (λ k. 0)) in
    get_d-tab n (λ k. 0) i 0 lt ∙ sym (get_or-replicate n i 0 0 lt)))
