-- The marks of eight channels as a byte of flags, and the two groups of flags one after the other. Assumes nothing.
use mathlib.Core.Path.{◌≡◌, sym, ap, ap₂, ◌∙◌}
use mathlib.Core.Bool.{Bool, ◌||◌}
use mathlib.Core.List.{List, ◌++◌, append_assoc}
use Prim.Native.Nat.{ℕ, ◌+◌, ◌-◌, ◌*◌, ◌<◌, ◌≤◌, min}
use native.Mathlib.Nat.{zero-add}
use native.Mathlib.Omega.{arith}
use lib.Dec.{eqb, ltb}
use lib.ListN.{length, get_or, drop, length-drop, get_or-eq_default}
use lib.Seq.{take_all}
use lib.Bits.{bit_or, or_lt}
use lib.Pow.{pow_mono}
use borrow.Author.Tests.{ltb-true, ltb-false}
use Rattle.laws.specs.Lists.{part, splice, tab}
use Rattle.laws.proofs.Tests.{by-test}
use Rattle.laws.proofs.Lists.{length_part, get_d_part, part-past, splice-more}
use Rattle.laws.specs.Bits.{bit_at, number, byte, width, bit_of, bytes_of}
use Rattle.laws.proofs.Bits.{number_lt, number_same, bits-number, bit-at}
use Rattle.bits.proofs.Operators.{made_of, bits-past, bits-or}
use Rattle.model.specs.Map.{map_long, marked, flags_set, marks_set}
use Rattle.model.proofs.MapFlags.{long-flags}

-- ---- the marks

-- the marks a..a + w, cut out and gathered
pub of_part : (l : List ℕ) (a w : ℕ) → a + w ≤ length l → number (length (part a w l)) (marked (part a w l)) ≡ number w (λ j. marked l (a + j))
of_part l a w h =
    ap (λ (n : ℕ). number n (marked (part a w l))) (length_part a w l h)
    ∙ number_same w (marked (part a w l)) (λ j. marked l (a + j)) (λ j k. ap (λ (x : ℕ). eqb x 1) (get_d_part a w l j 0 k))

-- byte i of the flags once the marks of its channels, gathered, are set
module _ (l marks : List ℕ) (i to b : ℕ) (e : to ≡ min (8 * i + 8) (length marks)) (g : 8 * i ≤ to) (f : b ≡ number (to - 8 * i) (λ j. marked marks (8 * i + j))) where
  gathered-lt : b < 256
  gathered-lt = omega (arith, f, number_lt (to - 8 * i) (λ j. marked marks (8 * i + j)), pow_mono {i = to - 8 * i} {j = 8} (omega arith))

  bit-gathered : (j : ℕ) → j < 8 → bit_at b j ≡ marked marks (8 * i + j)
  bit-gathered j h =
      by-test (ltb j (to - 8 * i))
      (λ t. ap (λ (x : ℕ). bit_at x j) f ∙ bits-number (to - 8 * i) (λ j. marked marks (8 * i + j)) j (ltb-true j (to - 8 * i) t))
      (λ t.
      let past : to - 8 * i ≤ j = ltb-false j (to - 8 * i) t in
      ap (λ (x : ℕ). bit_at x j) f
      ∙ bits-past (to - 8 * i) (number (to - 8 * i) (λ j. marked marks (8 * i + j))) j (number_lt (to - 8 * i) (λ j. marked marks (8 * i + j))) past
      ∙ ap (λ (x : ℕ). eqb x 1) (sym (get_or-eq_default marks 0 {n = 8 * i + j} (omega arith))))

  pub byte-set : get_or l i 0 < 256 → bit_or (get_or l i 0) b ≡ byte (λ j. bit_of l (8 * i + j) || marked marks (8 * i + j))
  byte-set h =
      made_of 8 (bit_or (get_or l i 0) b) (λ j. bit_of l (8 * i + j) || marked marks (8 * i + j)) (or_lt 8 (get_or l i 0) b h gathered-lt)
      (λ j k. bits-or (get_or l i 0) b j ∙ ap₂ (λ (x y : Bool). x || y) (sym (bit-at l i j k)) (bit-gathered j k))

pub flags-set : (l marks r : List ℕ) → r ≡ tab (length l) (λ i. byte (λ j. bit_of l (8 * i + j) || marked marks (8 * i + j))) → r ≡ flags_set l marks
unfolding flags_set bytes_of
flags-set l marks r e = e

-- the flags of both groups set, one group after the other
pub marks-set : (n : ℕ) (m rise fall p q : List ℕ) → length m ≡ map_long n → p ≡ flags_set (part 0 (width n) m) rise
    → q ≡ flags_set (part (width n) (width n) (splice 0 (width n) m p)) fall
    → splice (width n) (width n) (splice 0 (width n) m p) q ≡ marks_set n m rise fall
unfolding marks_set
marks-set n m rise fall p q e f g =
    ap (λ (a : ℕ). splice a w (splice 0 w m p) q) (sym (zero-add w))
    ∙ splice-more 0 w w m p q (omega arith) lp
    ∙ append_assoc p q (drop (w + w) m)
    ∙ ap₂ (λ (x y : List ℕ). x ++ y) f
    (ap₂ (λ (x y : List ℕ). x ++ y)
    (g ∙ ap (λ (l : List ℕ). flags_set l fall) (part-past 0 w w w m p lp (omega arith) (omega arith)))
    (sym (take_all w (drop (w + w) m) (omega (arith, length-drop (w + w) m)))))
  where
    w : ℕ
    w = width n

    lp : length p ≡ w
    lp = ap length f ∙ long-flags (part 0 w m) rise ∙ length_part 0 w m (omega arith)

-- the same, of the widths that the code has
pub marks-set-by : (n : ℕ) (m rise fall p q : List ℕ) (w u v : ℕ) → w ≡ width n → u ≡ width n → v ≡ width n → length m ≡ map_long n
    → p ≡ flags_set (part 0 u m) rise → q ≡ flags_set (part w v (splice 0 u m p)) fall → splice w v (splice 0 u m p) q ≡ marks_set n m rise fall
marks-set-by n m rise fall p q w u v ew eu ev e f g =
    let a : splice w v (splice 0 u m p) q ≡ splice (width n) (width n) (splice 0 (width n) m p) q = λ i. splice (ew i) (ev i) (splice 0 (eu i) m p) q in
    let b : part w v (splice 0 u m p) ≡ part (width n) (width n) (splice 0 (width n) m p) = λ i. part (ew i) (ev i) (splice 0 (eu i) m p) in
    a ∙ marks-set n m rise fall p q e (f ∙ ap (λ (k : ℕ). flags_set (part 0 k m) rise) eu) (g ∙ ap (λ (l : List ℕ). flags_set l fall) b)
