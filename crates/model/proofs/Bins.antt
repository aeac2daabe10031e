-- The floor of a float that two comparisons have bounded, and that a bin is below `bins`. Assumes nothing.
use mathlib.Core.Path.{◌≡◌, refl, sym, subst, ◌∙◌}
use mathlib.Core.Bool.{Bool, true, false, ◌&&◌, ◌||◌}
use Prim.Native.Nat.{ℕ, zero, suc, ◌+◌, ◌*◌, ◌/◌, ◌^◌, ◌<◌, ◌≤◌}
use native.Mathlib.Nat.{div-lt_iff_lt-mul, le-div_iff_mul-le, zero-mul, mul-one, mul-le-mul_right}
use native.Mathlib.Omega.{arith}
use lib.Dec.{T, ltb, eqb}
use lib.IntN.{pos}
use lib.Ieee.{Float, nan, inf, fin, up, down, binary64, add, div, lt, le, eq, to_unsigned}
use lib.Ieee.Fits.{down_pos}
use borrow.Author.Tests.{ltb-true, ltb-false, eqb-true, lt-ltb}
use Rattle.laws.proofs.Tests.{clash, and_l}
use Rattle.model.specs.Numbers.{half}
use Rattle.model.specs.Layout.{depth, bins, last_bin}
use Rattle.model.specs.Ring.{floor_held, bin_of}

-- a test that holds, as a type
pub holds : {b : Bool} → b ≡ true → T b
holds {b} h = subst T (sym h) tt

-- a quotient against a bound, from a product against it
quot-lt : (u d n : ℕ) → 0 < d → u * 1 < n * d → u / d < n
quot-lt u d n dp h = (div-lt_iff_lt-mul dp).1 (omega arith)

quot-ge : (u d n : ℕ) → 0 < d → n * d ≤ u * 1 → n ≤ u / d
quot-ge u d n dp h = (le-div_iff_mul-le dp).1 (omega arith)

abbrev fzero : Float
fzero = fin false 0 (pos 0)

-- What `truncating_f64_to_u64` asks of z, and that its whole part is the floor held to top.
pub record Between (z : Float) (top : ℕ) : Type 0 where
  pub low : T (lt (fin true 1 (pos 0)) z)
  pub high : T (lt z (fin false 1 (pos 64)))
  pub whole : to_unsigned 64 z ≡ floor_held top z
  pub small : to_unsigned 64 z ≤ top

-- 0 is at most any magnitude
pub nonneg : (u d : ℕ) → (ltb (0 * d) (u * 1) || (eqb (0 * d) (u * 1) && true)) ≡ true
nonneg zero d = simp zero-mul
nonneg (suc u) d = simp (zero-mul, mul-one, lt-ltb 0 (suc u) (omega arith))

-- a negative number that is 0 or more is -0
pub minus-zero : (u d : ℕ) → (eqb (0 * d) (u * 1) && eqb (0 * d) 0) ≡ true → u ≡ 0
minus-zero u d h =
    let k = eqb-true (0 * d) (u * 1) (and_l (eqb (0 * d) (u * 1)) (eqb (0 * d) 0) h) in
    omega (arith, k, zero-mul d)

-- Tests against 0 and against the literal m0 * 2 ^ j, which is suc top.
module _ (m0 j top : ℕ) (num : m0 * 2 ^ j ≡ suc top) (fits : suc top ≤ 2 ^ 64) where
  pub between : (z : Float) → le fzero z ≡ true → lt z (fin false m0 (pos j)) ≡ true → Between z top
  unfolding le lt eq to_unsigned floor_held
  between nan a b = clash (sym a)
  between (inf true) a b = clash (sym a)
  between (inf false) a b = clash (sym b)
  between (fin true m e) a b =
      let z : m * up e ≡ 0 = minus-zero (m * up e) (down e) a in
      let d : 0 < down e = down_pos e in record {
        low = holds (lt-ltb (m * up e * 1) (1 * down e) (omega arith));
        high = holds (lt-ltb 0 (m * up e * 1 + 2 ^ 64 * down e) (omega arith));
        whole = refl;
        small = omega arith;
      }
  between (fin false m e) a b =
      let d : 0 < down e = down_pos e in
      let lim : m * up e * 1 < suc top * down e = rw num at (ltb-true (m * up e * 1) (m0 * 2 ^ j * down e) b) in
      let q : m * up e / down e < suc top = quot-lt (m * up e) (down e) (suc top) d lim in
      let w : suc top * down e ≤ 2 ^ 64 * down e = mul-le-mul_right (down e) fits in record {
        low = holds (lt-ltb 0 (1 * down e + m * up e * 1) (omega arith));
        high = holds (lt-ltb (m * up e * 1) (2 ^ 64 * down e) (omega arith));
        whole = omega arith;
        small = omega arith;
      }

  pub above : (z : Float) → le fzero z ≡ true → lt z (fin false m0 (pos j)) ≡ false → floor_held top z ≡ top
  unfolding le lt eq floor_held
  above nan a b = clash (sym a)
  above (inf true) a b = clash (sym a)
  above (inf false) a b = refl
  above (fin true m e) a b =
      let d : 0 < down e = down_pos e in
      let lim : m * up e * 1 + suc top * down e ≤ 0 = rw num at (ltb-false 0 (m * up e * 1 + m0 * 2 ^ j * down e) b) in
      let w : 1 * down e ≤ suc top * down e = mul-le-mul_right (down e) (omega arith) in
      omega arith
  above (fin false m e) a b =
      let d : 0 < down e = down_pos e in
      let lim : suc top * down e ≤ m * up e * 1 = rw num at (ltb-false (m * up e * 1) (m0 * 2 ^ j * down e) b) in
      let q : suc top ≤ m * up e / down e = quot-ge (m * up e) (down e) (suc top) d lim in
      omega arith

pub below : (top : ℕ) (z : Float) → le fzero z ≡ false → floor_held top z ≡ 0
unfolding le lt eq floor_held
below top nan a = refl
below top (inf true) a = refl
below top (inf false) a = clash a
below top (fin true m e) a = refl
below top (fin false m e) a = clash (sym (nonneg (m * up e) (down e)) ∙ a)

pub floor-le : (top : ℕ) (z : Float) → floor_held top z ≤ top
unfolding floor_held
floor-le top nan = omega arith
floor-le top (inf true) = omega arith
floor-le top (inf false) = omega arith
floor-le top (fin true m e) = omega arith
floor-le top (fin false m e) = omega arith

pub bin-below : (p : Float) → bin_of p < bins
unfolding bin_of
bin-below p = omega (arith, floor-le last_bin (div binary64 (add binary64 p depth) half))
