-- A louder dB has no lower bin, and a higher bin no lower centre: for any bottom, any width above zero and any top bin. Assumes nothing.
use mathlib.Core.Path.{◌≡◌}
use mathlib.Core.Bool.{Bool, true, false}
use Prim.Native.Nat.{ℕ, ◌*◌, ◌≤◌}
use native.Mathlib.Nat.{zero-mul}
use native.Mathlib.Omega.{arith}
use lib.Dec.{T}
use lib.IntN.{ℤ, pos}
use lib.Ieee.{Float, fin, Format, binary64, up, down, neg, add, mul, div, le, of_int, of_bits, odd, of_fields}
use lib.Count.{count_trailing_zeros}
use lib.Ieee.Fits.{down_pos}
use lib.Ieee.Nearest.{div_mono}
use lib.Ieee.Scale.{finite}
use lib.Ieee.Positive.{positive}
use Rattle.laws.proofs.Rounding.{AtMost, vanish, Ordered, lowest, highest, finites, ordered, add-rises, add_swaps, mul-rises, div-rises, of_int-rises}
use Rattle.model.specs.Numbers.{half}
use Rattle.model.specs.Layout.{hist_min}
use Rattle.model.specs.Ring.{floor_held, bin_of, centre_of}
use Rattle.model.proofs.Bins.{floor-le}

-- ---- the floor

floor-finite : (top : ℕ) (s t : Bool) (m n : ℕ) (e d : ℤ) → AtMost s (m * up e * down d) t (n * up d * down e)
    → floor_held top (fin s m e) ≤ floor_held top (fin t n d)
unfolding floor_held
floor-finite top true t m n e d h = omega arith
floor-finite top false true m n e d h =
    let z : m * up e ≡ 0 = vanish (m * up e) (down d) (n * up d) (down e) (down_pos d) (omega arith) in
    omega (arith, div_mono (m * up e) (down e) 0 1 (down_pos e) (omega arith) (omega (arith, zero-mul (down e))))
floor-finite top false false m n e d h =
    omega (arith, div_mono (m * up e) (down e) (n * up d) (down d) (down_pos e) (down_pos d) (omega arith))

floor-ordered : (top : ℕ) {x y : Float} → Ordered x y → floor_held top x ≤ floor_held top y
floor-ordered top (lowest h) = (unfold floor_held in omega arith)
floor-ordered top (highest {x} h) = (unfold floor_held in floor-le top x)
floor-ordered top (finites {s} {t} {m} {n} {e} {d} h) = floor-finite top s t m n e d h

pub floor-rises : (top : ℕ) (x y : Float) → le x y ≡ true → floor_held top x ≤ floor_held top y
floor-rises top x y h = floor-ordered top (ordered x y h)

-- ---- bin and centre: over the bottom, the width and the top bin, in any format

module _ (f : Format) (width : Float) (wide : T (positive width)) where
  -- the floor of (p + shift) / width held to 0..top
  pub bin-rises : (shift : Float) (top : ℕ) → T (finite shift) → (p q : Float) → le p q ≡ true
      → floor_held top (div f (add f p shift) width) ≤ floor_held top (div f (add f q shift) width)
  bin-rises shift top k p q h =
      floor-rises top (div f (add f p shift) width) (div f (add f q shift) width)
      (div-rises f width wide (add f p shift) (add f q shift) (add-rises f shift k p q h))

  -- bottom + (b + c) × width
  pub centre-rises : (bottom c : Float) → T (finite bottom) → T (finite c) → (a b : ℕ) → a ≤ b
      → le (add f bottom (mul f (add f (of_int f (pos a)) c) width)) (add f bottom (mul f (add f (of_int f (pos b)) c) width)) ≡ true
  centre-rises bottom c k l a b h =
      let x : ℕ → Float = λ i. mul f (add f (of_int f (pos i)) c) width in
      rw (add_swaps f bottom (x a), add_swaps f bottom (x b))
      (add-rises f bottom k (x a) (x b)
      (mul-rises f width wide (add f (of_int f (pos a)) c) (add f (of_int f (pos b)) c) (add-rises f c l (of_int f (pos a)) (of_int f (pos b)) (of_int-rises f a b h))))

-- ---- those of document 01

half-wide : T (positive half)
unfolding of_bits odd of_fields count_trailing_zeros
half-wide = tt

pub louder-bin : (p q : Float) → le p q ≡ true → bin_of p ≤ bin_of q
unfolding bin_of of_bits odd of_fields count_trailing_zeros
louder-bin p q h = bin-rises binary64 half half-wide _ _ tt p q h

pub higher-centre : (a b : ℕ) → a ≤ b → le (centre_of a) (centre_of b) ≡ true
unfolding of_bits odd of_fields count_trailing_zeros neg
higher-centre a b h = centre-rises binary64 half half-wide hist_min half tt tt a b h
