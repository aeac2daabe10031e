-- Document 01, "Carried over from manta": the numbers, over the logic's account of IEEE 754 (`lib.Ieee`), where all NaNs are one value.
-- A literal stands as the bit pattern that the compiler gives it; the line below each says which decimal that is, rounded to binary64.
use Rattle.std.specs.Prelude.{◌≡◌, refl, false, cond, Float}
use Rattle.std.specs.Float.{binary64}
use Rattle.std.specs.Float.Ieee.{add, sub, mul, lt, is_nan, of_bits, round}

abbrev pub f0 : Float
f0 = of_bits binary64 0

abbrev pub half : Float
half = of_bits binary64 0x3fe0_0000_0000_0000

half_is : half ≡ round binary64 false 1 2
unfolding of_bits round
half_is = refl

abbrev pub f3 : Float
f3 = of_bits binary64 0x4008_0000_0000_0000

f3_is : f3 ≡ round binary64 false 3 1
unfolding of_bits round
f3_is = refl

-- 3.8
abbrev pub seed_offset : Float
seed_offset = of_bits binary64 0x400e_6666_6666_6666

seed_offset_is : seed_offset ≡ round binary64 false 38 10
unfolding of_bits round
seed_offset_is = refl

-- 0.0645
abbrev pub alpha : Float
alpha = of_bits binary64 0x3fb0_8312_6e97_8d50

alpha_is : alpha ≡ round binary64 false 645 10000
unfolding of_bits round
alpha_is = refl

-- 1e-20
abbrev pub epsilon : Float
epsilon = of_bits binary64 0x3bc7_9ca1_0c92_4223

epsilon_is : epsilon ≡ round binary64 false 1 100000000000000000000
unfolding of_bits round
epsilon_is = refl

-- power_linear = widened power + 1e-20. A power is an f32 and the same number as an f64, so widening it changes nothing here
abbrev pub power_linear : Float → Float
power_linear p = add binary64 p epsilon

-- s + 0.0645 × (x - s), each operation rounded
abbrev pub smoothed : Float → Float → Float
smoothed s x = add binary64 s (mul binary64 alpha (sub binary64 x s))

-- Minimum and maximum pass over a NaN if the other side is a number. Of two equal values, zeros of either sign among them, the first stays
abbrev pub fmin : Float → Float → Float
fmin a b = cond (is_nan a) b (cond (lt b a) b a)

abbrev pub fmax : Float → Float → Float
fmax a b = cond (is_nan a) b (cond (lt a b) b a)
