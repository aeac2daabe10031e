-- Floats as people read them.
use Rattle.std.specs.Prelude.{ℕ, zero, suc, ◌+◌, ◌/◌, Bool, true, false, cond, ◌&&◌, List, [], ◌∷◌, ◌++◌, from_bits, nat_lt, Float}
use Rattle.std.specs.Float.{binary64}
use Rattle.std.specs.Float.Ieee.{add, mul, neg, lt, ne, to_unsigned}
use Rattle.laws.specs.Texts.{ascii}
use Rattle.watch_text.specs.Text.{glyph, hundredths}
use Rattle.watch_floats.specs.declared.Scaled.{Scaled}
use Rattle.watch_floats.specs.declared.Shown.{Shown}
use Rattle.watch_floats.specs.declared.Shown.TheVariants.{NotANumber, Number, Far}

-- the literals 100, 10, 1, 0.5, 2^64, -1 and 0
abbrev pub f100 : Float
f100 = from_bits binary64 0x4059000000000000

abbrev pub f10 : Float
f10 = from_bits binary64 0x4024000000000000

abbrev pub f1 : Float
f1 = from_bits binary64 0x3ff0000000000000

abbrev pub f05 : Float
f05 = from_bits binary64 0x3fe0000000000000

abbrev pub f2to64 : Float
f2to64 = from_bits binary64 0x43f0000000000000

abbrev pub f_minus1 : Float
f_minus1 = neg (from_bits binary64 0x3ff0000000000000)

abbrev pub f0 : Float
f0 = from_bits binary64 0

-- a size in hundredths, rounded to the nearest, a half up
abbrev pub scaled : Float → Float
scaled x = add binary64 (mul binary64 x f100) f05

abbrev pub choose : Bool → Shown → Shown → Shown
choose true a b = a
choose false a b = b

-- hundredths, where there are fewer than 2^64
abbrev pub sized : Bool → Float → Shown
sized below x =
    choose (lt f_minus1 (scaled x))
    (choose (lt (scaled x) f2to64) (Number below (to_unsigned 64 (scaled x))) (Far below))
    (Far below)

-- by its size and its sign
abbrev pub shown_as : Float → Shown
shown_as x = choose (ne x x) NotANumber (choose (lt x f0) (sized true (neg x)) (sized false x))

-- a level in dB with two decimals, or a word where it is no number or too far from 0
abbrev pub far : Bool → List ℕ
far true = ascii "-inf"
far false = ascii "inf"

abbrev pub shown_text : Shown → List ℕ
shown_text NotANumber = ascii "nan"
shown_text (Number below h) = hundredths below h
shown_text (Far below) = far below

unfoldable pub db_text : Float → List ℕ
db_text x = shown_text (shown_as x)

-- ten times as much until it is 1 or more, so many times at most
unfoldable pub scaled_up : ℕ → Scaled → Scaled
scaled_up zero s = s
scaled_up (suc k) s = cond (lt s.x f1) (scaled_up k (record { x = mul binary64 s.x f10; tens = s.tens + 1 })) s

-- a power below 1: no float needs 330 times
unfoldable pub scale_of : Float → Scaled
scale_of p = scaled_up 330 (record { x = p; tens = 0 })

-- two digits, or three where two do not hold it
abbrev pub exponent : ℕ → List ℕ
exponent n = cond (nat_lt n 100) (glyph (n / 10) ∷ glyph n ∷ []) (glyph (n / 100) ∷ glyph (n / 10) ∷ glyph n ∷ [])

unfoldable pub scaled_text : Scaled → List ℕ
scaled_text s = db_text s.x ++ (ascii "e-" ++ exponent s.tens)

-- a linear power: as it is from 1 on, else as 4.56e-12
unfoldable pub power_text : Float → List ℕ
power_text x = cond (lt f0 x && lt x f1) (scaled_text (scale_of x)) (db_text x)
