-- Levels in dB as words: 8, 6.5, -1.125. A word is a sign or none, digits, and a point among them or none. It is a level if it says whole
-- eighths of a dB, at most 100 dB.
use Rattle.std.specs.Prelude.{Bool, true, false, cond, ◌&&◌, ℕ, ◌+◌, ◌*◌, ◌-◌, ◌/◌, ◌%◌, eqb, ltb, leb, length, get_or, drop, ℤ, pos, ◌-ℤ◌, Option, Some, None}
use mathlib.Core.List.{List, foldl}
use Rattle.laws.specs.Tests.{within}
use Rattle.watch_levels.specs.declared.Decimal.{Decimal}
use Rattle.watch_levels.specs.declared.Level.{Level}

-- nothing read yet
abbrev pub nothing : Decimal
nothing = record { unit = 1000; thousandths = 0; has_digit = false }

-- the first point: behind it a digit is worth a tenth. None: what no level has
unfoldable pub pointed : Decimal → Option Decimal
pointed d = cond (eqb d.unit 1000) (Some (record { unit = 100; thousandths = d.thousandths; has_digit = d.has_digit })) None

-- a digit before the point
abbrev pub whole_digit : ℕ → ℕ → Decimal
whole_digit t k = record { unit = 1000; thousandths = 10 * t + 1000 * k; has_digit = true }

-- a digit behind it: below a thousandth only a 0 can stand
unfoldable pub part_digit : ℕ → ℕ → ℕ → Option Decimal
part_digit u t k = cond (eqb u 0 && ltb 0 k) None (Some (record { unit = u / 10; thousandths = t + u * k; has_digit = true }))

unfoldable pub digit : Decimal → ℕ → Option Decimal
digit d k = cond (eqb d.unit 1000) (Some (whole_digit d.thousandths k)) (part_digit d.unit d.thousandths k)

-- one byte more. Nothing that follows makes a level of what is wrong, or above 100 dB
unfoldable pub step : Option Decimal → ℕ → Option Decimal
step (Some d) b =
    cond (ltb 100000 d.thousandths) None
    (cond (eqb b 46) (pointed d)
    (cond (within 48 57 b) (digit d (b - 48))
    None))
step None b = None

abbrev pub decimal_of : List ℕ → Option Decimal
decimal_of w = foldl step (Some nothing) w

abbrev pub level : Bool → ℕ → Level
level below e = record { is_below = below; eighths = e }

-- whole eighths, 125 thousandths each, 100 dB at most
unfoldable pub whole_eighths : Option Decimal → Bool → Option Level
whole_eighths (Some d) below =
    cond (d.has_digit && leb d.thousandths 100000 && eqb (d.thousandths % 125) 0) (Some (level below (d.thousandths / 125))) None
whole_eighths None below = None

-- 45 is the minus sign
unfoldable pub level_of : List ℕ → Option Level
level_of w =
    cond (eqb (length w) 0) None
    (cond (eqb (get_or w 0 0) 45) (whole_eighths (decimal_of (drop 1 w)) true) (whole_eighths (decimal_of w) false))

-- a level as the gate takes it; of an early one 65535 stands for none
abbrev pub signed_of : Level → ℤ
signed_of l = cond l.is_below (pos 0 -ℤ pos l.eighths) (pos l.eighths)

abbrev pub early_of : Option Level → ℤ
early_of (Some l) = signed_of l
early_of None = pos 65535
