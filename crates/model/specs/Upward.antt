-- R-5, "thresholds rounded upward": what the ladder's rounding means, for every f64. The proofs are `exact`, `least`, `on-a-rung` and
-- `never-below` in proofs/Upward.antt.
use Rattle.std.specs.Prelude.{◌≡◌, refl, true, false, List, [], ◌∷◌, ℕ, suc, ◌+◌, ◌-◌, ◌*◌, ◌≤◌, T, ℤ, pos, negsuc, Float}
use Rattle.std.specs.Float.{nan, inf, fin, binary64}
use Rattle.std.specs.Float.Ieee.{neg, mul, lt, le, eq, is_nan, fits, minus, of_bits, round}
use Rattle.model.specs.Layout.{ladder_min_bits, ladder_max_bits, rungs_below, rungs_above}
use Rattle.model.specs.Ring.{floor_held}
use Rattle.model.specs.Ladder.{f8, held, ceil_held, rung, ladder}
use Rattle.model.specs.LadderBefore.{ladder_before}

-- the whole number i, and 8 times a number: written down, not rounded
abbrev pub whole : ℤ → Float
whole (pos n) = fin false n (pos 0)
whole (negsuc n) = fin true (suc n) (pos 0)

abbrev pub eight_times : Float → Float
eight_times nan = nan
eight_times (inf t) = inf t
eight_times (fin t m e) = fin t (8 * m) e

-- the IEEE product 8 × s, for s as held
abbrev pub eighths : Float → Float
eighths s = mul binary64 f8 (held s)

-- 8 × s is exact
abbrev pub Exact : Type 0
Exact = (s : Float) → T (fits binary64 s) → is_nan s ≡ false → eq (eighths s) (eight_times (held s)) ≡ true

-- The rung is the least one: i - 1 < 8s ≤ i, for the rung i + rungs_below
pub record LeastAt (z : Float) (r : ℕ) : Type 0 where
  pub on_the_ladder : r ≤ rungs_below + rungs_above
  pub is_not_below : le z (whole (minus r rungs_below)) ≡ true
  pub no_less : lt (whole (minus r (suc rungs_below))) z ≡ true

abbrev pub Least : Type 0
Least = (s : Float) → T (fits binary64 s) → is_nan s ≡ false → LeastAt (eighths s) (rung (eighths s))

-- Values on a rung keep theirs
abbrev pub OnARung : Type 0
OnARung = (s : Float) (i : ℤ) → eq (eighths s) (whole i) ≡ true → ladder s ≡ ladder_before s

-- never below what the ladder gave before
abbrev pub NeverBelow : Type 0
NeverBelow = (s : Float) → is_nan s ≡ false → le (ladder_before s) (ladder s) ≡ true

-- ---- edges, each s by its bits with its rung

abbrev pub edges : List (ℕ × ℕ)
edges =
    -- 0 dB, and -0.0
    (0, rungs_below)
    ∷ (0x8000_0000_0000_0000, rungs_below)
    -- the least f64 above 0, and the least below it
    ∷ (1, rungs_below + 1)
    ∷ (0x8000_0000_0000_0001, rungs_below)
    -- 0.125 dB, the next f64 above it and the next below it
    ∷ (0x3fc0_0000_0000_0000, rungs_below + 1)
    ∷ (0x3fc0_0000_0000_0001, rungs_below + 2)
    ∷ (0x3fbf_ffff_ffff_ffff, rungs_below + 1)
    -- -0.125 dB, the same
    ∷ (0xbfc0_0000_0000_0000, rungs_below - 1)
    ∷ (0xbfbf_ffff_ffff_ffff, rungs_below)
    ∷ (0xbfc0_0000_0000_0001, rungs_below - 1)
    -- the lowest rung, the next f64 inside and the next outside; and the infinity beyond
    ∷ (ladder_min_bits, 0)
    ∷ (ladder_min_bits - 1, 1)
    ∷ (ladder_min_bits + 1, 0)
    ∷ (0xfff0_0000_0000_0000, 0)
    -- the highest, the same
    ∷ (ladder_max_bits, rungs_below + rungs_above)
    ∷ (ladder_max_bits - 1, rungs_below + rungs_above)
    ∷ (ladder_max_bits + 1, rungs_below + rungs_above)
    ∷ (0x7ff0_0000_0000_0000, rungs_below + rungs_above)
    ∷ []

abbrev pub AllOn : List (ℕ × ℕ) → Type 0
AllOn [] = Unit {0}
AllOn (x ∷ l) = (rung (eighths (of_bits binary64 x.0)) ≡ x.1) × AllOn l

pub edges_hold : AllOn edges
unfolding rung ceil_held floor_held neg mul lt of_bits round
edges_hold = (refl, (refl, (refl, (refl, (refl, (refl, (refl, (refl, (refl, (refl, (refl, (refl, (refl, (refl, (refl, (refl, (refl, (refl, tt))))))))))))))))))

pub nan_stays : ladder nan ≡ nan
unfolding ladder is_nan
nan_stays = refl
