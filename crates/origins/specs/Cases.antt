-- Cases of R-4 worked out by hand: one table, and one theorem that each holds of the definitions.
use Rattle.std.specs.Prelude.{◌≡◌, refl, List, [], ◌∷◌, Bool, true, false, ◌&&◌, ℕ, Float, eqb}
use Rattle.std.specs.Float.{nan, inf, binary64}
use Rattle.std.specs.Float.Ieee.{neg, sub, add, div, lt, is_nan, of_bits, of_int, round, sum, odd, units, size, span, climb, of_fields}
use Rattle.std.specs.Int.Count.{count_trailing_zeros}
use Rattle.model.specs.Numbers.{f0}
use Rattle.model.specs.Bank.{effective_floor}
use Rattle.origins.specs.Origins.{effective_number, rise_number, effective_origin, rise_origin}

-- -m/d, rounded
abbrev pub minus : ℕ → ℕ → Float
minus m d = neg (round binary64 false m d)

-- usable floor, block floor, entries since the leading silence, seed pushes and seed sum; the numbers of the two origins
pub record Case : Type 0 where
  pub usable : Float
  pub floor : Float
  pub since : ℕ
  pub pushes : ℕ
  pub seed_sum : Float
  pub effective : ℕ
  pub rise : ℕ

abbrev pub of : Float → Float → ℕ → ℕ → Float → ℕ → ℕ → Case
of u f e p s x y = record { usable = u; floor = f; since = e; pushes = p; seed_sum = s; effective = x; rise = y }

abbrev pub holds : Case → Bool
holds c =
    eqb (effective_number (effective_origin c.usable c.floor c.since c.pushes c.seed_sum)) c.effective
    && eqb (rise_number (rise_origin c.usable c.floor c.since c.pushes c.seed_sum)) c.rise

abbrev pub all_hold : List Case → Bool
all_hold [] = true
all_hold (c ∷ cs) = holds c && all_hold cs

abbrev pub cases : List Case
cases =
    -- document 01's bench value h: the first channel, and the second
    of (minus 9975 100) (minus 7975 100) 1 1 (minus 80 1) 2 1
    ∷ of (minus 5975 100) (minus 7975 100) 1 1 (minus 80 1) 1 0
    -- usable = block floor + 3; zeros of either sign; effective = block floor
    ∷ of (minus 77 1) (minus 80 1) 250 0 f0 0 0
    ∷ of (neg f0) (minus 3 1) 250 0 f0 0 0
    ∷ of (minus 80 1) (minus 80 1) 250 0 f0 0 0
    -- a NaN passed over, on either side; two NaNs
    ∷ of nan (minus 80 1) 250 0 f0 1 0
    ∷ of (minus 90 1) nan 250 0 f0 0 0
    ∷ of nan nan 250 0 f0 0 0
    -- two NaNs and a seed; a seed that is a NaN
    ∷ of nan nan 0 1 (minus 80 1) 2 0
    ∷ of (minus 90 1) (minus 90 1) 0 1 nan 0 0
    -- the seed's tests: 24 and 25 entries, 249 and 250; no seed pushes
    ∷ of (minus 90 1) (minus 90 1) 24 1 (minus 50 1) 2 0
    ∷ of (minus 90 1) (minus 90 1) 25 1 (minus 50 1) 0 2
    ∷ of (minus 90 1) (minus 90 1) 249 1 (minus 50 1) 0 2
    ∷ of (minus 90 1) (minus 90 1) 250 1 (minus 50 1) 0 0
    ∷ of (minus 90 1) (minus 90 1) 0 0 (minus 50 1) 0 0
    -- infinities
    ∷ of (inf false) (inf false) 250 0 f0 0 0
    ∷ of (inf true) (inf false) 250 0 f0 0 1
    ∷ []

pub cases_hold : all_hold cases ≡ true
unfolding effective_origin rise_origin effective_floor neg sub add div lt is_nan of_bits of_int round sum odd units size span climb of_fields count_trailing_zeros
cases_hold = refl
