-- Document 01, "Bench values", a to f as R-11 moves them: one table of cases, and one theorem that each holds of the definitions.
use Rattle.std.specs.Prelude.{◌≡◌, refl, List, [], ◌∷◌, ◌++◌, true, false, ℕ, get_or, replicate, Float}
use Rattle.std.specs.Float.{nan, inf, binary64}
use Rattle.std.specs.Float.Ieee.{neg, sub, add, div, mul, lt, le, is_nan, of_bits, of_int, round, sum, odd, units, size, span, climb, of_fields}
use Rattle.std.specs.Int.Count.{count_trailing_zeros}
use Rattle.model.specs.Numbers.{f0}
use Rattle.model.specs.Layout.{ring_len}
use Rattle.model.specs.Ring.{ChannelFloor, floor_held, bin_of, push, push_as, push_in, without, insert, sorted, smallest, quartile, raw_floor, usable_floor}
use Rattle.model.specs.Bank.{FloorBank, first_at, ranked, median, fresh_channel, fresh_bank, smooth_after, seeds_after, sums_after, chans_after, raw_floors, usable_floors, block_floors, rise_floors, effective_floor, rise_floor, slow_step, fast_step, bank_step}
use Rattle.model.specs.Readings.{effective_at, rise_at}
use Rattle.model.specs.Ladder.{root_of}
use Rattle.model.specs.Windows.{PowerLooks, beside_stronger, look_rises}

-- -m/d, rounded
abbrev pub minus : ℕ → ℕ → Float
minus m d = neg (round binary64 false m d)

-- a channel after pushes of these bins, its block having a seed push
abbrev pub pushes : ChannelFloor → List ℕ → ChannelFloor
pushes c [] = c
pushes c (b ∷ bs) = pushes (push_in ring_len false c b) bs

-- a bank of two channels after one hop of this dB
abbrev pub two_after : List Float → FloorBank
two_after db = bank_step (fresh_bank 2) (record { held = false; db = db; power = f0 ∷ f0 ∷ [] })

pub data Case : Type 0 where
  bin_is : Float → ℕ → Case
  raw_is : List ℕ → Float → Case
  median_is : List Float → Float → Case
  block_floor_is : List Float → Float → Case
  effective_is : List Float → ℕ → Float → Case
  rise_is : List Float → ℕ → Float → Case
  root_is : ℕ → ℕ → Case
  looks_rise : PowerLooks → Float → ℕ → Case

abbrev pub Holds : Case → Type 0
Holds (bin_is p b) = bin_of p ≡ b
Holds (raw_is bins x) = raw_floor (pushes fresh_channel bins) ≡ x
Holds (median_is l x) = median l ≡ x
Holds (block_floor_is db x) = get_or (two_after db).block_floor 0 f0 ≡ x
Holds (effective_is db k x) = effective_at (two_after db) k ≡ x
Holds (rise_is db k x) = rise_at (two_after db) k ≡ x
Holds (root_is j t) = root_of j ≡ t
Holds (looks_rise l threshold k) = look_rises 2 threshold k l ≡ true

abbrev pub AllHold : List Case → Type 0
AllHold [] = Unit {0}
AllHold (c ∷ cs) = Holds c × AllHold cs

abbrev pub hop_h : List Float
hop_h = minus 100 1 ∷ minus 60 1 ∷ []

abbrev pub four : Float
four = round binary64 false 4 1

-- m = 1, filled 2, every recent and previous sum 4
abbrev pub looks_j : PowerLooks
looks_j = record { m = 1; cursor = 0; filled = 2; rings = replicate 2 (replicate 2 four); recent = four ∷ four ∷ []; previous = four ∷ four ∷ [] }

abbrev pub bench : List Case
bench =
    -- a: -160; -159.5; -159.5 - 2^-45
    bin_is (minus 160 1) 0
    ∷ bin_is (minus 1595 10) 1
    ∷ bin_is (minus 5611907348168705 35184372088832) 0
    -- b: -0.5; -0.5 - 2^-53
    ∷ bin_is (minus 1 2) 319
    ∷ bin_is (minus 4503599627370497 9007199254740992) 319
    -- c
    ∷ bin_is nan 0
    ∷ bin_is (inf true) 0
    ∷ bin_is (round binary64 false 7 1) 319
    -- d: before a push; after one push of -200
    ∷ raw_is [] (minus 160 1)
    ∷ raw_is (bin_of (minus 200 1) ∷ []) (minus 15975 100)
    -- e
    ∷ raw_is (10 ∷ 20 ∷ 30 ∷ 40 ∷ []) (minus 15475 100)
    ∷ raw_is (10 ∷ 20 ∷ 30 ∷ 40 ∷ 50 ∷ []) (minus 14975 100)
    -- f
    ∷ raw_is (replicate 62 0 ++ replicate 188 100) (minus 10975 100)
    ∷ raw_is (replicate 63 0 ++ replicate 187 100) (minus 15975 100)
    -- g
    ∷ median_is (minus 100 1 ∷ minus 90 1 ∷ minus 80 1 ∷ minus 70 1 ∷ []) (minus 85 1)
    -- h
    ∷ block_floor_is hop_h (minus 7975 100)
    ∷ effective_is hop_h 0 (sub binary64 (minus 80 1) (round binary64 false 38 10))
    ∷ effective_is hop_h 1 (minus 7675 100)
    ∷ rise_is hop_h 0 (minus 7975 100)
    -- i
    ∷ root_is 40 3162277660
    -- j
    ∷ looks_rise looks_j four 0
    ∷ looks_rise looks_j four 1
    ∷ []

pub bench_holds : AllHold bench
unfolding bin_of floor_held push push_as push_in without insert sorted smallest quartile raw_floor usable_floor first_at ranked median fresh_channel fresh_bank smooth_after seeds_after sums_after chans_after raw_floors usable_floors block_floors rise_floors effective_floor rise_floor slow_step fast_step bank_step effective_at root_of beside_stronger look_rises add sub mul div neg lt le is_nan of_bits of_int round sum odd units size span climb of_fields count_trailing_zeros
bench_holds = (refl, (refl, (refl, (refl, (refl, (refl, (refl, (refl, (refl, (refl, (refl, (refl, (refl, (refl, (refl, (refl, (refl, (refl, (refl, (refl, (refl, (refl, tt))))))))))))))))))))))
