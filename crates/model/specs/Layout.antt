-- The layout (R-11): every number that a change of the front end moves, said here and nowhere else. Definitions, contracts and proofs use
-- these names; the code uses those of src/layout.rt, and no contract with a name of this file is proved of code that says another number.
use Rattle.std.specs.Prelude.{◌≡◌, refl, false, ℕ, ◌+◌, ◌-◌, ◌*◌, ◌/◌, pos, Float}
use Rattle.std.specs.Float.{binary64}
use Rattle.std.specs.Float.Ieee.{neg, mul, of_int, of_bits, round}
use Rattle.model.specs.Numbers.{half}

-- ---- the histogram

-- how far it begins below 0 dB: 160
abbrev pub depth : Float
depth = of_bits binary64 0x4064_0000_0000_0000

depth_is : depth ≡ round binary64 false 160 1
unfolding of_bits round
depth_is = refl

-- where it begins: the floor of a fresh channel, the quartile of no entries, and the least median that seeds
abbrev pub hist_min : Float
hist_min = of_bits binary64 0xc064_0000_0000_0000

hist_min_is : hist_min ≡ neg depth
unfolding of_bits neg
hist_min_is = refl

abbrev pub bins : ℕ
bins = 320

abbrev pub last_bin : ℕ
last_bin = bins - 1

-- the bins, half a dB wide, end at 0
bins_end : mul binary64 (of_int binary64 (pos bins)) half ≡ depth
unfolding of_bits round mul of_int
bins_end = refl

-- the smoothed power of a fresh channel: 1e-16
abbrev pub fresh_power : Float
fresh_power = of_bits binary64 0x3c9c_d2b2_97d8_89bc

fresh_power_is : fresh_power ≡ round binary64 false 1 10000000000000000
unfolding of_bits round
fresh_power_is = refl

-- ---- the ring, and a channel's part of the u16 store: 250 ring, 320 counts, next, filled, lead, in all 573

abbrev pub ring_len : ℕ
ring_len = 250

abbrev pub at_counts : ℕ
at_counts = ring_len

abbrev pub at_next : ℕ
at_next = ring_len + bins

abbrev pub at_filled : ℕ
at_filled = at_next + 1

abbrev pub at_lead : ℕ
at_lead = at_next + 2

abbrev pub channel_len : ℕ
channel_len = at_next + 3

-- ---- blocks and slow hops

-- the channels of a block
abbrev pub block_channels : ℕ
block_channels = 32

-- every so many hops a slow one
abbrev pub decimation_hops : ℕ
decimation_hops = 15

-- the bank updates that fill a ring: demand 3's 3,750
abbrev pub settling_hops : ℕ
settling_hops = decimation_hops * ring_len

-- ---- the ladder: a rung for each eighth of a dB

-- it goes from -260 dB ..
abbrev pub ladder_depth : ℕ
ladder_depth = 260

abbrev pub ladder_min_bits : ℕ
ladder_min_bits = 0xc070_4000_0000_0000

abbrev pub ladder_min : Float
ladder_min = of_bits binary64 ladder_min_bits

ladder_min_is : ladder_min ≡ neg (round binary64 false ladder_depth 1)
unfolding of_bits round neg
ladder_min_is = refl

-- .. to 400
abbrev pub ladder_top : ℕ
ladder_top = 400

abbrev pub ladder_max_bits : ℕ
ladder_max_bits = 0x4079_0000_0000_0000

abbrev pub ladder_max : Float
ladder_max = of_bits binary64 ladder_max_bits

ladder_max_is : ladder_max ≡ round binary64 false ladder_top 1
unfolding of_bits round
ladder_max_is = refl

-- so many rungs are below 0 dB, and so many above: with that of 0 dB itself 5,281
abbrev pub rungs_below : ℕ
rungs_below = 8 * ladder_depth

abbrev pub rungs_above : ℕ
rungs_above = 8 * ladder_top

abbrev pub rung_count : ℕ
rung_count = rungs_below + rungs_above + 1

-- the powers of ten, counted from the lowest, 10^-35: the literals of 10^(q - 9) for q from -26 to 40
abbrev pub zero_ten : ℕ
zero_ten = ladder_depth / 10 + 9

abbrev pub tens_len : ℕ
tens_len = (ladder_depth + ladder_top) / 10 + 1
