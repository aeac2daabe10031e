-- Document 01, "Block and bank step".
use Rattle.std.specs.Prelude.{Bool, true, false, cond, ◌&&◌, List, [], ◌∷◌, ℕ, zero, suc, ◌+◌, ◌-◌, ◌*◌, ◌/◌, ◌%◌, eqb, ltb, leb, length, get_or, replicate, pos, Float}
use Rattle.std.specs.Float.{binary64}
use Rattle.std.specs.Float.Ieee.{add, sub, mul, div, lt, le, of_int}
use Rattle.laws.specs.Lists.{part, tab, one, count}
use Rattle.model.specs.Numbers.{f0, half, f3, seed_offset, power_linear, smoothed, fmin, fmax}
use Rattle.model.specs.Layout.{hist_min, bins, fresh_power, ring_len, block_channels, decimation_hops}
use Rattle.model.specs.Ring.{ChannelFloor, bin_of, push_in, raw_floor, usable_floor, since}

-- ---- blocks and medians

-- B = ceil(n / block_channels)
abbrev pub blocks : ℕ → ℕ
blocks n = (n + (block_channels - 1)) / block_channels

-- block i: block_channels consecutive channels; the last may be shorter
abbrev pub block : ℕ → List Float → List Float
block i l = part (block_channels * i) block_channels l

-- x stands at rank r of l, from 0: at most r are below it, and more than r are not above it
abbrev pub stands_at : ℕ → List Float → Float → Bool
stands_at r l x = leb (count (λ y. lt y x) l) r && ltb r (count (λ y. le y x) l)

-- the first of xs that stands at rank r of l; d where none does
unfoldable pub first_at : ℕ → List Float → Float → List Float → Float
first_at r l d [] = d
first_at r l d (x ∷ xs) = cond (stands_at r l x) x (first_at r l d xs)

-- The value of rank r. Only a NaN stands nowhere, and only in a block of its own, where it is the median, is it not refused
unfoldable pub ranked : ℕ → List Float → Float
ranked r l = first_at r l (get_or l 0 f0) l

-- the middle value by rank, or 0.5 × (the two middle values added)
unfoldable pub median : List Float → Float
median l =
    cond (eqb (length l % 2) 1) (ranked (length l / 2) l)
    (mul binary64 half (add binary64 (ranked (length l / 2 - 1) l) (ranked (length l / 2) l)))

-- ---- the bank

pub record FloorBank : Type 0 where
  pub n : ℕ
  pub phase : ℕ
  pub started : ℕ
  pub seeds : List ℕ
  pub chans : List ChannelFloor
  pub raw : List Float
  pub usable : List Float
  pub smooth : List Float
  pub rise : List Float
  pub block_floor : List Float
  pub seed_sum : List Float

-- Fresh: floors hist_min, smoothed the literal fresh_power, rest 0
unfoldable pub fresh_channel : ChannelFloor
fresh_channel = record { ring = replicate ring_len 0; counts = replicate bins 0; next = 0; filled = 0; lead = 0 }

unfoldable pub fresh_bank : ℕ → FloorBank
fresh_bank k =
    record {
      n = k;
      phase = 0;
      started = 0;
      seeds = replicate (blocks k) 0;
      chans = replicate k fresh_channel;
      raw = replicate k hist_min;
      usable = replicate k hist_min;
      smooth = replicate k fresh_power;
      rise = replicate k hist_min;
      block_floor = replicate (blocks k) hist_min;
      seed_sum = replicate (blocks k) f0;
    }

abbrev pub channel : FloorBank → ℕ → ChannelFloor
channel b k = get_or b.chans k fresh_channel

-- one bank update's arguments
pub record Hop : Type 0 where
  pub held : Bool
  pub db : List Float
  pub power : List Float

abbrev pub hop : Bool → List Float → List Float → Hop
hop held db power = record { held = held; db = db; power = power }

-- ---- (a) the smoothed powers

-- on the first ever, power_linear; later, unless held, s + 0.0645 × (linear - s)
abbrev pub power_after : ℕ → Bool → Float → Float → Float
power_after zero held s p = power_linear p
power_after (suc x) true s p = s
power_after (suc x) false s p = smoothed s (power_linear p)

unfoldable pub smooth_after : FloorBank → Hop → List Float
smooth_after b h = tab b.n (λ k. power_after b.started h.held (get_or b.smooth k f0) (get_or h.power k f0))

-- ---- (b) a slow hop

-- with fewer than 25 seed pushes and a median of hist_min or more ..
abbrev pub takes_seed : ℕ → Float → Bool
takes_seed pushes med = ltb pushes 25 && le hist_min med

-- .. it is added to the seed sum and counted
unfoldable pub seeds_after : FloorBank → List Float → List ℕ
seeds_after b db = tab (blocks b.n) (λ i. get_or b.seeds i 0 + one (takes_seed (get_or b.seeds i 0) (median (block i db))))

abbrev pub sum_after : ℕ → Float → Float → Float
sum_after pushes sum med = cond (takes_seed pushes med) (add binary64 sum med) sum

unfoldable pub sums_after : FloorBank → List Float → List Float
sums_after b db = tab (blocks b.n) (λ i. sum_after (get_or b.seeds i 0) (get_or b.seed_sum i f0) (median (block i db)))

-- Then each channel pushes, by the seed pushes as they now are
abbrev pub channel_after : List ChannelFloor → List ℕ → List Float → ℕ → ChannelFloor
channel_after chans seeds db k = push_in ring_len (eqb 0 (get_or seeds (k / block_channels) 0)) (get_or chans k fresh_channel) (bin_of (get_or db k f0))

unfoldable pub chans_after : FloorBank → List ℕ → List Float → List ChannelFloor
chans_after b seeds db = tab b.n (channel_after b.chans seeds db)

-- Then raw, usable, block floor (median of usable floors)
unfoldable pub raw_floors : ℕ → List ChannelFloor → List Float
raw_floors n chans = tab n (λ k. raw_floor (get_or chans k fresh_channel))

unfoldable pub usable_floors : ℕ → List ChannelFloor → List Float
usable_floors n chans = tab n (λ k. usable_floor (get_or chans k fresh_channel))

unfoldable pub block_floors : ℕ → List Float → List Float
block_floors n usable = tab (blocks n) (λ i. median (block i usable))

-- ---- the floors of one channel: of its usable floor u, its block's floor f, its entries since the leading silence e, and its block's
-- seed pushes and seed sum

-- seed sum / seed pushes - 3.8
abbrev pub seed_of : ℕ → Float → Float
seed_of pushes sum = sub binary64 (div binary64 sum (of_int binary64 (pos pushes))) seed_offset

-- not below the seed, if the test holds
abbrev pub not_below : Bool → Float → Float → Float
not_below true x seed = fmax x seed
not_below false x seed = x

-- min(usable, block floor + 3); if filled - lead < 25 and seed pushes > 0, not below the seed
unfoldable pub effective_floor : Float → Float → ℕ → ℕ → Float → Float
effective_floor u f e pushes sum = not_below (ltb e 25 && ltb 0 pushes) (fmin u (add binary64 f f3)) (seed_of pushes sum)

-- max(effective, block floor); if filled - lead < ring_len and seed pushes > 0, not below the seed
unfoldable pub rise_floor : Float → Float → ℕ → ℕ → Float → Float
rise_floor u f e pushes sum = not_below (ltb e ring_len && ltb 0 pushes) (fmax (effective_floor u f e pushes sum) f) (seed_of pushes sum)

unfoldable pub rise_floors : ℕ → List ChannelFloor → List Float → List Float → List ℕ → List Float → List Float
rise_floors n chans usable block_floor seeds sums =
    tab n
    (λ k.
    rise_floor (get_or usable k f0) (get_or block_floor (k / block_channels) f0) (since (get_or chans k fresh_channel)) (get_or seeds (k / block_channels) 0)
    (get_or sums (k / block_channels) f0))

-- ---- one bank update

-- (a) and (c): phase advances modulo decimation_hops
unfoldable pub fast_step : FloorBank → Hop → FloorBank
fast_step b h =
    record {
      n = b.n;
      phase = (b.phase + 1) % decimation_hops;
      started = 1;
      seeds = b.seeds;
      chans = b.chans;
      raw = b.raw;
      usable = b.usable;
      smooth = smooth_after b h;
      rise = b.rise;
      block_floor = b.block_floor;
      seed_sum = b.seed_sum;
    }

-- (a), (b) and (c)
unfoldable pub slow_step : FloorBank → Hop → FloorBank
slow_step b h =
    let seeds' : List ℕ = seeds_after b h.db in
    let sums' : List Float = sums_after b h.db in
    let chans' : List ChannelFloor = chans_after b seeds' h.db in
    let usable' : List Float = usable_floors b.n chans' in
    let block' : List Float = block_floors b.n usable' in
    record {
      n = b.n;
      phase = (b.phase + 1) % decimation_hops;
      started = 1;
      seeds = seeds';
      chans = chans';
      raw = raw_floors b.n chans';
      usable = usable';
      smooth = smooth_after b h;
      rise = rise_floors b.n chans' usable' block' seeds' sums';
      block_floor = block';
      seed_sum = sums';
    }

-- phase 0 is a slow hop
abbrev pub step_at : ℕ → FloorBank → Hop → FloorBank
step_at zero b h = slow_step b h
step_at (suc p) b h = fast_step b h

unfoldable pub bank_step : FloorBank → Hop → FloorBank
bank_step b h = step_at b.phase b h
