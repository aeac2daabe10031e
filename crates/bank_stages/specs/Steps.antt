-- The bank update in the steps that the code takes: each is a bank with one or two of its lists replaced.
-- `slow-step` and `fast-step` in proofs/Stages.antt show that together they are `bank_step`.
use Rattle.std.specs.Prelude.{◌≡◌, Bool, List, [], ℕ, ◌+◌, ◌%◌, ◌<◌, ◌≤◌, get_or, length, set, Float}
use Rattle.model.specs.Layout.{decimation_hops}
use Rattle.model.specs.Ring.{ChannelFloor}
use Rattle.model.specs.Bank.{FloorBank, hop, smooth_after, seeds_after, sums_after, chans_after, raw_floors, usable_floors, block_floors, rise_floors}
use Rattle.model.specs.Stores.{bank_u16s, bank_floats}

-- the bank with these lists
abbrev pub with : FloorBank → List ℕ → List ChannelFloor → List Float → List Float → List Float → List Float → List Float → List Float → FloorBank
with b seeds' chans' raw' usable' smooth' rise' blockFloor' seedSum' =
    record {
      n = b.n;
      phase = b.phase;
      started = b.started;
      seeds = seeds';
      chans = chans';
      raw = raw';
      usable = usable';
      smooth = smooth';
      rise = rise';
      block_floor = blockFloor';
      seed_sum = seedSum';
    }

unfoldable pub smooth_step : Bool → List Float → FloorBank → FloorBank
smooth_step held power b = with b b.seeds b.chans b.raw b.usable (smooth_after b (hop held [] power)) b.rise b.block_floor b.seed_sum

unfoldable pub seed_step : List Float → FloorBank → FloorBank
seed_step db b = with b (seeds_after b db) b.chans b.raw b.usable b.smooth b.rise b.block_floor (sums_after b db)

unfoldable pub push_step : List Float → FloorBank → FloorBank
push_step db b = with b b.seeds (chans_after b b.seeds db) b.raw b.usable b.smooth b.rise b.block_floor b.seed_sum

unfoldable pub raw_step : FloorBank → FloorBank
raw_step b = with b b.seeds b.chans (raw_floors b.n b.chans) b.usable b.smooth b.rise b.block_floor b.seed_sum

unfoldable pub usable_step : FloorBank → FloorBank
usable_step b = with b b.seeds b.chans b.raw (usable_floors b.n b.chans) b.smooth b.rise b.block_floor b.seed_sum

unfoldable pub block_step : FloorBank → FloorBank
block_step b = with b b.seeds b.chans b.raw b.usable b.smooth b.rise (block_floors b.n b.usable) b.seed_sum

unfoldable pub rise_step : FloorBank → FloorBank
rise_step b =
    with b b.seeds b.chans b.raw b.usable b.smooth (rise_floors b.n b.chans b.usable b.block_floor b.seeds b.seed_sum)
    b.block_floor b.seed_sum

-- (b) whole
unfoldable pub floor_step : List Float → FloorBank → FloorBank
floor_step db b = rise_step (block_step (usable_step (raw_step (push_step db (seed_step db b)))))

-- (c)
unfoldable pub phase_step : FloorBank → FloorBank
phase_step b =
    record {
      n = b.n;
      phase = (b.phase + 1) % decimation_hops;
      started = 1;
      seeds = b.seeds;
      chans = b.chans;
      raw = b.raw;
      usable = b.usable;
      smooth = b.smooth;
      rise = b.rise;
      block_floor = b.block_floor;
      seed_sum = b.seed_sum;
    }

-- the two stores hold b
pub record Holds (b : FloorBank) (u : List ℕ) (f : List Float) : Type 0 where
  pub u16s : u ≡ bank_u16s b
  pub floats : f ≡ bank_floats b

-- the header's phase and started, as the code writes them
abbrev pub advanced : List ℕ → List ℕ
advanced u = set (set u 1 ((get_or u 1 0 + 1) % decimation_hops)) 2 1

pub record Headed (u : List ℕ) : Type 0 where
  pub long : 3 ≤ length u
  pub phase : get_or u 1 0 < decimation_hops
