-- A fresh bank is sound, and a bank update keeps a bank sound. Assumes nothing.
use mathlib.Core.Path.{◌≡◌, subst, sym}
use mathlib.Core.List.{List}
use Prim.Native.Nat.{ℕ, zero, suc, ◌+◌, ◌/◌, ◌<◌, ◌≤◌}
use native.Mathlib.Nat.{mod-lt}
use native.Mathlib.Omega.{arith}
use lib.ListN.{length, get_or, length-replicate, get_or-replicate}
use lib.Dec.{eqb, ltb}
use lib.Ieee.{Float}
use borrow.Author.Tests.{ltb-true}
use Rattle.laws.specs.Lists.{one}
use Rattle.laws.proofs.Tests.{by-test}
use Rattle.laws.proofs.Tabs.{length-tab, get_d-tab}
use Rattle.model.specs.Numbers.{f0}
use Rattle.model.specs.Layout.{hist_min, bins, fresh_power, ring_len, block_channels}
use Rattle.model.specs.Ring.{bin_of}
use Rattle.model.specs.Bank.{FloorBank, Hop, blocks, block, median, channel, fresh_channel, fresh_bank, takes_seed, seeds_after, sums_after, smooth_after, channel_after, chans_after, raw_floors, usable_floors, block_floors, rise_floors, fast_step, slow_step, step_at, bank_step}
use Rattle.model.specs.Sound.{Sound}
use Rattle.laws.proofs.Counting.{one-le}
use Rattle.model.proofs.Bins.{bin-below}
use Rattle.model.proofs.SoundRings.{sound-fresh, sound-push}
use Rattle.model.specs.GoodBank.{Good}

pub good-fresh : (n : ℕ) → 1 ≤ n → n ≤ 512 → Good (fresh_bank n)
unfolding fresh_bank
good-fresh n low high =
    record {
      low = low;
      high = high;
      phase = omega arith;
      started = omega arith;
      seeds_long = length-replicate (blocks n) 0;
      chans_long = length-replicate n fresh_channel;
      raw_long = length-replicate n hist_min;
      usable_long = length-replicate n hist_min;
      smooth_long = length-replicate n fresh_power;
      rise_long = length-replicate n hist_min;
      block_floor_long = length-replicate (blocks n) hist_min;
      seed_sum_long = length-replicate (blocks n) f0;
      seeds_small = λ i h. rw (get_or-replicate {A = ℕ} (blocks n) i 0 0 h) (omega arith);
      sound = λ k h. rw (get_or-replicate n k fresh_channel fresh_channel h) sound-fresh;
    }

seed-small : (pushes : ℕ) (med : Float) → pushes ≤ 25 → pushes + one (takes_seed pushes med) ≤ 25
seed-small pushes med h =
    by-test (ltb pushes 25) (λ t. omega (arith, ltb-true pushes 25 t, one-le (takes_seed pushes med))) (λ t. rw t (omega arith))

length-smooth : (b : FloorBank) (h : Hop) → length (smooth_after b h) ≡ b.n
unfolding smooth_after
length-smooth b h = length-tab b.n _

pub channel-slow : (b : FloorBank) (h : Hop) (k : ℕ) → k < b.n → channel (slow_step b h) k ≡ channel_after b.chans (seeds_after b h.db) h.db k
unfolding slow_step chans_after
channel-slow b h k l = get_d-tab b.n (channel_after b.chans (seeds_after b h.db) h.db) k fresh_channel l

pub seeds-slow : (b : FloorBank) (db : List Float) → Good b → (i : ℕ) → i < blocks b.n → get_or (seeds_after b db) i 0 ≤ 25
unfolding seeds_after
seeds-slow b db g i l =
    rw (get_d-tab (blocks b.n) (λ i. get_or b.seeds i 0 + one (takes_seed (get_or b.seeds i 0) (median (block i db)))) i 0 l)
    (seed-small (get_or b.seeds i 0) (median (block i db)) (g.seeds_small i l))

pub good-slow : (b : FloorBank) (h : Hop) → Good b → Good (slow_step b h)
unfolding slow_step seeds_after sums_after chans_after raw_floors usable_floors block_floors rise_floors
good-slow b h g =
    record {
      low = g.low;
      high = g.high;
      phase = mod-lt (b.phase + 1) (omega arith);
      started = omega arith;
      seeds_long = length-tab (blocks b.n) _;
      chans_long = length-tab b.n _;
      raw_long = length-tab b.n _;
      usable_long = length-tab b.n _;
      smooth_long = length-smooth b h;
      rise_long = length-tab b.n _;
      block_floor_long = length-tab (blocks b.n) _;
      seed_sum_long = length-tab (blocks b.n) _;
      seeds_small = seeds-slow b h.db g;
      sound =
          λ k l.
          subst (Sound ring_len bins) (sym (channel-slow b h k l))
          (sound-push (eqb 0 (get_or (seeds_after b h.db) (k / block_channels) 0)) (channel b k) (bin_of (get_or h.db k f0)) (g.sound k l) (bin-below (get_or h.db k f0)));
    }

good-fast : (b : FloorBank) (h : Hop) → Good b → Good (fast_step b h)
unfolding fast_step
good-fast b h g =
    record {
      low = g.low;
      high = g.high;
      phase = mod-lt (b.phase + 1) (omega arith);
      started = omega arith;
      seeds_long = g.seeds_long;
      chans_long = g.chans_long;
      raw_long = g.raw_long;
      usable_long = g.usable_long;
      smooth_long = length-smooth b h;
      rise_long = g.rise_long;
      block_floor_long = g.block_floor_long;
      seed_sum_long = g.seed_sum_long;
      seeds_small = g.seeds_small;
      sound = g.sound;
    }

pub good-step : (b : FloorBank) (h : Hop) → Good b → Good (bank_step b h)
unfolding bank_step
good-step b h g = go b.phase
  where
    go : (p : ℕ) → Good (step_at p b h)
    go zero = good-slow b h g
    go (suc p) = good-fast b h g
