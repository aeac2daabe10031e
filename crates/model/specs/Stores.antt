-- Document 01, "Stores": how a bank lies in its two lent stores, and when a store is sound.
use Rattle.std.specs.Prelude.{Bool, true, cond, ◌&&◌, List, [], ◌∷◌, ◌++◌, map, ℕ, ◌+◌, ◌*◌, eqb, ltb, leb, get_or, Float}
use Rattle.laws.specs.Lists.{part, tab, joined, occ}
use Rattle.laws.specs.Tests.{all_below}
use Rattle.model.specs.Layout.{bins, ring_len, at_counts, at_next, at_filled, at_lead, channel_len, decimation_hops}
use Rattle.model.specs.Ring.{ChannelFloor, entries}
use Rattle.model.specs.Bank.{FloorBank, blocks, channel}

-- ---- the bank's stores, written

-- for each channel ring_len ring, bins counts, next, filled, lead: channel_len in all
abbrev pub chan_u : ChannelFloor → List ℕ
chan_u c = c.ring ++ (c.counts ++ (c.next ∷ c.filled ∷ c.lead ∷ []))

-- u16: n, phase, started; B seed counts; the channels
abbrev pub bank_u16s : FloorBank → List ℕ
bank_u16s b = b.n ∷ b.phase ∷ b.started ∷ (b.seeds ++ joined (map chan_u b.chans))

-- f64: raw, usable, smoothed, rise (n each), block floor, seed sum (B each)
abbrev pub bank_floats : FloorBank → List Float
bank_floats b = b.raw ++ (b.usable ++ (b.smooth ++ (b.rise ++ (b.block_floor ++ b.seed_sum))))

-- ---- the same, read

abbrev pub chan_of : List ℕ → ChannelFloor
chan_of l =
    record {
      ring = part 0 ring_len l;
      counts = part at_counts bins l;
      next = get_or l at_next 0;
      filled = get_or l at_filled 0;
      lead = get_or l at_lead 0;
    }

-- where the channels begin
abbrev pub base : ℕ → ℕ
base n = 3 + blocks n

abbrev pub chan_part : ℕ → List ℕ → ℕ → List ℕ
chan_part n u k = part (base n + channel_len * k) channel_len u

unfoldable pub bank_of : List ℕ → List Float → FloorBank
bank_of u f =
    let n = get_or u 0 0 in
    let B = blocks n in
    record {
      n = n;
      phase = get_or u 1 0;
      started = get_or u 2 0;
      seeds = part 3 B u;
      chans = tab n (λ k. chan_of (chan_part n u k));
      raw = part 0 n f;
      usable = part n n f;
      smooth = part (2 * n) n f;
      rise = part (3 * n) n f;
      block_floor = part (4 * n) B f;
      seed_sum = part (4 * n + B) B f;
    }

-- ---- lengths

abbrev pub bank_len : ℕ → ℕ
bank_len n = base n + channel_len * n

abbrev pub bank_f_len : ℕ → ℕ
bank_f_len n = 4 * n + blocks n + blocks n

-- ---- sound

-- next below ring_len, filled <= ring_len, next = filled while filled < ring_len, lead <= count of bin 0
abbrev pub sound_fields : ℕ → ℕ → ℕ → ℕ → Bool
sound_fields next filled lead zeros = ltb next ring_len && leb filled ring_len && cond (ltb filled ring_len) (eqb next filled) true && leb lead zeros

-- ring entries below bins
unfoldable pub sound_ring : ChannelFloor → Bool
sound_ring c = all_below ring_len (λ i. ltb (get_or c.ring i 0) bins)

-- counts equal to a recount of the filled places
unfoldable pub sound_counts : ChannelFloor → Bool
sound_counts c = all_below bins (λ b. eqb (get_or c.counts b 0) (occ b (entries c)))

unfoldable pub sound_channel : ChannelFloor → Bool
sound_channel c = sound_fields c.next c.filled c.lead (get_or c.counts 0 0) && sound_ring c && sound_counts c

-- phase below decimation_hops, started 0 or 1, seed counts <= 25, and each channel sound; any float is sound
unfoldable pub sound_bank : FloorBank → Bool
sound_bank b =
    ltb b.phase decimation_hops
    && leb b.started 1
    && all_below (blocks b.n) (λ i. leb (get_or b.seeds i 0) 25)
    && all_below b.n (λ k. sound_channel (channel b k))
