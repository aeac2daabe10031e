-- R-7: what was carried from floor.rs and is gone from Ring.antt: counts in eight bits, which saturate, and a scan of the counts with an answer
-- after its last bin; up to the bank update, which is made of them. Nothing uses these but `SameAnswers` (SameAnswers.antt).
use Rattle.std.specs.Prelude.{Bool, true, false, cond, List, [], ◌∷◌, ℕ, zero, suc, ◌+◌, ◌-◌, ◌/◌, ◌%◌, min, eqb, leb, get_or, set, Float}
use Rattle.laws.specs.Lists.{tab}
use Rattle.model.specs.Numbers.{f0}
use Rattle.model.specs.Layout.{hist_min, ring_len, block_channels, decimation_hops}
use Rattle.model.specs.Ring.{ChannelFloor, bin_of, centre_of, oldest, push_in, skip_of}
use Rattle.model.specs.Bank.{FloorBank, Hop, fresh_channel, smooth_after, seeds_after, sums_after, block_floors, rise_floors, fast_step}

-- ---- counts that saturate: up at 255, down at 0

abbrev pub carried_top : ℕ
carried_top = 255

abbrev pub carried_counted : List ℕ → ℕ → List ℕ
carried_counted cs b = set cs b (min (get_or cs b 0 + 1) carried_top)

abbrev pub carried_uncounted : List ℕ → ℕ → List ℕ
carried_uncounted cs b = set cs b (cond (eqb (get_or cs b 0) 0) 0 (get_or cs b 0 - 1))

-- the counts after a push of bin b, into a full ring or another
abbrev pub carried_counts : Bool → ChannelFloor → ℕ → List ℕ
carried_counts true c b = carried_counted (carried_uncounted c.counts (oldest c)) b
carried_counts false c b = carried_counted c.counts b

-- the push: Ring's but for the counts
unfoldable pub carried_push : ℕ → Bool → ChannelFloor → ℕ → ChannelFloor
carried_push R quiet c b =
    record {
      ring = (push_in R quiet c b).ring;
      counts = carried_counts (eqb c.filled R) c b;
      next = (push_in R quiet c b).next;
      filled = (push_in R quiet c b).filled;
      lead = (push_in R quiet c b).lead;
    }

-- ---- the quartile by a scan

-- the first bin, of those from b on with the counts given, at which what was passed comes to the rank; after the last bin, the last
unfoldable pub carried_scan : ℕ → ℕ → ℕ → List ℕ → ℕ
carried_scan rank passed b [] = b - 1
carried_scan rank passed b (x ∷ cs) = cond (leb rank (passed + x)) b (carried_scan rank (passed + x) (b + 1) cs)

-- of r entries, with s fewer in bin 0
abbrev pub carried_quartile_of : ℕ → ℕ → List ℕ → Float
carried_quartile_of zero s cs = hist_min
carried_quartile_of (suc r) s cs = centre_of (carried_scan ((suc r + 3) / 4) 0 0 (set cs 0 (get_or cs 0 0 - s)))

unfoldable pub carried_quartile : ℕ → ChannelFloor → Float
carried_quartile s c = carried_quartile_of (c.filled - s) s c.counts

unfoldable pub carried_raw : ChannelFloor → Float
carried_raw c = carried_quartile 0 c

unfoldable pub carried_usable : ChannelFloor → Float
carried_usable c = carried_quartile (skip_of c) c

-- ---- one bank update

abbrev pub carried_channel : List ChannelFloor → List ℕ → List Float → ℕ → ChannelFloor
carried_channel chans seeds db k = carried_push ring_len (eqb 0 (get_or seeds (k / block_channels) 0)) (get_or chans k fresh_channel) (bin_of (get_or db k f0))

-- a slow hop: Bank's but for the pushes and for the quartiles
unfoldable pub carried_slow : FloorBank → Hop → FloorBank
carried_slow b h =
    let seeds' : List ℕ = seeds_after b h.db in
    let sums' : List Float = sums_after b h.db in
    let chans' : List ChannelFloor = tab b.n (carried_channel b.chans seeds' h.db) in
    let usable' : List Float = tab b.n (λ k. carried_usable (get_or chans' k fresh_channel)) in
    let block' : List Float = block_floors b.n usable' in
    record {
      n = b.n;
      phase = (b.phase + 1) % decimation_hops;
      started = 1;
      seeds = seeds';
      chans = chans';
      raw = tab b.n (λ k. carried_raw (get_or chans' k fresh_channel));
      usable = usable';
      smooth = smooth_after b h;
      rise = rise_floors b.n chans' usable' block' seeds' sums';
      block_floor = block';
      seed_sum = sums';
    }

abbrev pub carried_at : ℕ → FloorBank → Hop → FloorBank
carried_at zero b h = carried_slow b h
carried_at (suc p) b h = fast_step b h

unfoldable pub carried_step : FloorBank → Hop → FloorBank
carried_step b h = carried_at b.phase b h
