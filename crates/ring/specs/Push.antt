-- The push of document 01, "Ring and quartile", in two halves: room is made, then the bin enters.
use Rattle.std.specs.Prelude.{ℕ, ◌+◌, ◌-◌, ◌%◌, ◌<◌, ◌≤◌, Bool, true, false, List, ◌==◌, slice_index, slice_index_or, slice_set}
use Rattle.laws.specs.Lists.{one}
use Rattle.model.specs.Layout.{bins, ring_len, at_counts, at_next, at_lead}
use Rattle.model.specs.Ring.{ChannelFloor, counted, uncounted, oldest}

-- a full ring's oldest goes; another ring has one entry more
unfoldable pub roomed : Bool → ChannelFloor → ChannelFloor
roomed true c =
    record {
      ring = c.ring;
      counts = uncounted c.counts (oldest c);
      next = c.next;
      filled = c.filled;
      lead = c.lead - one (0 == oldest c);
    }
roomed false c = record { ring = c.ring; counts = c.counts; next = c.next; filled = c.filled + 1; lead = c.lead }

-- bin b at the next place, lead risen by r
unfoldable pub entered : ChannelFloor → ℕ → ℕ → ChannelFloor
entered c b r =
    record {
      ring = slice_set c.ring c.next b;
      counts = counted c.counts b;
      next = (c.next + 1) % ring_len;
      filled = c.filled;
      lead = c.lead + r;
    }

-- what a bin needs to enter a channel
pub record Roomy (l : List ℕ) : Type 0 where
  pub next_below : slice_index_or l at_next 0 < ring_len
  pub counts_small : (b : ℕ) → b < bins → slice_index l (at_counts + b) ≤ ring_len
  pub lead_small : slice_index_or l at_lead 0 ≤ ring_len
