-- What a sound channel has, as facts: the rules of `sound_channel` (document 01, "Stores"), for a ring of R places and K bins.
use Rattle.std.specs.Prelude.{◌≡◌, ℕ, ◌≤◌, ◌<◌, length, get_or}
use Rattle.laws.specs.Lists.{occ}
use Rattle.model.specs.Ring.{ChannelFloor, entries}

pub record Sound (R K : ℕ) (c : ChannelFloor) : Type 0 where
  pub ring_is_long : length c.ring ≡ R
  pub counts_length : length c.counts ≡ K
  pub next_below : c.next < R
  pub filled_within : c.filled ≤ R
  pub at_start : c.filled < R → c.next ≡ c.filled
  pub bins_below : (i : ℕ) → i < R → get_or c.ring i 0 < K
  pub recount : (x : ℕ) → x < K → get_or c.counts x 0 ≡ occ x (entries c)
  pub lead_within : c.lead ≤ get_or c.counts 0 0
