-- What a sound bank has, as facts: the rules of `sound_bank` (document 01, "Stores"), with the lengths of its lists.
use Rattle.std.specs.Prelude.{◌≡◌, List, ℕ, ◌≤◌, ◌<◌, length, get_or, Float}
use Rattle.model.specs.Layout.{bins, ring_len, decimation_hops}
use Rattle.model.specs.Bank.{FloorBank, blocks, channel}
use Rattle.model.specs.Stores.{bank_len, bank_f_len, bank_of}
use Rattle.model.specs.Sound.{Sound}

pub record Good (b : FloorBank) : Type 0 where
  pub low : 1 ≤ b.n
  pub high : b.n ≤ 512
  pub phase : b.phase < decimation_hops
  pub started : b.started ≤ 1
  pub seeds_long : length b.seeds ≡ blocks b.n
  pub chans_long : length b.chans ≡ b.n
  pub raw_long : length b.raw ≡ b.n
  pub usable_long : length b.usable ≡ b.n
  pub smooth_long : length b.smooth ≡ b.n
  pub rise_long : length b.rise ≡ b.n
  pub block_floor_long : length b.block_floor ≡ blocks b.n
  pub seed_sum_long : length b.seed_sum ≡ blocks b.n
  pub seeds_small : (i : ℕ) → i < blocks b.n → get_or b.seeds i 0 ≤ 25
  pub sound : (k : ℕ) → k < b.n → Sound ring_len bins (channel b k)

-- two lent stores that hold a sound bank: what a call knows of them that does not refuse with 2 or 9
pub record Ready (u : List ℕ) (f : List Float) : Type 0 where
  pub long : length u ≡ bank_len (get_or u 0 0)
  pub long_f : length f ≡ bank_f_len (get_or u 0 0)
  pub good : Good (bank_of u f)
