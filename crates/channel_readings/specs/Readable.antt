-- What a reading of channel k knows of the two lent stores once it is not refused.
use Rattle.std.specs.Prelude.{◌≡◌, List, ℕ, ◌≤◌, ◌<◌, length, get_or, Float}
use Rattle.model.specs.Layout.{bins, ring_len}
use Rattle.model.specs.Stores.{bank_len, bank_f_len, chan_of, chan_part}
use Rattle.model.specs.Sound.{Sound}

pub record Readable (u : List ℕ) (f : List Float) (k : ℕ) : Type 0 where
  pub below : k < get_or u 0 0
  pub high : get_or u 0 0 ≤ 512
  pub long : length u ≡ bank_len (get_or u 0 0)
  pub long_f : length f ≡ bank_f_len (get_or u 0 0)
  pub sound : Sound ring_len bins (chan_of (chan_part (get_or u 0 0) u k))
