-- The rules of a sound bank as the code meets them: on the u16 store.
use Rattle.std.specs.Prelude.{Bool, ◌&&◌, List, ℕ, ◌+◌, ltb, leb, get_or}
use Rattle.laws.specs.Tests.{all_below}
use Rattle.model.specs.Layout.{decimation_hops}
use Rattle.model.specs.Bank.{blocks}
use Rattle.model.specs.Stores.{chan_of, chan_part, sound_channel}

-- phase below decimation_hops, started 0 or 1
abbrev pub sound_head : ℕ → ℕ → Bool
sound_head phase started = ltb phase decimation_hops && leb started 1

unfoldable pub sound_seeds : List ℕ → ℕ → Bool
sound_seeds u n = all_below (blocks n) (λ i. leb (get_or u (3 + i) 0) 25)

-- channel k of a bank of n is sound
abbrev pub is_sound : List ℕ → ℕ → ℕ → Bool
is_sound u n k = sound_channel (chan_of (chan_part n u k))

unfoldable pub sound_channels : List ℕ → ℕ → Bool
sound_channels u n = all_below n (is_sound u n)

-- the u16 store of a bank of n channels is sound
unfoldable pub sound_store : List ℕ → ℕ → Bool
sound_store u n = sound_head (get_or u 1 0) (get_or u 2 0) && sound_seeds u n && sound_channels u n
