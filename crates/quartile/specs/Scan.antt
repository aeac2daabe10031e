-- The scan of a channel's counts: by whole stretches of bins first, and bin by bin in the stretch in which the rank is reached.
use Rattle.std.specs.Prelude.{ℕ, ltb}
use Rattle.laws.specs.Lists.{count}
use Rattle.model.specs.Ring.{ChannelFloor, entries}

-- the bins of a stretch; a whole number of stretches are all bins
abbrev pub stretch : ℕ
stretch = 32

-- how many entries are below bin b
abbrev pub entries_below : ℕ → ChannelFloor → ℕ
entries_below b c = count (λ x. ltb x b) (entries c)
