-- What document 01's formulas for the floors of a channel are worked out from.
use Rattle.std.specs.Prelude.{ℕ, ◌/◌, get_or}
use Rattle.model.specs.Layout.{block_channels}
use Rattle.model.specs.Numbers.{f0}
use Rattle.model.specs.Ring.{since}
use Rattle.model.specs.Bank.{FloorBank, channel}
use Rattle.block.specs.declared.Sources.{Sources}

unfoldable pub sources_at : FloorBank → ℕ → Sources
sources_at b k =
    record {
      usable = get_or b.usable k f0;
      block_floor = get_or b.block_floor (k / block_channels) f0;
      since = since (channel b k);
      pushes = get_or b.seeds (k / block_channels) 0;
      sum = get_or b.seed_sum (k / block_channels) f0;
    }
