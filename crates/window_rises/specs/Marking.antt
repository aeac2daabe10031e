-- Rises as marks: a number for each channel, 0 until something is found to rise.
use Rattle.std.specs.Prelude.{Bool, not, ◌&&◌, List, ℕ, zero, suc, length, get_or, Float}
use Rattle.std.specs.Float.Ieee.{le}
use Rattle.laws.specs.Lists.{one}
use Rattle.model.specs.Numbers.{f0}
use Rattle.model.specs.Windows.{beside_stronger}

-- the mark of a channel after one test more: a mark that is there stays
abbrev pub marked : ℕ → Bool → ℕ
marked zero rises = one rises
marked (suc mark) rises = suc mark

-- what `look_rises` asks of a length whose windows are full, level being threshold × m
abbrev pub sums_rise : List Float → List Float → ℕ → Float → Bool
sums_rise recent previous k level =
    le level (get_or recent k f0) && le level (get_or previous k f0) && not (beside_stronger (length recent) recent k)
