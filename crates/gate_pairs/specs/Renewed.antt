-- R-3 on the last 2n floats of a gate, p: the rise floors last used, then their thresholds. x is a stored rise floor and on the level.
use Rattle.std.specs.Prelude.{cond, List, ℕ, ◌+◌, length, get_or, set, Float}
use Rattle.std.specs.Float.{nan, binary64}
use Rattle.std.specs.Float.Ieee.{add, ne}
use Rattle.model.specs.Ladder.{ladder}

-- a pair after it was brought up to date
abbrev pub used_now : Float → Float → Float
used_now x used = cond (ne x used) x used

abbrev pub threshold_now : Float → Float → Float → Float → Float
threshold_now x on used threshold = cond (ne x used) (ladder (add binary64 x on)) threshold

-- that of channel k, of n
unfoldable pub renewed : List Float → ℕ → ℕ → Float → Float → List Float
renewed p n k x on = set (set p k (used_now x (get_or p k nan))) (n + k) (threshold_now x on (get_or p k nan) (get_or p (n + k) nan))

-- those of all channels, by their stored rise floors
unfoldable pub used_of : List Float → List Float → ℕ → Float
used_of p rise k = used_now (get_or rise k nan) (get_or p k nan)

unfoldable pub threshold_of : List Float → List Float → Float → ℕ → Float
threshold_of p rise on k = threshold_now (get_or rise k nan) on (get_or p k nan) (get_or p (length rise + k) nan)
