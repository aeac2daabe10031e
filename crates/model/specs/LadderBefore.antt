-- The ladder as it was before R-5: document 01's, which goes down, i = floor(8s). Only what Upward says compares with it.
use Rattle.std.specs.Prelude.{cond, ℕ, ◌+◌, ◌-◌, pos, Float}
use Rattle.std.specs.Float.{nan, binary64}
use Rattle.std.specs.Float.Ieee.{neg, mul, le, eq, is_nan, of_int}
use Rattle.model.specs.Numbers.{f0}
use Rattle.model.specs.Layout.{rungs_below, rungs_above}
use Rattle.model.specs.Ring.{floor_held}
use Rattle.model.specs.Ladder.{f8, held, rung_value}

-- the floor of a negative z, of which t is the whole part of -z: -t, or one less where that cuts something off; rungs_below is added
abbrev pub floor_below : ℕ → Float → ℕ
floor_below t x = cond (eq (of_int binary64 (pos t)) x) (rungs_below - t) (rungs_below - (t + 1))

-- floor(z) + rungs_below, for z from -rungsBelow to rungs_above
unfoldable pub rung_before : Float → ℕ
rung_before z = cond (le f0 z) (rungs_below + floor_held rungs_above z) (floor_below (floor_held rungs_below (neg z)) (neg z))

unfoldable pub ladder_before : Float → Float
ladder_before s = cond (is_nan s) nan (rung_value (rung_before (mul binary64 f8 (held s))))
