-- `pair` is where the pair of channel `k` would stand, and no channel below `k` has the pair that the slices hold.
use Rattle.std.proofs.Common.{◌≡◌, false, length}
use Rattle.laws.specs.Tests.{any_below}
use Rattle.log_model.specs.Read.{pair_at, unchanged}
use Rattle.log_read.proofs.is_unchanged.Given as goal

abbrev pub invariant-loop-k : goal.invariant-loop-k
invariant-loop-k l =
    (l.pair ≡ pair_at l.log l.at (length l.db) l.k) × (any_below l.k (unchanged l.log l.at (length l.db) l.db l.power) ≡ false)
