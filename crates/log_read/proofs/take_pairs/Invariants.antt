-- `pair` is where the pair of channel `k` would stand, and the channels below `k` hold what they hold after the hop.
use Rattle.std.proofs.Common.{◌≡◌}
use Rattle.laws.proofs.Fills.{Filled}
use Rattle.log_model.specs.Read.{pair_at, db_after, power_after}
use Rattle.log_read.proofs.take_pairs.Given as goal

abbrev pub invariant-loop-k : goal.invariant-loop-k
invariant-loop-k l =
    (l.pair ≡ pair_at l.log l.at l.n l.k)
    × (Filled l.fn.db (db_after l.log l.at l.n l.fn.db) l.k l.db × Filled l.fn.power (power_after l.log l.at l.n l.fn.power) l.k l.power)
