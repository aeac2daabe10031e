-- The changed pairs of the channels below `k` are written, one behind the other.
use Rattle.std.proofs.Common.{◌≡◌, ◌+◌, ◌*◌}
use Rattle.laws.specs.Tests.{tally}
use Rattle.log_model.specs.Format.{pairs_of}
use Rattle.log_hops.specs.Put.{put}
use Rattle.log_hops.specs.Hop.{marked, db_bits, power_bits}
use Rattle.log_hops.proofs.lent.Pairs.put_pairs.Given as goal

abbrev pub invariant-loop-k : goal.invariant-loop-k
invariant-loop-k l =
    (l.pair ≡ l.at + 12 * tally l.k (marked l.self l.from))
    × (l.log ≡ put l.at (pairs_of l.k (marked l.self l.from) (db_bits l.self l.from) (power_bits l.self l.from)) l.fn.log)
