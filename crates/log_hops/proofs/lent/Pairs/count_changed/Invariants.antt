-- `changed` of the first k pairs are other ones.
use Rattle.std.proofs.Common.{◌≡◌, ◌≤◌}
use Rattle.laws.specs.Tests.{tally}
use Rattle.log_hops.specs.Hop.{marked}
use Rattle.log_hops.proofs.lent.Pairs.count_changed.Given as goal

abbrev pub invariant-loop-k : goal.invariant-loop-k
invariant-loop-k l = (l.changed ≡ tally l.k (marked l.self l.from)) × (l.changed ≤ l.k)
