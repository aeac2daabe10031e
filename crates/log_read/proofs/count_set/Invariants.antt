-- `count` of the bits before k are set.
use Rattle.std.proofs.Common.{◌≡◌, ◌≤◌}
use Rattle.laws.specs.Tests.{tally}
use Rattle.log_model.specs.Read.{is_set}
use Rattle.log_read.proofs.count_set.Given as goal

abbrev pub invariant-loop-k : goal.invariant-loop-k
invariant-loop-k l = (l.count ≡ tally l.k (is_set l.log l.at)) × (l.count ≤ l.k)
