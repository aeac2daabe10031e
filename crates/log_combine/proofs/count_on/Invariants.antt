-- So many hops were read, and the slices hold the last.
use Rattle.std.proofs.Common.{◌-◌, length}
use Rattle.log_combine.proofs.Counts.{Counting}
use Rattle.log_combine.proofs.count_on.Given as goal

abbrev pub invariant-loop-next : goal.invariant-loop-next
invariant-loop-next l = Counting l.log l.db l.power l.at l.hops_read

abbrev pub decreases-loop-next : goal.decreases-loop-next
decreases-loop-next l = length l.log - l.at
