-- `watch_batch::whole_hops` meets its contract. Assumes nothing.
use Rattle.std.proofs.Common.{◌*◌}
use Rattle.watch_batch.proofs.Batches.{Front}
use Rattle.watch_batch.proofs.whole_hops.Given as goal

abbrev pub invariant-loop-i : goal.invariant-loop-i
invariant-loop-i l = Front l.bytes l.size l.i (l.size * l.i)
