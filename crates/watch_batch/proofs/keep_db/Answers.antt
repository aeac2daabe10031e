-- `watch_batch::keep_db` meets its contract. Assumes nothing.
use Rattle.std.proofs.Common.{arith}
use Rattle.laws.proofs.Fills.{turns}
use Rattle.watch_batch.proofs.keep_db.Invariants.{entry}
use Rattle.watch_batch.proofs.keep_db.Goals as goal

pub loop-k-preserved : goal.loop-k-preserved
loop-k-preserved c =
    turns c.args.smooth.now (entry c.args.gate_f.now) c.loop-k.k c.loop-k.smooth c.entry_at.result c.loop-k.invariant (omega arith) c.entry_at.ensures
