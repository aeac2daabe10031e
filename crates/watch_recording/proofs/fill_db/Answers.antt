use Rattle.std.proofs.Common.{arith}
use Rattle.laws.proofs.Fills.{turns}
use Rattle.watch_recording.proofs.fill_db.Invariants.{db_of}
use Rattle.watch_recording.proofs.fill_db.Goals as goal

pub loop-k-preserved : goal.loop-k-preserved
loop-k-preserved c = turns c.args.db.now (db_of c.args.hop.now) c.loop-k.k c.loop-k.db c.double_at.result c.loop-k.invariant (omega arith) c.double_at.ensures
