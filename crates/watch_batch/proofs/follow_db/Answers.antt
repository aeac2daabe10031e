-- `watch_batch::follow_db` meets its contract. Assumes nothing.
use Rattle.std.proofs.Common.{ap₂, ◌∙◌, arith}
use lib.Ieee.{nan}
use Rattle.model.specs.Numbers.{f0}
use Rattle.model.specs.Gate.{db_after}
use Rattle.laws.proofs.Fills.{unwritten, turns}
use Rattle.watch_batch.proofs.follow_db.Invariants.{entry}
use Rattle.watch_batch.proofs.follow_db.Goals as goal

pub loop-k-preserved : goal.loop-k-preserved
loop-k-preserved c =
    let a = c.args in
    let s = entry a.started a.smooth.now a.db.now in
    turns a.smooth.now s c.loop-k.k c.loop-k.smooth c.db_after.result c.loop-k.invariant (omega arith)
    (c.db_after.ensures ∙ ap₂ (db_after a.started) (unwritten a.smooth.now s c.loop-k.k c.loop-k.smooth nan f0 c.loop-k.invariant (omega arith)) c.entry_at.ensures)
