-- `watch_log::fill` meets its contract. Assumes nothing.
use Rattle.std.proofs.Common.{arith, ap, ◌∙◌}
use Rattle.laws.proofs.Fills.{turns}
use Rattle.watch_log.proofs.fill.Goals as goal

pub loop-k-preserved : goal.loop-k-preserved
loop-k-preserved g c =
    turns _ _ _ _ _ c.loop-k.invariant (omega arith) (c.requires.1.1.1.1 _ _ c.float.ensures ∙ ap g.of c.entry_at.ensures)
