-- `watch_hear::judge_gate` meets its contract: a hold or an update. Assumes nothing.
use Rattle.watch_hear.proofs.Steps.{held, stepped}
use Rattle.watch_hear.proofs.judge_gate.Goals as goal

pub returns-then-is_static : goal.returns-then-is_static
returns-then-is_static c = held _ _ _ _ _ _ _ _ _ _ _ _ c.if-is_static.true c.gate_hold.ensures

pub returns : goal.returns
returns c = stepped _ _ _ _ _ _ _ _ _ c.if-is_static.false c.gate_update.ensures
