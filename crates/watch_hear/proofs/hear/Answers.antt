-- `watch_hear::hear` meets its contract: a whole hop goes to the bank and the gate. Assumes nothing.
use Rattle.std.proofs.Common.{rules}
use Rattle.watch_hear.specs.Heard.{heard_of}
use Rattle.watch_hear.proofs.Steps.{heard}
use Rattle.watch_hear.proofs.hear.Goals as goal

pub returns-in_err-is_static : goal.returns-in_err-is_static
unfolding heard_of
returns-in_err-is_static c = search rules

pub returns : goal.returns
returns c = heard _ _ _ _ _ _ _ _ _ _ _ _ _ _ c.in_ok-is_static.was c.judge.ensures c.taken.ensures
