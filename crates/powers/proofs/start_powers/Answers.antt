-- Assumes nothing.
use Rattle.std.proofs.Common.{ap, ◌∙◌, arith}
use lib.Ieee.{nan}
use Rattle.model.specs.Numbers.{f0, power_linear}
use Rattle.laws.proofs.Defaults.{get_d_any}
use Rattle.laws.proofs.Fills.{begins, turns, done}
use Rattle.powers.proofs.start_powers.Goals as goal

pub loop-k-init : goal.loop-k-init
loop-k-init c = begins _ _

pub loop-k-preserved : goal.loop-k-preserved
loop-k-preserved c =
    turns _ _ c.loop-k.k c.loop-k.smooth c.power_linear.result c.loop-k.invariant (omega arith)
    (c.power_linear.ensures ∙ ap power_linear (get_d_any c.args.power.now c.loop-k.k nan f0 c.loop-k-test.true))

pub returns : goal.returns
returns c = done _ _ c.loop-k.k c.loop-k.smooth c.loop-k.invariant (omega arith)
