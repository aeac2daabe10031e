-- Assumes nothing.
use Rattle.std.proofs.Common.{ap, ap₂, ◌∙◌, arith}
use lib.Ieee.{nan}
use Rattle.model.specs.Numbers.{f0, power_linear, smoothed}
use Rattle.laws.proofs.Defaults.{get_d_any}
use Rattle.laws.proofs.Fills.{begins, unwritten, turns, done}
use Rattle.powers.proofs.smooth_powers.Goals as goal

pub loop-k-init : goal.loop-k-init
loop-k-init c = begins _ _

pub loop-k-preserved : goal.loop-k-preserved
loop-k-preserved c =
    turns _ _ c.loop-k.k c.loop-k.smooth c.smooth_step.result c.loop-k.invariant (omega arith)
    (c.smooth_step.ensures
    ∙ ap₂ smoothed (unwritten _ _ c.loop-k.k c.loop-k.smooth nan f0 c.loop-k.invariant (omega arith))
    (c.power_linear.ensures ∙ ap power_linear (get_d_any c.args.power.now c.loop-k.k nan f0 c.loop-k-test.true)))

pub returns : goal.returns
returns c = done _ _ c.loop-k.k c.loop-k.smooth c.loop-k.invariant (omega arith)
