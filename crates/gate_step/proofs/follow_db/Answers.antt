-- `gate_step::follow_db`: entry k is still the old one.
use Rattle.std.proofs.Common.{ap₂, ◌∙◌, arith}
use lib.Ieee.{nan}
use Rattle.laws.proofs.Defaults.{get_d_any}
use Rattle.laws.proofs.Fills.{begins, unwritten, turns, done}
use Rattle.model.specs.Numbers.{f0, smoothed}
use Rattle.gate_step.proofs.follow_db.Invariants.{entry}
use Rattle.gate_step.proofs.follow_db.Goals as goal

pub loop-k-init : goal.loop-k-init
loop-k-init c = begins _ _

pub loop-k-preserved : goal.loop-k-preserved
loop-k-preserved c =
    let s = c.args.smooth.now in
    let db = c.args.power_db.now in
    let k = c.loop-k.k in
    turns s (entry s db) k c.loop-k.smooth c.smooth_step.result c.loop-k.invariant (omega arith)
    (c.smooth_step.ensures ∙ ap₂ smoothed (unwritten s (entry s db) k c.loop-k.smooth nan f0 c.loop-k.invariant (omega arith)) (get_d_any db k nan f0 (omega arith)))

pub returns : goal.returns
returns c =
    let s = c.args.smooth.now in
    done s (entry s c.args.power_db.now) c.loop-k.k c.loop-k.smooth c.loop-k.invariant (omega arith)
