-- `gate_step::start_db`: entry k is the hop's.
use Rattle.std.proofs.Common.{get_or, arith}
use lib.Ieee.{nan}
use Rattle.laws.proofs.Defaults.{get_d_any}
use Rattle.laws.proofs.Fills.{begins, turns, done}
use Rattle.model.specs.Numbers.{f0}
use Rattle.gate_step.proofs.start_db.Goals as goal

pub loop-k-init : goal.loop-k-init
loop-k-init c = begins _ _

pub loop-k-preserved : goal.loop-k-preserved
loop-k-preserved c =
    turns c.args.smooth.now (λ k. get_or c.args.power_db.now k f0) c.loop-k.k c.loop-k.smooth _ c.loop-k.invariant (omega arith) (get_d_any c.args.power_db.now c.loop-k.k nan f0 (omega arith))

pub returns : goal.returns
returns c = done c.args.smooth.now (λ k. get_or c.args.power_db.now k f0) c.loop-k.k c.loop-k.smooth c.loop-k.invariant (omega arith)
