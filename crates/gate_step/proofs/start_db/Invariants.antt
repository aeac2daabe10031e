-- `gate_step::start_db`: the first k entries are written.
use Rattle.std.proofs.Common.{get_or}
use Rattle.laws.proofs.Fills.{Filled}
use Rattle.model.specs.Numbers.{f0}
use Rattle.gate_step.proofs.start_db.Given as goal

abbrev pub invariant-loop-k : goal.invariant-loop-k
invariant-loop-k l = Filled l.fn.smooth (λ k. get_or l.power_db k f0) l.k l.smooth
