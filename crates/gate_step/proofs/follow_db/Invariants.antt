-- `gate_step::follow_db`: the first k entries have followed.
use Rattle.std.proofs.Common.{List, ℕ, get_or}
use lib.Ieee.{Float}
use Rattle.laws.proofs.Fills.{Filled}
use Rattle.model.specs.Numbers.{f0, smoothed}
use Rattle.gate_step.proofs.follow_db.Given as goal

abbrev pub entry : List Float → List Float → ℕ → Float
entry smooth db k = smoothed (get_or smooth k f0) (get_or db k f0)

abbrev pub invariant-loop-k : goal.invariant-loop-k
invariant-loop-k l = Filled l.fn.smooth (entry l.fn.smooth l.power_db) l.k l.smooth
