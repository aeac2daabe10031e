-- The first k of the front are those of the back.
use Rattle.std.proofs.Common.{◌≡◌, ◌++◌, take, drop}
use Rattle.log_combine.proofs.step_back.Given as goal

abbrev pub invariant-loop-k : goal.invariant-loop-k
invariant-loop-k g l = l.front ≡ take l.k l.back ++ drop l.k l.initial.front
