-- The first k entries are written.
use Rattle.std.proofs.Common.{get_or}
use Rattle.laws.proofs.Fills.{Filled}
use Rattle.model.specs.Numbers.{f0, power_linear}
use Rattle.powers.proofs.start_powers.Given as goal

abbrev pub invariant-loop-k : goal.invariant-loop-k
invariant-loop-k l = Filled l.fn.smooth (λ k. power_linear (get_or l.power k f0)) l.k l.smooth
