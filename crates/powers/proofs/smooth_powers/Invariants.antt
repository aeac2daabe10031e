-- The first k entries are written, and entry k is still the old one.
use Rattle.std.proofs.Common.{get_or}
use Rattle.laws.proofs.Fills.{Filled}
use Rattle.model.specs.Numbers.{f0, power_linear, smoothed}
use Rattle.powers.proofs.smooth_powers.Given as goal

abbrev pub invariant-loop-k : goal.invariant-loop-k
invariant-loop-k l = Filled l.fn.smooth (λ k. smoothed (get_or l.fn.smooth k f0) (power_linear (get_or l.power k f0))) l.k l.smooth
