-- `windows::sum`: what is left is added to the sum so far.
use Rattle.std.proofs.Common.{◌≡◌, drop}
use Rattle.model.specs.Numbers.{f0}
use Rattle.model.specs.Windows.{total}
use Rattle.windows.proofs.sum.Given as goal

abbrev pub invariant-loop-sample : goal.invariant-loop-sample
invariant-loop-sample l = total f0 l.samples ≡ total l.so_far (drop l.sample-index l.samples)
