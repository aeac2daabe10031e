-- The entries below bin b and the sum come to the entries below the bin whose turn it is.
use Rattle.std.proofs.Common.{◌≡◌, ◌+◌}
use Rattle.model.specs.Stores.{chan_of}
use Rattle.quartile.specs.Scan.{entries_below}
use Rattle.quartile.proofs.Channel.stretch_sum.Given as goal

abbrev pub invariant-loop-count : goal.invariant-loop-count
invariant-loop-count l = entries_below l.b (chan_of l.self.part.now) + l.sum ≡ entries_below (l.b + l.count-index) (chan_of l.self.part.now)
