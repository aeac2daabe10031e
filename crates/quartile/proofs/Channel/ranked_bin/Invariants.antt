-- The entries below bin b were passed, fewer than the rank. The scan ends inside, so a bin is left at each turn.
use Rattle.std.proofs.Common.{◌-◌}
use Rattle.model.specs.Layout.{bins}
use Rattle.model.specs.Ring.{entries}
use Rattle.model.specs.Stores.{chan_of}
use Rattle.model.proofs.ChannelRank.{Scan}
use Rattle.quartile.proofs.Channel.ranked_bin.Given as goal

abbrev pub invariant-loop-passed : goal.invariant-loop-passed
invariant-loop-passed l = Scan (entries (chan_of l.self.part.now)) l.rank l.passed l.b

abbrev pub decreases-loop-passed : goal.decreases-loop-passed
decreases-loop-passed l = bins - l.b
