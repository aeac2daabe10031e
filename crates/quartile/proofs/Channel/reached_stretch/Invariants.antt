-- A scan before bin b, which is where a stretch begins. The rank is reached inside, so a whole stretch is left at each turn.
use Rattle.std.proofs.Common.{◌≡◌, ◌-◌, ◌%◌}
use Rattle.model.specs.Layout.{bins}
use Rattle.model.specs.Ring.{entries}
use Rattle.model.specs.Stores.{chan_of}
use Rattle.model.proofs.ChannelRank.{Scan}
use Rattle.quartile.specs.Scan.{stretch}
use Rattle.quartile.proofs.Channel.reached_stretch.Given as goal

abbrev pub invariant-loop-rank : goal.invariant-loop-rank
invariant-loop-rank l = Scan (entries (chan_of l.self.part.now)) l.rank l.passed l.b × (l.b % stretch ≡ 0)

abbrev pub decreases-loop-rank : goal.decreases-loop-rank
decreases-loop-rank l = bins - l.b
