-- A turn is at a whole stretch; with its counts, the entries passed are those before the next. Assumes nothing.
use Rattle.std.proofs.Common.{◌≡◌, ℕ, ◌+◌, ◌%◌, ◌≤◌, refl, arith}
use Rattle.model.specs.Layout.{bins, ring_len}
use Rattle.model.specs.Ring.{ChannelFloor, entries}
use Rattle.model.specs.Stores.{chan_of}
use Rattle.model.specs.Sound.{Sound}
use Rattle.model.proofs.ChannelRank.{Scan, scan_begins, scan-inside}
use Rattle.quartile.specs.Scan.{stretch}
use Rattle.quartile.proofs.Channel.reached_stretch.Goals as goal

inside : {k : ChannelFloor} {rank passed b : ℕ} → Sound ring_len bins k → Scan (entries k) rank passed b → rank ≤ k.filled → b % stretch ≡ 0 → b + stretch ≤ bins
inside k s h e = omega (arith, scan-inside k s h)

pub loop-rank-init : goal.loop-rank-init
loop-rank-init c = (scan_begins (entries (chan_of c.args.self.now.part.now)) c.args.rank c.requires.0, refl)

pub stretch_sum-requires : goal.stretch_sum-requires
stretch_sum-requires c = inside c.args.self.now.sound c.loop-rank.invariant.0 c.requires.1 c.loop-rank.invariant.1

pub returns-then-with_next-rank-clause-bin_lt_bins : goal.returns-then-with_next-rank-clause-bin_lt_bins
returns-then-with_next-rank-clause-bin_lt_bins c =
    (scan-inside c.args.self.now.sound c.loop-rank.invariant.0 c.requires.1, c.loop-rank.invariant.0.sum)

pub loop-rank-smaller : goal.loop-rank-smaller
loop-rank-smaller c = omega (arith, inside c.args.self.now.sound c.loop-rank.invariant.0 c.requires.1 c.loop-rank.invariant.1)

pub loop-rank-preserved : goal.loop-rank-preserved
loop-rank-preserved c = (
  record {
    most = inside c.args.self.now.sound c.loop-rank.invariant.0 c.requires.1 c.loop-rank.invariant.1;
    sum = omega (arith, c.loop-rank.invariant.0.sum, c.stretch_sum.ensures, c.from.ensures);
    short = omega (arith, c.if-with_next-rank.false);
  },
  omega (arith, c.loop-rank.invariant.1),
)
