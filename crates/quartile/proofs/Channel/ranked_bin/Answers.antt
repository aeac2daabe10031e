-- What a turn reads is how often its bin occurs. Assumes nothing.
use Rattle.std.proofs.Common.{◌≡◌, ◌<◌, ◌∙◌, arith}
use Rattle.laws.specs.Lists.{occ}
use Rattle.laws.proofs.Counting.{occ-le}
use Rattle.model.specs.Layout.{bins}
use Rattle.model.specs.Ring.{entries}
use Rattle.model.specs.Stores.{chan_of}
use Rattle.model.proofs.ChannelRank.{scan-inside, scan-turns, scan-finds, count_at, length-entries}
use Rattle.quartile.proofs.Channel.ranked_bin.Goals as goal
use Rattle.quartile.proofs.Channel.ranked_bin.Goals.{After-from-passed}

inside : (c : After-from-passed) → c.loop-passed.b < bins
inside c = scan-inside c.args.self.now.sound c.loop-passed.invariant c.requires.1

reads : (c : After-from-passed) → c.from-passed.result ≡ occ c.loop-passed.b (entries (chan_of c.args.self.now.part.now))
reads c = c.from-passed.ensures ∙ count_at c.args.self.now.part.now c.loop-passed.b c.args.self.now.sound (inside c)

pub returns-then-passed-rank : goal.returns-then-passed-rank
returns-then-passed-rank c =
    let p = (goal.at.returns-then-passed-rank c).After-from-passed in
    scan-finds c.from-passed.result c.loop-passed.invariant (reads p) (omega (arith, c.if-passed-rank.true))

pub loop-passed-smaller : goal.loop-passed-smaller
loop-passed-smaller c = omega (arith, inside (goal.at.loop-passed-smaller c).After-from-passed)

pub loop-passed-preserved : goal.loop-passed-preserved
loop-passed-preserved c =
    let p = (goal.at.loop-passed-preserved c).After-from-passed in
    scan-turns c.from-passed.result c.loop-passed.invariant (reads p) (inside p) (omega (arith, c.if-passed-rank.false))

-- a count is at most all entries
pub overflow_add-passed : goal.overflow_add-passed
overflow_add-passed c =
    let k = chan_of c.args.self.now.part.now in
    omega (
      arith,
      reads c,
      occ-le c.loop-passed.b (entries k),
      length-entries k c.args.self.now.sound,
      c.args.self.now.sound.filled_within,
      c.loop-passed.invariant.short,
      c.requires.1,
    )
