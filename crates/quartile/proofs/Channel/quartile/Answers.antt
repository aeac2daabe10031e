-- No more is skipped than there is. Assumes nothing.
use Rattle.std.proofs.Common.{ℕ, ◌≤◌, List, get_or, ap, ◌∙◌, arith}
use Rattle.laws.proofs.Lists.{get_d_part}
use Rattle.model.specs.Layout.{bins, at_counts}
use Rattle.model.specs.Ring.{centre_of}
use Rattle.model.specs.Stores.{chan_of}
use Rattle.model.proofs.ChannelRank.{skip-within, nothing_left, some_left}
use Rattle.quartile.proofs.Channel.quartile.Goals as goal

zeros : (l : List ℕ) (skip : ℕ) → skip ≤ get_or l at_counts 0 → skip ≤ get_or (chan_of l).counts 0 0
zeros l skip h = omega (arith, get_d_part at_counts bins l 0 0 (omega arith))

pub overflow_sub-left : goal.overflow_sub-left
overflow_sub-left c =
    let l = c.args.self.now.part.now in
    omega (arith, skip-within (chan_of l) c.args.skip c.args.self.now.sound (omega arith) (zeros l c.args.skip c.requires), c.from.ensures)

pub returns-then-left-eq0 : goal.returns-then-left-eq0
returns-then-left-eq0 c = nothing_left (chan_of c.args.self.now.part.now) c.args.skip c.from.result c.from.ensures c.if-left-eq0.true

pub returns-else-left-eq0 : goal.returns-else-left-eq0
returns-else-left-eq0 c =
    let l = c.args.self.now.part.now in
    c.bin_centre.ensures
    ∙ ap centre_of c.ranked_bin.ensures
    ∙ some_left (chan_of l) c.args.skip c.from.result c.args.self.now.sound (omega arith) (zeros l c.args.skip c.requires) c.from.ensures
    (omega (arith, c.if-left-eq0.false))
