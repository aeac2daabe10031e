-- The part that is lent is the block. Assumes nothing.
use Rattle.std.proofs.Common.{◌*◌, ap, ◌∙◌, arith}
use Rattle.model.specs.Layout.{block_channels}
use Rattle.model.specs.Bank.{median}
use Rattle.median.proofs.Ranks.{cut}
use Rattle.median.proofs.block_median.Goals as goal

pub returns : goal.returns
returns c =
    c.median.ensures ∙ ap median (cut (block_channels * c.args.i) block_channels c.min-e.result c.args.l.now (omega arith) (omega (arith, c.min-e.ensures)))
