-- R-5: above 0 dB the ceiling, below it the floor of what is as far above. Assumes nothing.
use Rattle.std.proofs.Common.{arith}
use lib.Ieee.{neg}
use Rattle.model.specs.Layout.{rungs_below, rungs_above}
use Rattle.model.specs.Ladder.{rung}
use Rattle.model.proofs.Ceilings.{ceil-none, floor-none}
use Rattle.ladder.proofs.Rungs.{held-less}
use Rattle.ladder.proofs.rung.Goals as goal

pub returns-then-z : goal.returns-then-z
unfolding rung
returns-then-z c =
    (omega (arith, c.from.ensures, c.ceil_held.ensures, floor-none rungs_below c.args.z c.if-z.true), omega (arith, c.from.ensures, c.ceil_held.ensures))

pub returns-else-z : goal.returns-else-z
unfolding rung
returns-else-z c = (
  omega (
    arith,
    c.saturating_sub.ensures,
    c.from-else-z.ensures,
    c.floor_held.ensures.0,
    held-less (neg c.args.z),
    ceil-none rungs_above c.args.z c.if-z.false,
  ),
  omega (arith, c.saturating_sub.ensures),
)
