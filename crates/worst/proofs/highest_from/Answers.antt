use Rattle.std.proofs.Common.{arith}
use lib.Ieee.{nan}
use Rattle.laws.proofs.Folds.{fold_next, fold_done}
use Rattle.model.specs.Numbers.{fmax}
use Rattle.worst.proofs.highest_from.Goals as goal

pub loop-floor-preserved : goal.loop-floor-preserved
loop-floor-preserved c =
    fold_next fmax c.args.x c.loop-floor.high c.greatest-high.result c.args.floors.now c.loop-floor.floor-index nan (omega arith) c.loop-floor.invariant c.greatest-high.ensures

pub returns : goal.returns
returns c = fold_done fmax c.args.x c.loop-floor.high c.args.floors.now c.loop-floor.floor-index (omega arith) c.loop-floor.invariant
