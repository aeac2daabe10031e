-- `windows::sum`: one more sample, and none left.
use Rattle.model.specs.Numbers.{f0}
use Rattle.model.specs.Windows.{total}
use Rattle.windows.proofs.Loops.{total-turns, total-done}
use Rattle.windows.proofs.sum.Goals as goal

pub loop-sample-preserved : goal.loop-sample-preserved
loop-sample-preserved c =
    let s = c.args.samples.now in
    total-turns (total f0 s) s c.loop-sample.sample-index c.loop-sample.so_far c.loop-sample-test.true c.loop-sample.invariant

pub returns : goal.returns
returns c =
    let s = c.args.samples.now in
    total-done (total f0 s) s c.loop-sample.sample-index c.loop-sample.so_far c.loop-sample-test.false c.loop-sample.invariant
