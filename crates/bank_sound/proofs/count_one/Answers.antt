use Rattle.std.proofs.Common.{◌<◌, arith}
use Rattle.model.specs.Layout.{bins}
use Rattle.bank_sound.proofs.Checks.{entry-below}
use Rattle.bank_sound.proofs.Tallies.{tallied-more, tallied-le}
use Rattle.bank_sound.proofs.count_one.Goals as goal

pub bounds-t-lane : goal.bounds-t-lane
bounds-t-lane c = omega (arith, entry-below c.args.ring.now.chan.now c.args.i c.args.ring.now.bins_alone (omega arith))

pub overflow_add-t-2 : goal.overflow_add-t-2
overflow_add-t-2 c =
    let g : c.from.result < bins = omega (arith, entry-below c.args.ring.now.chan.now c.args.i c.args.ring.now.bins_alone (omega arith)) in
    omega (arith, tallied-le c.args.ring.now.chan.now c.args.t.now c.args.i c.from.result c.args.lane (omega (arith, c.args.ring.now.long)) c.requires.tallied g (omega arith))

pub bounds-t-lane-2 : goal.bounds-t-lane-2
bounds-t-lane-2 c = omega (arith, entry-below c.args.ring.now.chan.now c.args.i c.args.ring.now.bins_alone (omega arith))

pub returns : goal.returns
returns c =
    let l = c.args.ring.now.chan.now in
    rw c.from.ensures (tallied-more l c.args.t.now c.args.i c.args.lane (omega arith) (omega (arith, c.args.ring.now.long)) (entry-below l c.args.i c.args.ring.now.bins_alone (omega arith)) c.requires.tallied)
