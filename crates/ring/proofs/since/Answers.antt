-- The lead is within the entries of bin 0, which are no more than all entries. Assumes nothing.
use Rattle.std.proofs.Common.{arith, length-take}
use Rattle.model.specs.Ring.{entries}
use Rattle.model.specs.Stores.{chan_of}
use Rattle.laws.proofs.Counting.{occ-le}
use Rattle.ring.proofs.since.Goals as goal

pub overflow_sub-result : goal.overflow_sub-result
overflow_sub-result c =
    let ch = chan_of c.args.chan.now in
    omega (
      arith,
      c.requires.lead_within,
      c.requires.recount 0 (omega arith),
      occ-le 0 (entries ch),
      length-take ch.filled ch.ring,
    )
