-- What the four stores leave is the channel with the bin entered. Assumes nothing.
use Rattle.std.proofs.Common.{arith}
use Rattle.ring.proofs.Entered.{took}
use Rattle.ring.proofs.enter.Goals as goal

pub returns : goal.returns
returns c =
    simp (c.next_place.ensures, c.from-at.ensures, c.from-place.ensures)
    (took c.args.chan.now (omega arith) c.args.bin c.args.rise c.requires.roomy.next_below c.requires.bin_lt_bins.0)
