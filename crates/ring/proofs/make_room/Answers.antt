-- A ring that is not full has one entry more. Assumes nothing.
use Rattle.std.proofs.Common.{get_or, arith, ne_eqb}
use Rattle.ring.proofs.Entered.{grown}
use Rattle.model.specs.Layout.{ring_len, at_filled}
use Rattle.ring.proofs.make_room.Goals as goal

pub returns-else-filled-eq-RING_LEN_U16 : goal.returns-else-filled-eq-RING_LEN_U16
returns-else-filled-eq-RING_LEN_U16 c =
    rw (ne_eqb (get_or c.args.chan.now at_filled 0) ring_len (λ e. omega arith)) (grown c.args.chan.now (omega arith))
