use Rattle.std.proofs.Common.{arith}
use Rattle.bank_sound.proofs.Checks.{entry-below, is-one-bin, is-not-one-bin}
use Rattle.bank_sound.proofs.of_one_bin.Goals as goal

pub bounds-chan-from : goal.bounds-chan-from
bounds-chan-from c = omega (arith, entry-below c.args.ring.now.chan.now 0 c.args.ring.now.bins_alone (omega arith))

pub returns-then-chan-from : goal.returns-then-chan-from
returns-then-chan-from c =
    is-one-bin c.args.ring.now.chan.now c.args.ring.now.filled c.from.result c.from-then-chan-from.result c.other_entries.result c.from.ensures c.from-then-chan-from.ensures c.if-chan-from.true c.other_entries.ensures

pub returns-else-chan-from : goal.returns-else-chan-from
returns-else-chan-from c = is-not-one-bin c.args.ring.now.chan.now c.args.ring.now.filled c.from.result c.from.ensures c.if-chan-from.false
