use Rattle.std.proofs.Common.{arith}
use Rattle.bank_sound.proofs.Checks.{fields-filled}
use Rattle.bank_sixteens.specs.Rows.{chan_in}
use Rattle.bank_sixteens.proofs.sixteen_sound.Goals as goal

pub counts_borne_out-requires-clause-filled_bound : goal.counts_borne_out-requires-clause-filled_bound
counts_borne_out-requires-clause-filled_bound c =
    let f = (c.at_once.ensures c.if-not-at_once.false).0 0 (omega arith) in
    (omega (arith, c.from.ensures, f.filled, fields-filled (chan_in c.args.first.now 0) f.fields), c.above.ensures.1)
