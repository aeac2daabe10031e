-- Room is made, then the bin enters. Assumes nothing.
use Rattle.std.proofs.Common.{arith, eqb, get_or, sym, ◌∙◌, subst}
use Rattle.ring.specs.Push.{Roomy}
use Rattle.ring.proofs.Entered.{roomy, pushed}
use Rattle.model.specs.Layout.{ring_len, at_filled}
use Rattle.ring.proofs.push.Goals as goal

pub enter-requires-clause-roomy : goal.enter-requires-clause-roomy
enter-requires-clause-roomy c =
    let l = c.args.chan.now in
    subst Roomy (sym c.make_room.ensures) (roomy l (omega arith) (eqb (get_or l at_filled 0) ring_len) c.requires.sound)

pub returns : goal.returns
returns c =
    c.enter.ensures
    ∙ pushed c.args.chan.now (omega arith) c.make_room.new.chan c.args.quiet c.args.bin c.lead_rise.result c.make_room.ensures c.lead_rise.ensures.0
