-- Past the refusals the hop is taken. Assumes nothing.
use Rattle.std.proofs.Common.{sym}
use Rattle.model.specs.Bank.{hop}
use Rattle.bank_stages.proofs.Stages.{accepted, asked}
use Rattle.bank.proofs.bank_update_holding_reference.Goals as goal

pub take_hop-requires : goal.take_hop-requires
take_hop-requires c =
    let a = c.args in
    asked a.bank.now a.bank_f.now a.power_db.now a.power.now (sym c.in_ok-update_refusal.ensures)

pub returns : goal.returns
returns c =
    let a = c.args in
    accepted a.bank.now _ a.bank_f.now _ (hop a.hold_reference a.power_db.now a.power.now) (sym c.in_ok-update_refusal.ensures) c.take_hop.ensures
