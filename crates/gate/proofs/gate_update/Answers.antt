use Rattle.std.proofs.Common.{sym, length}
use Rattle.std.proofs.lemmas.Result.{err_from_is_err_and}
use Rattle.refusals.proofs.Answers.{refuses}
use Rattle.gate.proofs.Calls.{update-asked, update-refused, updated}
use Rattle.gate.proofs.gate_update.Goals as goal

pub returns-in_err-gate_update_refusal : goal.returns-in_err-gate_update_refusal
returns-in_err-gate_update_refusal c =
    let a = c.args in
    let p = err_from_is_err_and c.from_residual.result c.from_residual.ensures.1 in
    rw (p.1, p.2)
    (update-refused a.bank.now a.bank_f.now a.gate.now a.gate_f.now (record { db = a.power_db.now; power = a.power.now }) a.rise.now a.drop.now _ c.in_err-gate_update_refusal.ensures (refuses _))

pub take_hop-requires : goal.take_hop-requires
take_hop-requires c =
    let a = c.args in
    update-asked a.bank.now a.bank_f.now a.gate.now a.gate_f.now (length a.power_db.now) (length a.power.now) (length a.rise.now) (length a.drop.now) (sym c.in_ok-gate_update_refusal.ensures)

pub returns : goal.returns
returns c =
    let a = c.args in
    updated a.bank.now a.bank_f.now a.gate.now a.gate_f.now (record { db = a.power_db.now; power = a.power.now }) a.rise.now a.drop.now _ _ _ _ (sym c.in_ok-gate_update_refusal.ensures) c.take_hop.ensures
