use Rattle.std.proofs.Common.{sym, length}
use Rattle.std.proofs.lemmas.Result.{err_from_is_err_and}
use Rattle.refusals.proofs.Answers.{refuses}
use Rattle.gate.proofs.Calls.{hold-asked, hold-refused, held-marks}
use Rattle.gate.proofs.gate_hold.Goals as goal

pub returns-in_err-hold_refusal : goal.returns-in_err-hold_refusal
returns-in_err-hold_refusal c =
    let a = c.args in
    let p = err_from_is_err_and c.from_residual.result c.from_residual.ensures.1 in
    rw (p.1, p.2) (hold-refused a.bank.now a.bank_f.now a.gate.now a.gate_f.now a.rise.now a.drop.now _ c.in_err-hold_refusal.ensures (refuses _))

pub take_hold-requires : goal.take_hold-requires
take_hold-requires c =
    let a = c.args in
    hold-asked a.bank.now a.bank_f.now a.gate.now a.gate_f.now (length a.rise.now) (length a.drop.now) (sym c.in_ok-hold_refusal.ensures)

pub returns : goal.returns
returns c =
    let a = c.args in
    held-marks a.bank.now a.bank_f.now a.gate.now a.gate_f.now a.rise.now a.drop.now _ _ _ (sym c.in_ok-hold_refusal.ensures) c.take_hold.ensures
