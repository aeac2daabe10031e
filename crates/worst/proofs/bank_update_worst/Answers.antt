use Rattle.std.proofs.Common.{sym, arith}
use Rattle.std.proofs.lemmas.Result.{err_from_is_err_and}
use Rattle.model.specs.Bank.{hop}
use Rattle.refusals.proofs.Answers.{refuses}
use Rattle.worst.proofs.Carries.{refused, beside, hop-asks, floors-ask, slow, other}
use Rattle.worst.proofs.bank_update_worst.Goals as goal

pub returns-in_err-carry_refusal : goal.returns-in_err-carry_refusal
returns-in_err-carry_refusal c =
    let a = c.args in
    let p = err_from_is_err_and c.from_residual.result c.from_residual.ensures.1 in
    rw (p.1, p.2)
    (refused a.bank.now a.bank_f.now a.worst.now a.worst_f.now (hop a.hold_reference a.power_db.now a.power.now) _ c.in_err-carry_refusal.ensures (refuses _))

pub bounds-bank-1 : goal.bounds-bank-1
bounds-bank-1 c =
    let a = c.args in
    omega (arith, (beside a.bank.now a.bank_f.now a.worst.now a.worst_f.now (hop a.hold_reference a.power_db.now a.power.now) (sym c.in_ok-carry_refusal.ensures)).bank.long)

pub take_hop-requires : goal.take_hop-requires
take_hop-requires c =
    let a = c.args in
    hop-asks a.bank.now a.bank_f.now a.worst.now a.worst_f.now (hop a.hold_reference a.power_db.now a.power.now) (sym c.in_ok-carry_refusal.ensures)

pub returns-then-phase-ne0 : goal.returns-then-phase-ne0
returns-then-phase-ne0 c =
    let a = c.args in
    other a.bank.now a.bank_f.now a.worst.now a.worst_f.now (hop a.hold_reference a.power_db.now a.power.now) (sym c.in_ok-carry_refusal.ensures) _ _ c.take_hop.ensures c.if-phase-ne0.true

pub take_floors-requires : goal.take_floors-requires
take_floors-requires c =
    let a = c.args in
    floors-ask a.bank.now a.bank_f.now a.worst.now a.worst_f.now (hop a.hold_reference a.power_db.now a.power.now) (sym c.in_ok-carry_refusal.ensures) _ _ c.take_hop.ensures

pub returns : goal.returns
returns c =
    let a = c.args in
    slow a.bank.now a.bank_f.now a.worst.now a.worst_f.now (hop a.hold_reference a.power_db.now a.power.now) (sym c.in_ok-carry_refusal.ensures) _ _ c.take_hop.ensures c.if-phase-ne0.false _ _ c.take_floors.ensures
