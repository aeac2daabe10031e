use Rattle.std.proofs.Common.{◌∙◌, sym}
use Rattle.std.proofs.lemmas.Result.{err_from_is_err_and}
use Rattle.run_model.specs.Runs.{Run}
use Rattle.run_refusals.proofs.Refuses.{refusal-by}
use Rattle.refusals.proofs.Answers.{refuses}
use Rattle.receive.proofs.Going.{refused}
use Rattle.receive.proofs.receive.Goals as goal

pub returns-in_err-run_refusal : goal.returns-in_err-run_refusal
returns-in_err-run_refusal c =
    let a = c.args in
    let r : Run = record { hold = a.hold.now; db = a.power_db.now; power = a.power.now; rise = a.rise.now; drop = a.drop.now } in
    let p = err_from_is_err_and c.from_residual.result c.from_residual.ensures.1 in
    rw (p.1, p.2)
    (refused a.bank.now a.bank_f.now a.gate.now a.gate_f.now r _ (c.in_err-run_refusal.ensures ∙ refusal-by a.bank.now a.bank_f.now a.gate.now a.gate_f.now r) (refuses _))

pub run-requires : goal.run-requires
run-requires c =
    let a = c.args in
    sym (c.in_ok-run_refusal.ensures ∙ refusal-by a.bank.now a.bank_f.now a.gate.now a.gate_f.now (record { hold = a.hold.now; db = a.power_db.now; power = a.power.now; rise = a.rise.now; drop = a.drop.now }))
