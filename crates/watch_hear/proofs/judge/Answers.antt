-- `watch_hear::judge` meets its contract: the bank, then the gate. Assumes nothing.
use Rattle.std.proofs.Common.{◌≡◌, rules}
use Rattle.refusals.specs.Numbers.{number_of}
use Rattle.watch_hear.specs.Judged.{Judged, judged}
use Rattle.refusals.proofs.Answers.{refuses}
use Rattle.watch_hear.proofs.Steps.{refused, taken}
use Rattle.watch_hear.proofs.judge.Goals as goal

pub returns-in_err-judge_bank : goal.returns-in_err-judge_bank
returns-in_err-judge_bank c =
    let a = c.args in
    let e = c.in_err-judge_bank.field-0.0 in
    let n = c.judge_bank.new in
    let left : Judged = (number_of e, n.bank, n.bank_f, n.worst, n.worst_f, a.gate.now, a.gate_f.now, a.rise.now, a.drop.now) in
    let h : left ≡ judged a.carries a.is_static a.bank.now a.bank_f.now a.worst.now a.worst_f.now a.gate.now a.gate_f.now (record { db = a.db.now; power = a.power.now }) a.rise.now a.drop.now =
    refused _ _ _ _ _ _ _ _ _ _ _ _ _ _ _ _ (refuses e) c.in_err-judge_bank.ensures in
    search (rules, h)

pub returns : goal.returns
returns c = taken _ _ _ _ _ _ _ _ _ _ _ _ _ _ _ _ c.in_ok-judge_bank.ensures c.judge_gate.ensures
