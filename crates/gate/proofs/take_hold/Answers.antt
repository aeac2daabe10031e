-- `gate::take_hold`: the gate that it leaves is the one that it judges.
use Rattle.gate.proofs.Calls.{left-paired, left-marked, hold-good, hold-n, hold_holds}
use Rattle.gate.proofs.take_hold.Goals as goal

pub judge-requires : goal.judge-requires
judge-requires c =
    let a = c.args in
    let p = c.requires.paired in
    let h = hold_holds a.bank.now a.bank_f.now a.gate.now a.gate_f.now p _ c.refresh_started.ensures in
    (left-paired _ _ _ _ p _ (hold-good _ _ _ _ p) (hold-n _ _ _ _ p) _ _ h, c.requires.rise_long, c.requires.drop_long)

pub returns : goal.returns
returns c =
    let a = c.args in
    let p = c.requires.paired in
    let h = hold_holds a.bank.now a.bank_f.now a.gate.now a.gate_f.now p _ c.refresh_started.ensures in
    record { holds = h; marked = left-marked _ _ _ _ p _ (hold-good _ _ _ _ p) (hold-n _ _ _ _ p) _ _ h _ _ _ c.judge.ensures }
