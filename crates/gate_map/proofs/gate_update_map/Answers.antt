use Rattle.std.proofs.Common.{◌∙◌, sym, ap, length}
use Rattle.std.proofs.lemmas.Result.{err_from_is_err_and}
use Rattle.model.specs.Map.{map_long}
use Rattle.refusals.proofs.Answers.{refuses}
use Rattle.gate_map.proofs.Carried.{update-asked, update-refused, updated}
use Rattle.gate_map.proofs.gate_update_map.Goals as goal

pub returns-in_err-update_map_refusal : goal.returns-in_err-update_map_refusal
returns-in_err-update_map_refusal c =
    let a = c.args in
    let p = err_from_is_err_and c.from_residual.result c.from_residual.ensures.1 in
    rw (p.1, p.2)
    (update-refused a.bank.now a.bank_f.now a.gate.now a.gate_f.now a.map.now (record { db = a.power_db.now; power = a.power.now }) a.rise.now a.drop.now _ c.in_err-update_map_refusal.ensures (refuses _))

pub take_hop-requires : goal.take_hop-requires
take_hop-requires c =
    let a = c.args in
    let t = update-asked a.bank.now a.bank_f.now a.gate.now a.gate_f.now a.map.now (length a.power_db.now) (length a.power.now) (length a.rise.now) (length a.drop.now) (sym c.in_ok-update_map_refusal.ensures) in
    record { paired = t.0.pair; db_long = t.1; power_long = t.2; rise_long = t.3; drop_long = t.4 }

pub set_marks-requires : goal.set_marks-requires
set_marks-requires c =
    let a = c.args in
    let t = update-asked a.bank.now a.bank_f.now a.gate.now a.gate_f.now a.map.now (length a.power_db.now) (length a.power.now) (length a.rise.now) (length a.drop.now) (sym c.in_ok-update_map_refusal.ensures) in
    let e = c.take_hop.auto.rise ∙ t.3 in (t.0.long ∙ ap map_long (sym e), c.take_hop.auto.drop ∙ t.4 ∙ sym e)

pub returns : goal.returns
returns c =
    let a = c.args in
    let t = update-asked a.bank.now a.bank_f.now a.gate.now a.gate_f.now a.map.now (length a.power_db.now) (length a.power.now) (length a.rise.now) (length a.drop.now) (sym c.in_ok-update_map_refusal.ensures) in
    updated a.bank.now a.bank_f.now a.gate.now a.gate_f.now a.map.now (record { db = a.power_db.now; power = a.power.now }) a.rise.now a.drop.now (length c.take_hop.new.rise) _ _ _ _ _
    (sym c.in_ok-update_map_refusal.ensures) (c.take_hop.auto.rise ∙ t.3) c.take_hop.ensures.holds c.take_hop.ensures.marked c.set_marks.ensures
