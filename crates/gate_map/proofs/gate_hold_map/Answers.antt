use Rattle.std.proofs.Common.{◌∙◌, sym, ap, ℕ, length}
use Rattle.std.proofs.lemmas.Result.{err_from_is_err_and}
use Rattle.model.specs.Map.{map_long, marks_set}
use Rattle.refusals.proofs.Answers.{refuses}
use Rattle.gate_map.proofs.Carried.{hold-asked, hold-refused, held}
use Rattle.gate_map.proofs.gate_hold_map.Goals as goal

pub returns-in_err-hold_map_refusal : goal.returns-in_err-hold_map_refusal
returns-in_err-hold_map_refusal c =
    let a = c.args in
    let p = err_from_is_err_and c.from_residual.result c.from_residual.ensures.1 in
    rw (p.1, p.2)
    (hold-refused a.bank.now a.bank_f.now a.gate.now a.gate_f.now a.map.now a.rise.now a.drop.now _ c.in_err-hold_map_refusal.ensures (refuses _))

pub take_hold-requires : goal.take_hold-requires
take_hold-requires c =
    let a = c.args in
    let t = hold-asked a.bank.now a.bank_f.now a.gate.now a.gate_f.now a.map.now (length a.rise.now) (length a.drop.now) (sym c.in_ok-hold_map_refusal.ensures) in
    record { paired = t.0.pair; rise_long = t.1; drop_long = t.2 }

pub set_marks-requires : goal.set_marks-requires
set_marks-requires c =
    let a = c.args in
    let t = hold-asked a.bank.now a.bank_f.now a.gate.now a.gate_f.now a.map.now (length a.rise.now) (length a.drop.now) (sym c.in_ok-hold_map_refusal.ensures) in
    let e = c.take_hold.auto.rise ∙ t.1 in (
      t.0.long ∙ ap map_long (sym e),
      c.take_hold.auto.drop ∙ t.2 ∙ sym e,
    )

pub returns : goal.returns
returns c =
    let a = c.args in
    let t = hold-asked a.bank.now a.bank_f.now a.gate.now a.gate_f.now a.map.now (length a.rise.now) (length a.drop.now) (sym c.in_ok-hold_map_refusal.ensures) in
    held a.bank.now a.bank_f.now a.gate.now a.gate_f.now a.map.now a.rise.now a.drop.now _ _ _ _
    (sym c.in_ok-hold_map_refusal.ensures) c.take_hold.ensures.holds.floats c.take_hold.ensures.marked
    (c.set_marks.ensures ∙ ap (λ (j : ℕ). marks_set j a.map.now c.take_hold.new.rise c.take_hold.new.drop) (c.take_hold.auto.rise ∙ t.1))
