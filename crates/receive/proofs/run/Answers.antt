use Rattle.std.proofs.Common.{◌+◌, ◌∙◌, ap, refl, ℕ, arith}
use Rattle.laws.proofs.Lists.{width}
use Rattle.run_model.specs.Runs.{Run, received, alone}
use Rattle.receive.proofs.Going.{longs, gate-thirty, begins, within, hop-taken-by, goes-on-by, ends}
use Rattle.receive.proofs.run.Goals as goal

pub bounds-gate-0 : goal.bounds-gate-0
bounds-gate-0 c =
    let a = c.args in
    omega (arith, gate-thirty a.bank.now a.bank_f.now a.gate.now a.gate_f.now (record { hold = a.hold.now; db = a.power_db.now; power = a.power.now; rise = a.rise.now; drop = a.drop.now }) c.requires)

pub loop-held-init : goal.loop-held-init
loop-held-init c =
    let a = c.args in
    (begins c.from-n.result a.bank.now a.bank_f.now a.gate.now a.gate_f.now (record { hold = a.hold.now; db = a.power_db.now; power = a.power.now; rise = a.rise.now; drop = a.drop.now }) c.from-n.ensures c.requires, refl, refl, refl, refl, refl)

pub overflow_add-e : goal.overflow_add-e
overflow_add-e c =
    let a = c.args in
    let r : Run = record { hold = a.hold.now; db = a.power_db.now; power = a.power.now; rise = a.rise.now; drop = a.drop.now } in
    let n = c.from-n.result in
    let m = longs n a.bank.now a.bank_f.now a.gate.now a.gate_f.now r c.from-n.ensures c.requires in
    let l = c.loop-held in
    omega (arith, within n _ r l.held-index l.at l.bank l.bank_f l.gate l.gate_f l.rise l.drop m l.invariant.0 (omega arith) _ m.db)

pub overflow_add-marked : goal.overflow_add-marked
overflow_add-marked c =
    let a = c.args in
    let r : Run = record { hold = a.hold.now; db = a.power_db.now; power = a.power.now; rise = a.rise.now; drop = a.drop.now } in
    let n = c.from-n.result in
    let m = longs n a.bank.now a.bank_f.now a.gate.now a.gate_f.now r c.from-n.ensures c.requires in
    let l = c.loop-held in
    omega (arith, within n _ r l.held-index l.at l.bank l.bank_f l.gate l.gate_f l.rise l.drop m l.invariant.0 (omega arith) _ m.db, l.invariant.5)

pub offset_bounds-power_db-at : goal.offset_bounds-power_db-at
offset_bounds-power_db-at c =
    let a = c.args in
    let r : Run = record { hold = a.hold.now; db = a.power_db.now; power = a.power.now; rise = a.rise.now; drop = a.drop.now } in
    let n = c.from-n.result in
    let m = longs n a.bank.now a.bank_f.now a.gate.now a.gate_f.now r c.from-n.ensures c.requires in
    let l = c.loop-held in
    omega (arith, within n _ r l.held-index l.at l.bank l.bank_f l.gate l.gate_f l.rise l.drop m l.invariant.0 (omega arith) _ m.db)

pub slice_bounds-take_hop-end : goal.slice_bounds-take_hop-end
slice_bounds-take_hop-end c =
    let a = c.args in
    let r : Run = record { hold = a.hold.now; db = a.power_db.now; power = a.power.now; rise = a.rise.now; drop = a.drop.now } in
    let n = c.from-n.result in
    let m = longs n a.bank.now a.bank_f.now a.gate.now a.gate_f.now r c.from-n.ensures c.requires in
    let l = c.loop-held in
    omega (arith, within n _ r l.held-index l.at l.bank l.bank_f l.gate l.gate_f l.rise l.drop m l.invariant.0 (omega arith) _ m.db)

pub offset_bounds-power-at : goal.offset_bounds-power-at
offset_bounds-power-at c =
    let a = c.args in
    let r : Run = record { hold = a.hold.now; db = a.power_db.now; power = a.power.now; rise = a.rise.now; drop = a.drop.now } in
    let n = c.from-n.result in
    let m = longs n a.bank.now a.bank_f.now a.gate.now a.gate_f.now r c.from-n.ensures c.requires in
    let l = c.loop-held in
    omega (arith, within n _ r l.held-index l.at l.bank l.bank_f l.gate l.gate_f l.rise l.drop m l.invariant.0 (omega arith) _ m.power)

pub slice_bounds-take_hop-end-in-loop-held : goal.slice_bounds-take_hop-end-in-loop-held
slice_bounds-take_hop-end-in-loop-held c =
    let a = c.args in
    let r : Run = record { hold = a.hold.now; db = a.power_db.now; power = a.power.now; rise = a.rise.now; drop = a.drop.now } in
    let n = c.from-n.result in
    let m = longs n a.bank.now a.bank_f.now a.gate.now a.gate_f.now r c.from-n.ensures c.requires in
    let l = c.loop-held in
    omega (arith, within n _ r l.held-index l.at l.bank l.bank_f l.gate l.gate_f l.rise l.drop m l.invariant.0 (omega arith) _ m.power)

pub slice_bounds-take_hop-end-in-loop-held-2 : goal.slice_bounds-take_hop-end-in-loop-held-2
slice_bounds-take_hop-end-in-loop-held-2 c =
    let a = c.args in
    let r : Run = record { hold = a.hold.now; db = a.power_db.now; power = a.power.now; rise = a.rise.now; drop = a.drop.now } in
    let n = c.from-n.result in
    let m = longs n a.bank.now a.bank_f.now a.gate.now a.gate_f.now r c.from-n.ensures c.requires in
    let l = c.loop-held in
    omega (arith, within n _ r l.held-index l.at l.bank l.bank_f l.gate l.gate_f l.rise l.drop m l.invariant.0 (omega arith) _ l.invariant.0.rises.long, l.invariant.5)

pub slice_bounds-take_hop-end-in-loop-held-3 : goal.slice_bounds-take_hop-end-in-loop-held-3
slice_bounds-take_hop-end-in-loop-held-3 c =
    let a = c.args in
    let r : Run = record { hold = a.hold.now; db = a.power_db.now; power = a.power.now; rise = a.rise.now; drop = a.drop.now } in
    let n = c.from-n.result in
    let m = longs n a.bank.now a.bank_f.now a.gate.now a.gate_f.now r c.from-n.ensures c.requires in
    let l = c.loop-held in
    omega (arith, within n _ r l.held-index l.at l.bank l.bank_f l.gate l.gate_f l.rise l.drop m l.invariant.0 (omega arith) _ l.invariant.0.drops.long, l.invariant.5)

pub take_hop-requires : goal.take_hop-requires
take_hop-requires c =
    let a = c.args in
    let r : Run = record { hold = a.hold.now; db = a.power_db.now; power = a.power.now; rise = a.rise.now; drop = a.drop.now } in
    let n = c.from-n.result in
    let m = longs n a.bank.now a.bank_f.now a.gate.now a.gate_f.now r c.from-n.ensures c.requires in
    let l = c.loop-held in
    hop-taken-by n _ r l.held-index l.at l.bank l.bank_f l.gate l.gate_f l.rise l.drop m l.invariant.0 (omega arith) _ (width l.at n) l.marks l.invariant.5 _ (width l.marks n)

pub loop-held-preserved : goal.loop-held-preserved
loop-held-preserved c =
    let a = c.args in
    let r : Run = record { hold = a.hold.now; db = a.power_db.now; power = a.power.now; rise = a.rise.now; drop = a.drop.now } in
    let n = c.from-n.result in
    let m = longs n a.bank.now a.bank_f.now a.gate.now a.gate_f.now r c.from-n.ensures c.requires in
    let l = c.loop-held in (
      goes-on-by n _ r l.held-index l.at l.bank l.bank_f l.gate l.gate_f l.rise l.drop m l.invariant.0 (omega arith) _ (width l.at n) l.marks l.invariant.5 _ (width l.marks n) _ _ _ _ _ _ c.take_hop.ensures c.take_hop.auto.rise c.take_hop.auto.drop,
      c.take_hop.auto.bank ∙ l.invariant.1,
      c.take_hop.auto.bank_f ∙ l.invariant.2,
      c.take_hop.auto.gate ∙ l.invariant.3,
      c.take_hop.auto.gate_f ∙ l.invariant.4,
      ap (λ (x : ℕ). x + n) l.invariant.5,
    )

pub returns : goal.returns
unfolding received
returns c =
    let a = c.args in
    let r : Run = record { hold = a.hold.now; db = a.power_db.now; power = a.power.now; rise = a.rise.now; drop = a.drop.now } in
    let l = c.loop-held in
    ends c.from-n.result (alone a.bank.now a.bank_f.now a.gate.now a.gate_f.now) r l.held-index l.at l.bank l.bank_f l.gate l.gate_f l.rise l.drop l.invariant.0
    (omega (arith, l.invariant.0.few)) c.from-n.ensures _ c.requires
