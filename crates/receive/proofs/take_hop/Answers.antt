-- `receive::take_hop`: the steps are those of the single calls.
use Rattle.std.proofs.Common.{true, false}
use Rattle.run_model.specs.Runs.{RunHop, alone}
use Rattle.receive.proofs.Hops.{bank-left-by, bank-asks, gate-takes, gate-keeps, stepped-update, stepped-hold, not-held, is-held}
use Rattle.receive.proofs.take_hop.Goals as goal

pub take_hop-requires : goal.take_hop-requires
take_hop-requires c =
    let a = c.args in
    let h : RunHop = record { hold = a.hold; db = a.power_db.now; power = a.power.now; rise = a.rise.now; drop = a.drop.now } in
    bank-asks a.bank.now a.bank_f.now a.gate.now a.gate_f.now h c.requires

pub take_hop-requires-then-hold-eq0 : goal.take_hop-requires-then-hold-eq0
take_hop-requires-then-hold-eq0 c =
    let a = c.args in
    let h : RunHop = record { hold = a.hold; db = a.power_db.now; power = a.power.now; rise = a.rise.now; drop = a.drop.now } in
    let s = alone a.bank.now a.bank_f.now a.gate.now a.gate_f.now in
    gate-takes a.bank.now a.bank_f.now a.gate.now a.gate_f.now h c.requires _ _
    (bank-left-by s h c.requires false (not-held h c.if-hold-eq0.true) _ _ c.take_hop.ensures)

pub take_hop-requires-else-hold-eq0 : goal.take_hop-requires-else-hold-eq0
take_hop-requires-else-hold-eq0 c =
    let a = c.args in
    let h : RunHop = record { hold = a.hold; db = a.power_db.now; power = a.power.now; rise = a.rise.now; drop = a.drop.now } in
    bank-asks a.bank.now a.bank_f.now a.gate.now a.gate_f.now h c.requires

pub take_hold-requires : goal.take_hold-requires
take_hold-requires c =
    let a = c.args in
    let h : RunHop = record { hold = a.hold; db = a.power_db.now; power = a.power.now; rise = a.rise.now; drop = a.drop.now } in
    let s = alone a.bank.now a.bank_f.now a.gate.now a.gate_f.now in
    gate-keeps a.bank.now a.bank_f.now a.gate.now a.gate_f.now h c.requires _ _
    (bank-left-by s h c.requires true (is-held h c.if-hold-eq0.false) _ _ c.take_hop-else-hold-eq0.ensures)

pub returns-then-hold-eq0 : goal.returns-then-hold-eq0
returns-then-hold-eq0 c =
    let a = c.args in
    let h : RunHop = record { hold = a.hold; db = a.power_db.now; power = a.power.now; rise = a.rise.now; drop = a.drop.now } in
    let s = alone a.bank.now a.bank_f.now a.gate.now a.gate_f.now in
    let z = not-held h c.if-hold-eq0.true in
    stepped-update a.bank.now a.bank_f.now a.gate.now a.gate_f.now h c.requires _ _ (bank-left-by s h c.requires false z _ _ c.take_hop.ensures) z _ _ _ _
    c.take_hop-then-hold-eq0.ensures

pub returns-else-hold-eq0 : goal.returns-else-hold-eq0
returns-else-hold-eq0 c =
    let a = c.args in
    let h : RunHop = record { hold = a.hold; db = a.power_db.now; power = a.power.now; rise = a.rise.now; drop = a.drop.now } in
    let s = alone a.bank.now a.bank_f.now a.gate.now a.gate_f.now in
    let z = is-held h c.if-hold-eq0.false in
    stepped-hold a.bank.now a.bank_f.now a.gate.now a.gate_f.now h c.requires _ _ (bank-left-by s h c.requires true z _ _ c.take_hop-else-hold-eq0.ensures) z _ _ _
    c.take_hold.ensures
