-- `watch_stores::make` meets its contract: the bank, then the gate. Assumes nothing.
use Rattle.std.proofs.Common.{◌≡◌, ◌∙◌, rules, w32}
use mir.Facts.{to_z-of_z}
use Rattle.refusals.specs.Numbers.{number_of}
use Rattle.watch_stores.specs.Made.{Made, made}
use Rattle.refusals.proofs.Answers.{refuses}
use Rattle.watch_stores.proofs.Steps.{refused, both}
use Rattle.watch_stores.proofs.make.Goals as goal

pub returns-in_err-bank_new : goal.returns-in_err-bank_new
returns-in_err-bank_new c =
    let a = c.args in
    let e = c.in_err-bank_new.field-0.0 in
    let left : Made = (number_of e, c.bank_new.new.bank, c.bank_new.new.bank_f, a.gate.now, a.gate_f.now) in
    let h : left ≡ made a.s a.lengths.now a.n a.bank.now a.bank_f.now a.gate.now a.gate_f.now =
    refused _ _ _ _ _ _ _ _ _ _ (rw c.from-channels.ensures at c.in_err-bank_new.ensures) (refuses e) in
    search (rules, h)

pub returns : goal.returns
returns c =
    let a = c.args in
    both a.s a.lengths.now a.n a.bank.now a.bank_f.now a.gate.now a.gate_f.now _ _ _ _ _ _ (rw c.from-channels.ensures at c.in_ok-bank_new.ensures)
    (to_z-of_z {w = w32} (record { sfits = c.signed.type_inv }) ∙ c.signed.ensures)
    (to_z-of_z {w = w32} (record { sfits = c.signed-2.type_inv }) ∙ c.signed-2.ensures)
    (to_z-of_z {w = w32} (record { sfits = c.early_signed.type_inv }) ∙ c.early_signed.ensures)
    (rw c.from-channels.ensures at c.gate_new.ensures)
