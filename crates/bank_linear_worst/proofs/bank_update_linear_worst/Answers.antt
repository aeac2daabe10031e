-- A hop of too many channels is refused for its length, whatever its dB. Assumes nothing.
use Rattle.std.proofs.Common.{ap, ◌∙◌, ℕ}
use Rattle.bank_linear_worst.proofs.TooMany.{too_many}
use Rattle.bank_linear_worst.proofs.bank_update_linear_worst.Goals as goal

pub returns-then-n-gt512 : goal.returns-then-n-gt512
returns-then-n-gt512 c =
    let a = c.args in
    ap (λ (r : ℕ). (r, a.bank.now, a.bank_f.now, a.worst.now, a.worst_f.now)) c.carry_refusal.ensures
    ∙ too_many a.bank.now a.bank_f.now a.worst.now a.worst_f.now a.power.now c.if-n-gt512.true _ a.hold_reference
