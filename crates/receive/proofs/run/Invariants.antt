use Rattle.std.proofs.Common.{◌≡◌, length}
use Rattle.run_model.specs.Runs.{alone}
use Rattle.receive.proofs.Going.{Going}
use Rattle.receive.proofs.run.Given as goal

-- the hops before this one are taken
abbrev pub invariant-loop-held : goal.invariant-loop-held
invariant-loop-held l =
    Going l.n (alone l.initial.bank l.initial.bank_f l.initial.gate l.initial.gate_f)
    (record { hold = l.hold; db = l.power_db; power = l.power; rise = l.initial.rise; drop = l.initial.drop }) l.held-index l.at l.bank l.bank_f l.gate l.gate_f
    l.rise l.drop
    × (length l.bank ≡ length l.initial.bank) × (length l.bank_f ≡ length l.initial.bank_f) × (length l.gate ≡ length l.initial.gate)
    × (length l.gate_f ≡ length l.initial.gate_f) × (l.marks ≡ l.at)
