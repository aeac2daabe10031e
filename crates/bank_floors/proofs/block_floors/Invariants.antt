use Rattle.std.proofs.Common.{◌≡◌, ◌*◌}
use Rattle.laws.specs.Lists.{part, splice, tab}
use Rattle.model.specs.Bank.{block, median}
use Rattle.bank_floors.proofs.block_floors.Given as goal

abbrev pub invariant-loop-i : goal.invariant-loop-i
invariant-loop-i l = l.bank_f ≡ splice (4 * l.n) l.i l.initial.bank_f (tab l.i (λ i. median (block i (part l.n l.n l.initial.bank_f))))
