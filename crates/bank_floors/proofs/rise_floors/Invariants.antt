use Rattle.std.proofs.Common.{◌≡◌, ◌*◌}
use Rattle.laws.specs.Lists.{splice, tab}
use Rattle.bank_stages.proofs.Loops.{rise_at_of}
use Rattle.bank_floors.proofs.rise_floors.Given as goal

abbrev pub invariant-loop-k : goal.invariant-loop-k
invariant-loop-k l = l.bank_f ≡ splice (3 * l.n) l.k l.initial.bank_f (tab l.k (rise_at_of l.bank l.initial.bank_f l.n))
