-- `gate_pairs::renew_all`: the first k channels are brought up to date.
use Rattle.gate_pairs.proofs.Renewals.{Upto}
use Rattle.gate_pairs.proofs.renew_all.Given as goal

abbrev pub invariant-loop-k : goal.invariant-loop-k
invariant-loop-k l = Upto l.fn.pairs l.rise l.on l.k l.pairs
